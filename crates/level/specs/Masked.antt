-- What the masks of a sheet's machines are. Nothing here is needed to read a public contract.
use Rattle.std.specs.Prelude.{ℕ, ◌<◌, ◌≡◌, List, [], get_or}
use Rattle.model.specs.Machine.{Machine, machine_of, hyperperiod}
use Rattle.sheet.specs.Format.{machine_count, decode}
use Rattle.walk.specs.Inside.{Marks}

-- word t marks the tick t of the machine, for the ticks below h
pub record MachineMasked (m : Machine) (h : ℕ) (masks : List ℕ) : Type 0 where
  pub at : (t : ℕ) → t < h → Marks m t (get_or masks t 0)

-- machine j's mask of the tick t
abbrev pub mask_at : List (List ℕ) → ℕ → ℕ → ℕ
mask_at masks j t = get_or (get_or masks j []) t 0

-- each machine's mask marks its tick, for the ticks below H
pub record Masked (b : List ℕ) (masks : List (List ℕ)) : Type 0 where
  pub at : (j t : ℕ) → j < machine_count b → t < hyperperiod (decode b)
      → Marks (machine_of (decode b) j) t (mask_at masks j t)

-- no machine before machine n has an instant at t
pub record Idle (masks : List (List ℕ)) (t n : ℕ) : Type 0 where
  pub before : (j : ℕ) → j < n → mask_at masks j t ≡ 0

-- word t of `lowest` is such a machine, for the ticks below h
pub record Lowest (h : ℕ) (masks : List (List ℕ)) (lowest : List ℕ) : Type 0 where
  pub at : (t : ℕ) → t < h → Idle masks t (get_or lowest t 0)
