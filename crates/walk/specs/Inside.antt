-- What the walk over the ticks speaks of: the mask of a tick, and a row with a tick, walked on or back.
-- Nothing here is needed to read a public contract.
use Rattle.std.specs.Prelude.{ℕ, zero, suc, ◌+◌, ◌*◌, ◌^◌, ◌≤◌, ◌<◌, max, ◌≡◌}
use Rattle.std.specs.Prelude.{Bool, true, false, cond, leb, List, length, get_or, set}
use Rattle.std.specs.Int.{bit_at}
use Rattle.model.specs.declared.Way.{Way}
use Rattle.model.specs.declared.Way.TheVariants.{On}
use Rattle.model.specs.Machine.{Machine, count, action_of}
use Rattle.model.specs.Legal.{cost, requested}
use Rattle.model.specs.Reckon.{most}
use Rattle.model.specs.Inside.{may_trigger, behind, ahead, figure, IsRow, IsMoved, due_then}
use Rattle.model.specs.Inside.{LastInstant as IsLastInstant}
use Rattle.walk.specs.declared.LastInstant.{LastInstant}

-- a test as a binary digit
unfoldable pub bit : Bool → ℕ
bit true = 1
bit false = 0

-- the number whose n binary digits are the tests f j, f (j + 1) and so on, the lowest first
unfoldable pub binary : (ℕ → Bool) → ℕ → ℕ → ℕ
binary f j zero = 0
binary f j (suc n) = bit (f j) + 2 * binary f (suc j) n

-- the mask marks the actions that may be triggered at t: digit j is 1 where action j may
pub record Marks (m : Machine) (t mask : ℕ) : Type 0 where
  pub is : mask ≡ binary (may_trigger m t) 0 (count m)

-- word k marks the tick from + k
pub record AllMarked (m : Machine) (from : ℕ) (masks : List ℕ) : Type 0 where
  pub at : (k : ℕ) → k < length masks → Marks m (from + k) (get_or masks k 0)

-- word k marks the tick from + k, for each k up to n
pub record WindowMarked (m : Machine) (from n : ℕ) (masks : List ℕ) : Type 0 where
  pub at : (k : ℕ) → k ≤ n → Marks m (from + k) (get_or masks k 0)

-- digit j is the lowest 1 of `left`, and `others` has the same digits without it
pub record Lowest (left j others : ℕ) : Type 0 where
  pub one : bit_at left j ≡ 1
  pub lowest : (i : ℕ) → i < j → bit_at left i ≡ 0
  pub taken : bit_at others j ≡ 0
  pub kept : (i : ℕ) → (i ≡ j → ⊥) → bit_at others i ≡ bit_at left i

-- a mask of some tick, and figures so small that a cost may be added
pub record Ready (m : Machine) (mask : ℕ) (row : List ℕ) : Type 0 where
  pub tick : ℕ
  pub marks : Marks m tick mask
  pub small : (q : ℕ) → q < m.states → figure row q < 2 ^ 31

-- what action k brings to the state that it leads to, where the figures before the tick are `row`
abbrev pub brought : Way → Machine → ℕ → List ℕ → ℕ
brought way m k row = figure row (behind way (action_of m k)) + cost m k

-- action j of a machine joins two states of a row, and what it brings fits a word
pub record Joins (m : Machine) (j : ℕ) (row : List ℕ) : Type 0 where
  pub below : j < count m
  pub leaves : (way : Way) → behind way (action_of m j) < 16
  pub reaches : (way : Way) → ahead way (action_of m j) < 16
  pub fits : (way : Way) → brought way m j row < 2 ^ 32

-- the row, raised at the state that action k leads to, where the figures before the tick are `old`
abbrev pub pushed : Way → Machine → ℕ → List ℕ → List ℕ → List ℕ
pushed way m k old row =
    let q = ahead way (action_of m k) in
    set row q (max (figure row q) (brought way m k old))

-- `most`, or what action k brings, if that is more and due within `ticks` ticks
abbrev pub due_or : Machine → ℕ → List ℕ → ℕ → ℕ → ℕ
due_or m k row ticks most = max most (cond (leb (action_of m k).deadline ticks) (brought On m k row) 0)

-- `new` is the row `old` after a walk over any tick that the mask marks
pub record Ticked (way : Way) (m : Machine) (mask : ℕ) (old new : List ℕ) : Type 0 where
  pub moved : (t : ℕ) → Marks m t mask → IsMoved way m (requested m) t old new
  pub long : length new ≡ 16

-- the last instant before s + n is that many ticks from s, with that mask and the row before it
pub record Last (m : Machine) (s n : ℕ) (last : LastInstant) : Type 0 where
  pub is : IsLastInstant m s n last.ticks
  pub marks : Marks m (s + last.ticks) last.mask
  pub figures : IsRow m (requested m) s last.ticks last.row

-- v is the largest figure, or what an action brings that is due within `ticks` ticks of the tick that the mask marks
pub record DueWithin (m : Machine) (mask : ℕ) (row : List ℕ) (ticks v : ℕ) : Type 0 where
  pub is : (t : ℕ) → Marks m t mask
      → v ≡ max (most m.states (figure row)) (most (count m) (due_then m t (t + ticks) (figure row)))
