-- The walk over the ticks of a window.
use Prim.Native.Nat.{ℕ, ◌+◌, ◌<◌}
use mathlib.Core.List.{List}
use native.Mathlib.Omega.{arith}
use lib.ListN.{length, get_or, take}
use Rattle.std.proofs.Common.{length-take, get_or-take}
use Rattle.model.specs.Machine.{Machine}
use Rattle.walk.specs.Inside.{Marks, WindowMarked}

-- the front of a window's masks marks its ticks
pub front_marks : {m : Machine} {s n k : ℕ} (masks : List ℕ) → WindowMarked m s n masks → k < length (take n masks)
    → (k < n) × Marks m (s + k) (get_or (take n masks) k 0)
front_marks {n = n} {k = k} masks h l =
    let inside : k < n = omega (arith, length-take n masks) in
    (inside, rw (get_or-take n masks k 0 inside) (h.at k (omega arith)))
