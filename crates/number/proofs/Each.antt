-- What holds of each number of a list, of its parts, and of joined lists.
use Prim.Native.Nat.{ℕ, zero, suc}
use mathlib.Core.List.{List, [], ◌∷◌, ◌++◌}
use mathlib.Core.Logic.{◌↔◌}
use lib.ListN.{drop}
use Rattle.number.specs.Divide.{Each}

module _ (P : ℕ → Type 0) where
  pub each_append : (l r : List ℕ) → Each P (l ++ r) ↔ (Each P l × Each P r)
  each_append [] r = (λ h. (tt, h), λ h. h.1)
  each_append (a ∷ l) r = (
    λ (h, hs). let (x, y) = (each_append l r).0 hs in ((h, x), y),
    λ ((h, x), y). (h, (each_append l r).1 (x, y)),
  )

  pub each_drop : (j : ℕ) (l : List ℕ) → Each P l → Each P (drop j l)
  each_drop zero l h = h
  each_drop (suc j) [] h = tt
  each_drop (suc j) (a ∷ l) (p, h) = each_drop j l h
