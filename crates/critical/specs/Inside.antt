-- What the contracts of inner functions cite, and no reader has to believe.
use Rattle.std.specs.Prelude.{ℕ, ◌≡◌, Bool, true, ◌&&◌, List, [], ◌∷◌, map, eqb, Option, None, Some}
use Rattle.model.specs.declared.Way.TheVariants.{Back}
use Rattle.model.specs.Machine.{Machine, count, action_of}
use Rattle.model.specs.Legal.{Pair}
use Rattle.model.specs.Inside.{may_trigger}
use Rattle.model.specs.Search.{smallest_below}
use Rattle.walk.specs.Inside.{Marks, brought}

-- an array (action, instant) for each pair: end to end they are the words of the sequence
abbrev pub arrays_of : List Pair → List (List ℕ)
arrays_of σ = map (λ p. p.action ∷ p.instant ∷ []) σ

-- the next pair may leave state q: any at first, and then the last pair's sink
abbrev pub may_leave : Option ℕ → ℕ → Bool
may_leave None q = true
may_leave (Some p) q = eqb p q

-- action k may be the next, and with its sink's figure makes up what is left of the bound
abbrev pub makes_up : Machine → Option ℕ → ℕ → List ℕ → ℕ → Bool
makes_up m leaves left later k = may_leave leaves (action_of m k).source && eqb (brought Back m k later) left

-- action k does so at t, where it may be triggered
abbrev pub makes_at : Machine → ℕ → Option ℕ → ℕ → List ℕ → ℕ → Bool
makes_at m t leaves left later k = may_trigger m t k && makes_up m leaves left later k

-- r is the smallest action that does so at any tick that the mask marks, if there is one
pub record FirstMaking (m : Machine) (mask : ℕ) (leaves : Option ℕ) (left : ℕ) (later : List ℕ) (r : Option ℕ)
    : Type 0 where
  pub is : (t : ℕ) → Marks m t mask → r ≡ smallest_below (count m) (makes_at m t leaves left later)
