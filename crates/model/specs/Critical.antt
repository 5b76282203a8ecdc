-- Document 01, "The critical sequence of a window": what it is, and how it is found.
-- That there is exactly one, and that `critical` finds it, is proved in proofs/Critical.antt.
use Rattle.std.specs.Prelude.{ℕ, zero, suc, ◌+◌, ◌<◌, ◌≡◌, Bool, ◌&&◌, List, [], ◌∷◌, ◌⊎◌, eqb}
use Rattle.std.specs.Prelude.{Option, None, Some}
use Rattle.model.specs.Machine.{Machine, count}
use Rattle.model.specs.Legal.{Pair, Legal, Each, Within, total, requested, IsRequestBound}
use Rattle.model.specs.Reckon.{may_begin, pair, is_open, after, best}
use Rattle.model.specs.Search.{smallest_below}

-- p comes before r: smaller instant first, then smaller action number
abbrev pub Before : Pair → Pair → Type 0
Before p r = (p.instant < r.instant) ⊎ ((p.instant ≡ r.instant) × (p.action < r.action))

-- σ does not come after τ, compared pair by pair: the first two pairs that differ decide
abbrev pub NotAfter : List Pair → List Pair → Type 0
NotAfter [] τ = Unit
NotAfter (p ∷ σ) [] = ⊥
NotAfter (p ∷ σ) (r ∷ τ) = Before p r ⊎ ((p ≡ r) × NotAfter σ τ)

-- σ is legal, lies in [s, f), and reaches the request bound
pub record Reaches (m : Machine) (s f : ℕ) (σ : List Pair) : Type 0 where
  pub legal : Legal m σ
  pub within : Each (Within s f) σ
  pub bound : IsRequestBound m s f (total (requested m) σ)

-- σ is the critical sequence of [s, f): of those that reach the bound, the first
pub record IsCritical (m : Machine) (s f : ℕ) (σ : List Pair) : Type 0 where
  pub reaches : Reaches m s f σ
  pub first : (τ : List Pair) → Reaches m s f τ → NotAfter σ τ

-- action k may be triggered at t, and with the best that follows it makes up the largest total of [t, t + n]
abbrev pub is_making : Machine → (Pair → ℕ) → ℕ → ℕ → (ℕ → Bool) → ℕ → Bool
is_making m w t n from k =
    is_open m from (pair k t) && eqb (w (pair k t) + best m w (suc t) n (after m k)) (best m w t (suc n) from)

-- `go k` where there is a number k, else `stay`
abbrev pub go_or_stay : Option ℕ → (ℕ → List Pair) → List Pair → List Pair
go_or_stay None go stay = stay
go_or_stay (Some k) go stay = go k

-- the first sequence of the largest total: at each tick the smallest action that makes it up, if there is one
unfoldable pub first_best : Machine → (Pair → ℕ) → ℕ → ℕ → (ℕ → Bool) → List Pair
first_best m w t zero from = []
first_best m w t (suc n) from =
    go_or_stay (smallest_below (count m) (is_making m w t n from))
    (λ k. pair k t ∷ first_best m w (suc t) n (after m k))
    (first_best m w (suc t) n from)

-- the critical sequence of [s, s + n)
unfoldable pub critical : Machine → ℕ → ℕ → List Pair
critical m s n = first_best m (requested m) s n (may_begin m)
