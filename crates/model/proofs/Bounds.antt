-- The reckoned bounds are the bounds, of every machine and window; how large they are.
use Prim.Native.Nat.{ℕ, suc, ◌+◌, ◌*◌, ◌≤◌, ◌<◌}
use mathlib.Core.Path.{◌≡◌, refl}
use mathlib.Core.Logic.{◌⊎◌, inl, inr, ⊎_elim}
use native.Mathlib.Omega.{arith}
use lib.Dec.{leb}
use borrow.Author.Tests.{lt-leb, le-leb, leb-true}
use Rattle.model.specs.Machine.{Machine, count, action_of}
use Rattle.model.specs.Legal.{Pair, Within, cost, requested, demanded, IsRequestBound, IsDemandBound}
use Rattle.model.specs.Reckon.{may_begin, best, request, demand}
use Rattle.model.proofs.Tests.{cond_cases}
use Rattle.model.proofs.Largest.{largest_below}
use Rattle.model.proofs.Onward.{Onward, legal_onward}
use Rattle.model.proofs.Best.{best_is, best_upper, best_limit}

pub request_is : (m : Machine) (s n f : ℕ) → s + n ≡ f → IsRequestBound m s f (request m s n)
unfolding request
request_is m s n f e =
    best_is m (Within s f) (requested m) s n (λ p k. k.0) (λ p a b. (a, omega arith)) (λ p k l. absurd (omega arith))

-- a pair whose deadline lies beyond t weighs nothing, and any other weighs its action's cost
module _ (m : Machine) (t : ℕ) (p : Pair) where
  abbrev end : ℕ
  end = p.instant + (action_of m p.action).deadline

  pub asked_by_late : t < end → demanded m t p ≡ 0
  asked_by_late h = rw (lt-leb end t h) refl

  pub asked_by_due : end ≤ t → demanded m t p ≡ requested m p
  asked_by_due h = rw (le-leb end t h) refl

  asked_by_cases : (demanded m t p ≡ 0) ⊎ ((end ≤ t) × (demanded m t p ≡ requested m p))
  asked_by_cases =
      ⊎_elim (λ z. inl z) (λ (b, e). inr (leb-true end t b, e)) (cond_cases (leb end t) (requested m p))

pub demand_is : (m : Machine) (s n t : ℕ) → s + n ≡ t → IsDemandBound m s t (demand m s n)
unfolding demand
demand_is m s n t e =
    rw (← e)
    (best_is m (λ p. s ≤ p.instant) (demanded m (s + n)) s (suc n) (λ p k. k) (λ p a b. a)
    (λ p k l. asked_by_late m (s + n) p (omega arith)))

-- the request bound of an empty window
pub request_empty : (m : Machine) (s : ℕ) → request m s 0 ≡ 0
unfolding request best
request_empty m s = refl

-- at most the largest cost for each tick of the window
pub request_limit : (m : Machine) (c : ℕ) → ((k : ℕ) → k < count m → cost m k ≤ c) → (s n : ℕ) → request m s n ≤ n * c
unfolding request
request_limit m c h s n = best_limit m (requested m) c (λ p. h p.action) s n (may_begin m)

-- where each deadline is at least 1, no more is due by the end of a window than is requested in it
module _ (m : Machine) (positive : (k : ℕ) → k < count m → 0 < (action_of m k).deadline) where
  pub demand_request : (s n : ℕ) → demand m s n ≤ request m s n
  demand_request s n =
      let due : IsDemandBound m s f (demand m s n) = demand_is m s n f refl in
      let goes : Onward m ok (may_begin m) s due.sequence =
      legal_onward m ok s (λ p a. a) due.sequence due.holds.0 due.holds.1 in
      omega (
        arith,
        due.reached,
        best_upper m ok w f (λ p i a b. asked_by_late m f p (omega (arith, positive p.action i))) s n (may_begin m)
            due.sequence (omega arith) goes,
        largest_below (λ σ h. h) (λ p. ⊎_elim (λ z. omega arith) (λ (b, e). omega arith) (asked_by_cases m f p))
            (best_is m (Within s f) w s n (λ p a. a.0) (λ p a b. (a, b)) (λ p a b. absurd (omega arith)))
            (request_is m s n f refl),
      )
    where
      f : ℕ
      f = s + n

      w : Pair → ℕ
      w = demanded m f

      ok : Pair → Type 0
      ok p = s ≤ p.instant

  pub demand_limit : (c : ℕ) → ((k : ℕ) → k < count m → cost m k ≤ c) → (s n : ℕ) → demand m s n ≤ n * c
  demand_limit c h s n = omega (arith, demand_request s n, request_limit m c h s n)
