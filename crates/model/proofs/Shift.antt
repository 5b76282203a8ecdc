-- A window moved by a time after which the machine's instants come again, as by a hyperperiod, has the same bounds.
use Prim.Native.Nat.{ℕ, zero, suc, ◌+◌, ◌-◌, ◌*◌, ◌/◌, ◌%◌, ◌≤◌, ◌<◌, max}
use mathlib.Core.Path.{◌≡◌, refl, sym, ◌∙◌, ap, ap₂, subst}
use mathlib.Core.Bool.{Bool}
use mathlib.Core.Logic.Iff
use mathlib.Core.Logic.{◌↔◌}
use native.Mathlib.Omega.{arith}
use native.Mathlib.Nat.{suc-add, mod-add-div'}
use Rattle.model.specs.Machine.{Machine, count, action_of}
use Rattle.model.specs.Legal.{Instant, Pair, requested, demanded, IsRequestBound, IsDemandBound}
use Rattle.model.specs.Reckon.{is_instant, may_begin, pair, after, best, request, demand}
use Rattle.model.specs.Inside.{Repeats}
use Rattle.model.proofs.Tests.{test_same, leb_same}
use Rattle.model.proofs.Most.{most_cong}
use Rattle.model.proofs.Names.{is_instant_law}
use Rattle.model.proofs.Largest.{largest_same}
use Rattle.model.proofs.Bounds.{request_is, demand_is}

pub repeats_times : (m : Machine) (h : ℕ) → Repeats m h → (j : ℕ) → Repeats m (j * h)
repeats_times m h again zero k l t = subst (λ (x : ℕ). Instant m k x ↔ Instant m k t) (omega arith) Iff.rfl
repeats_times m h again (suc j) k l t =
    subst (λ (x : ℕ). Instant m k x ↔ Instant m k t) (omega arith)
    (Iff.trans (again k l (t + j * h)) (repeats_times m h again j k l t))

module _ (m : Machine) (h : ℕ) (again : Repeats m h) where
  is_instant_shift : (k : ℕ) → k < count m → (t : ℕ) → is_instant m k (t + h) ≡ is_instant m k t
  is_instant_shift k l t =
      test_same (is_instant m k (t + h)) (is_instant m k t)
      (Iff.trans (is_instant_law m k (t + h)) (Iff.trans (again k l t) (Iff.symm (is_instant_law m k t))))

  best_shift : (w v : Pair → ℕ) → ((k t : ℕ) → v (pair k (t + h)) ≡ w (pair k t)) → (t n : ℕ) (from : ℕ → Bool)
      → best m v (t + h) n from ≡ best m w t n from
  unfolding best
  best_shift w v e t zero from = refl
  best_shift w v e t (suc n) from =
      ap₂ max (rw suc-add at (best_shift w v e (suc t) n from))
      (most_cong (count m) _ _ (λ k l.
      rw (is_instant_shift k l t, e k t, ← (rw suc-add at (best_shift w v e (suc t) n (after m k))))))

  pub request_shift : (s n : ℕ) → request m (s + h) n ≡ request m s n
  unfolding request
  request_shift s n = best_shift (requested m) (requested m) (λ k t. refl) s n (may_begin m)

  pub demand_shift : (s n : ℕ) → demand m (s + h) n ≡ demand m s n
  unfolding demand
  demand_shift s n =
      best_shift (demanded m (s + n)) (demanded m (s + h + n))
      (λ k t.
      let d = (action_of m k).deadline in rw (leb_same (t + h + d) (s + h + n) (t + d) (s + n) (omega arith)))
      s (suc n) (may_begin m)

  -- the same of the bounds themselves: no sequence is moved, for there is one bound of each window
  pub request_bound_shift : (s f v : ℕ) → s ≤ f → IsRequestBound m (s + h) (f + h) v ↔ IsRequestBound m s f v
  request_bound_shift s f v l =
      largest_same (request_is m (s + h) (f - s) (f + h) (omega arith)) (request_is m s (f - s) f (omega arith))
      (request_shift s (f - s)) v

  pub demand_bound_shift : (s t v : ℕ) → s ≤ t → IsDemandBound m (s + h) (t + h) v ↔ IsDemandBound m s t v
  demand_bound_shift s t v l =
      largest_same (demand_is m (s + h) (t - s) (t + h) (omega arith)) (demand_is m s (t - s) t (omega arith))
      (demand_shift s (t - s)) v

-- so the starts below h stand for all
module _ (m : Machine) (h : ℕ) (again : Repeats m h) (s n : ℕ) where
  pub request_remainder : request m s n ≡ request m (s % h) n
  request_remainder =
      ap (λ x. request m x n) (sym (mod-add-div' s h))
      ∙ request_shift m (s / h * h) (repeats_times m h again (s / h)) (s % h) n

  pub demand_remainder : demand m s n ≡ demand m (s % h) n
  demand_remainder =
      ap (λ x. demand m x n) (sym (mod-add-div' s h))
      ∙ demand_shift m (s / h * h) (repeats_times m h again (s / h)) (s % h) n
