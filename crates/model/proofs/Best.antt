-- `best` is the largest total of what goes onward from a set of states: none has more, and one has as much.
use Prim.Native.Nat.{ℕ, zero, suc, ◌+◌, ◌*◌, ◌≤◌, ◌<◌}
use mathlib.Core.Path.{◌≡◌, refl}
use mathlib.Core.Bool.{Bool}
use mathlib.Core.List.{List, [], ◌∷◌}
use mathlib.Core.Logic.{⊎_elim}
use native.Mathlib.Omega.{arith}
use native.Mathlib.Decide.{dec_le}
use native.Mathlib.Nat.{eq-or-lt_of_le, suc-mul}
use Rattle.model.specs.Machine.{Machine, count}
use Rattle.model.specs.Legal.{Pair, Legal, Each, total, IsLargest}
use Rattle.model.specs.Reckon.{most, may_begin, pair, is_open, after, gain, best}
use Rattle.model.proofs.Tests.{cond_cases}
use Rattle.model.proofs.Most.{most_above, most_below, most_at}
use Rattle.model.proofs.Onward.{Onward, onward_sooner, legal_onward, onward_legal}

module _ (m : Machine) (ok : Pair → Type 0) (w : Pair → ℕ) where
  -- where pairs from f on weigh nothing, what is left from f on weighs nothing
  module _ (f : ℕ) (idle : (p : Pair) → p.action < count m → ok p → f ≤ p.instant → w p ≡ 0) where
    pub onward_idle : (from : ℕ → Bool) (t : ℕ) (σ : List Pair) → f ≤ t → Onward m ok from t σ → total w σ ≡ 0
    onward_idle from t [] l h = refl
    onward_idle from t (p ∷ σ) l (i, o, a, k, r) =
        omega (arith, idle p i k (omega arith), onward_idle (after m p.action) (suc p.instant) σ (omega arith) r)

    pub best_upper : (t n : ℕ) (from : ℕ → Bool) (σ : List Pair) → f ≤ t + n → Onward m ok from t σ
        → total w σ ≤ best m w t n from
    unfolding best
    best_upper t zero from σ l h = omega (arith, onward_idle from t σ (omega arith) h)
    best_upper t (suc n) from [] l h = omega arith
    best_upper t (suc n) from (p ∷ σ) l (i, o, a, k, r) =
        ⊎_elim
        (λ e. rw e
        (omega (
          arith,
          rw o at (most_above (count m) (gain m w p.instant (best m w (suc p.instant) n) from) p.action i),
          best_upper (suc p.instant) n (after m p.action) σ (omega arith) r,
        )))
        (λ b. omega (arith, best_upper (suc t) n from (p ∷ σ) (omega arith) (i, o, b, k, r)))
        (eq-or-lt_of_le a)

  pub best_lower : (s f : ℕ) → ((p : Pair) → s ≤ p.instant → p.instant < f → ok p) → (t n : ℕ) (from : ℕ → Bool)
      → s ≤ t → t + n ≤ f → (σ : List Pair) × Onward m ok from t σ × (total w σ ≡ best m w t n from)
  unfolding best
  best_lower s f fits t zero from b l = ([], tt, refl)
  best_lower s f fits t (suc n) from b l =
      elim (dec_le (most (count m) (gain m w t (best m w (suc t) n) from)) (best m w (suc t) n from)) [
        | yes h ↦ (let (σ, r, e) = best_lower s f fits (suc t) n from (omega arith) (omega arith) in
            (σ, onward_sooner m ok from t σ r, omega arith))
        | no h ↦
            ⊎_elim (λ z. absurd (omega arith))
            (λ (k, a, e).
            ⊎_elim (λ z. absurd (omega arith))
            (λ (o, g). let (σ, r, j) = best_lower s f fits (suc t) n (after m k) (omega arith) (omega arith) in
            (pair k t ∷ σ, (a, o, omega arith, fits (pair k t) b (omega arith), r), omega arith))
            (cond_cases (is_open m from (pair k t)) (w (pair k t) + best m w (suc t) n (after m k))))
            (most_at (count m) (gain m w t (best m w (suc t) n) from))
      ]

  -- so it is the largest of the legal sequences whose pairs are `ok`, where pairs beyond the window weigh nothing
  pub best_is : (s n : ℕ) → ((p : Pair) → ok p → s ≤ p.instant)
      → ((p : Pair) → s ≤ p.instant → p.instant < s + n → ok p) → ((p : Pair) → ok p → s + n ≤ p.instant → w p ≡ 0)
      → IsLargest (λ σ. Legal m σ × Each ok σ) w (best m w s n (may_begin m))
  best_is s n from fits idle =
      let (σ, r, e) = best_lower s (s + n) fits s n (may_begin m) (omega arith) (omega arith) in
      record {
        sequence = σ;
        holds = onward_legal m ok s σ r;
        reached = e;
        limit = λ τ (a, k).
            best_upper (s + n) (λ p i. idle p) s n (may_begin m) τ (omega arith) (legal_onward m ok s from τ a k);
      }

-- at most c for each tick of the window, where no action weighs more than c
pub best_limit : (m : Machine) (w : Pair → ℕ) (c : ℕ) → ((p : Pair) → p.action < count m → w p ≤ c)
    → (t n : ℕ) (from : ℕ → Bool) → best m w t n from ≤ n * c
unfolding best
best_limit m w c h t zero from = omega arith
best_limit m w c h t (suc n) from =
    omega (
      arith,
      best_limit m w c h (suc t) n from,
      suc-mul n c,
      most_below (count m) (gain m w t (best m w (suc t) n) from) (n * c + c) (λ k l.
          ⊎_elim (λ z. omega arith) (λ (o, g). omega (arith, h (pair k t) l, best_limit m w c h (suc t) n (after m k)))
          (cond_cases (is_open m from (pair k t)) (w (pair k t) + best m w (suc t) n (after m k)))),
    )
