-- The plain reckoner: an action is best triggered at its first instant, so that asking each action comes to the bound.
use Prim.Native.Nat.{ℕ, zero, suc, ◌+◌, ◌≤◌, ◌<◌, max}
use mathlib.Core.Path.{◌≡◌, refl, ◌∙◌, ap, ap₂}
use mathlib.Core.Bool.{Bool, true, false, cond, ◌&&◌}
use mathlib.Core.Logic.{⊎_elim}
use native.Mathlib.Omega.{arith}
use native.Mathlib.Nat.{le_antisymm, eq-or-lt_of_le}
use Rattle.model.specs.Machine.{Machine, count, action_of}
use Rattle.model.specs.Legal.{Instant, Pair}
use Rattle.model.specs.Reckon.{is_instant, most, pair, after, gain, best}
use Rattle.model.specs.Inside.{at_first, asks_from}
use Rattle.model.proofs.Names.{is_instant_law, is_instant_false}
use Rattle.model.proofs.Most.{most_below, most_cong, most_both}

-- what is brought at once is no less than what is brought later
now_upper : (now : Bool) (v u later : ℕ) → v ≤ u → later ≤ u → cond now v later ≤ u
now_upper true v u later a b = a
now_upper false v u later a b = b

now_or_later : (may now : Bool) (v later : ℕ) → later ≤ v
    → cond may (cond now v later) 0 ≡ max (cond may later 0) (cond (may && now) v 0)
now_or_later true true v later h = omega arith
now_or_later true false v later h = omega arith
now_or_later false now v later h = omega arith

-- of weights that do not depend on the instant
module _ (m : Machine) (w : Pair → ℕ) (still : (k t u : ℕ) → w (pair k t) ≡ w (pair k u)) where
  at_first_upper : (t n k u : ℕ) → at_first m w t n k ≤ w (pair k u) + best m w t n (after m k)
  unfolding at_first best
  at_first_upper t zero k u = omega arith
  at_first_upper t (suc n) k u =
      now_upper (is_instant m k t) _ _ _ (omega (arith, still k t u)) (omega (arith, at_first_upper (suc t) n k u))

  pub asks_best : (t n : ℕ) (from : ℕ → Bool) → most (count m) (asks_from m w t n from) ≡ best m w t n from
  unfolding at_first best
  asks_best t zero from =
      le_antisymm
      (most_below (count m) _ 0 (λ k l. now_upper (from (action_of m k).source) 0 0 0 (omega arith) (omega arith)))
      (omega arith)
  asks_best t (suc n) from =
      most_cong (count m) _ _ (λ k l.
      now_or_later (from (action_of m k).source) (is_instant m k t) _ _ (at_first_upper (suc t) n k t))
      ∙ most_both (count m) (asks_from m w (suc t) n from) (gain m w t (best m w (suc t) n) from)
      ∙ ap (λ v. max v (most (count m) (gain m w t (best m w (suc t) n) from))) (asks_best (suc t) n from)

module _ (m : Machine) (w : Pair → ℕ) (k : ℕ) where
  -- without an instant in the window it brings nothing
  pub at_first_none : (t n : ℕ) → ((u : ℕ) → t ≤ u → u < t + n → Instant m k u → ⊥) → at_first m w t n k ≡ 0
  unfolding at_first
  at_first_none t zero none = refl
  at_first_none t (suc n) none =
      rw (is_instant_false m k t (none t (omega arith) (omega arith)))
      (at_first_none (suc t) n (λ u a b. none u (omega arith) (omega arith)))

  -- else its weight at the first one, and the best that follows
  pub at_first_is : (t n u i : ℕ) → u + suc i ≡ t + n → t ≤ u → Instant m k u
      → ((v : ℕ) → t ≤ v → v < u → Instant m k v → ⊥)
      → at_first m w t n k ≡ w (pair k u) + best m w (suc u) i (after m k)
  unfolding at_first
  at_first_is t zero u i e l now none = absurd (omega arith)
  at_first_is t (suc n) u i e l now none =
      ⊎_elim
      (λ (z : t ≡ u).
      let y : n ≡ i = omega arith in
      rw ((is_instant_law m k t).1 (rw z now)) (ap₂ (λ x y. w (pair k x) + best m w (suc x) y (after m k)) z y))
      (λ z. rw (is_instant_false m k t (none t (omega arith) z))
      (at_first_is (suc t) n u i (omega arith) z now (λ v a b. none v (omega arith) b)))
      (eq-or-lt_of_le l)
