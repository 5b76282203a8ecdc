-- The critical sequence: there is one of each window and no second, and `critical` finds it.
use Prim.Native.Nat.{ℕ, zero, suc, ◌+◌, ◌≤◌, ◌<◌}
use mathlib.Core.Path.{◌≡◌, refl, sym, ◌∙◌, ap, ap₂}
use mathlib.Core.Bool.{Bool, true, false, false≢true}
use mathlib.Core.List.{List, [], ◌∷◌}
use Rattle.std.specs.Prelude.{Option, None, Some}
use mathlib.Core.Logic.{inl, inr, ⊎_elim}
use native.Mathlib.Omega.{arith}
use native.Mathlib.Decide.{dec_le, dec_lt}
use native.Mathlib.Nat.{eq-or-lt_of_le}
use borrow.Author.Tests.{eq-eqb, eqb-true}
use Rattle.model.specs.Machine.{Machine, count}
use Rattle.model.specs.Legal.{Pair, Within, total, cost, requested, IsRequestBound}
use Rattle.model.specs.Reckon.{may_begin, most, pair, is_open, after, gain, best, request}
use Rattle.model.specs.Critical.{Before, NotAfter, Reaches, IsCritical, is_making, go_or_stay, first_best, critical}
use Rattle.model.specs.Search.{smallest_below}
use Rattle.model.proofs.Tests.{both_true, cond_cases}
use Rattle.model.proofs.Most.{most_above, most_at}
use Rattle.model.proofs.Smallest.{Smallest, smallest_is, smallest_unique}
use Rattle.model.proofs.Largest.{largest_unique}
use Rattle.model.proofs.Onward.{Onward, onward_sooner, legal_onward, onward_legal}
use Rattle.model.proofs.Best.{best_upper}
use Rattle.model.proofs.Bounds.{request_is}

-- two sequences of which neither comes after the other are the same
before_both : (p r : Pair) → Before p r → Before r p → ⊥
before_both p r (inl a) (inl b) = omega arith
before_both p r (inl a) (inr b) = omega arith
before_both p r (inr a) (inl b) = omega arith
before_both p r (inr a) (inr b) = omega arith

before_self : (p r : Pair) → p ≡ r → Before p r → ⊥
before_self p r e (inl a) = omega (arith, ap (λ x. x.instant) e)
before_self p r e (inr a) = omega (arith, ap (λ x. x.action) e)

not_after_both : (σ τ : List Pair) → NotAfter σ τ → NotAfter τ σ → σ ≡ τ
not_after_both [] [] a b = refl
not_after_both [] (r ∷ τ) a b = absurd b
not_after_both (p ∷ σ) [] a b = absurd a
not_after_both (p ∷ σ) (r ∷ τ) (inl a) (inl b) = absurd (before_both p r a b)
not_after_both (p ∷ σ) (r ∷ τ) (inl a) (inr b) = absurd (before_self p r (sym b.0) a)
not_after_both (p ∷ σ) (r ∷ τ) (inr a) (inl b) = absurd (before_self r p (sym a.0) b)
not_after_both (p ∷ σ) (r ∷ τ) (inr a) (inr b) = ap₂ ◌∷◌ a.0 (not_after_both σ τ a.1 b.1)

-- so there is no second one
pub sequence_unique : (m : Machine) (s f : ℕ) (σ τ : List Pair) → IsCritical m s f σ → IsCritical m s f τ → σ ≡ τ
sequence_unique m s f σ τ a b = not_after_both σ τ (a.first τ b.reaches) (b.first σ a.reaches)

-- one tick of the search
module _ (m : Machine) (w : Pair → ℕ) (t n : ℕ) (from : ℕ → Bool) where
  -- if no action at t makes the total up, the later ticks do
  pub best_waits : ((j : ℕ) → j < count m → is_making m w t n from j ≡ false)
      → best m w t (suc n) from ≡ best m w (suc t) n from
  unfolding best
  best_waits h =
      elim (dec_le (most (count m) (gain m w t rest from)) (rest from)) [
        | yes d ↦ omega arith
        | no d ↦
            ⊎_elim (λ z. absurd (omega arith))
            (λ (k, l, e).
            ⊎_elim (λ z. absurd (omega arith))
            (λ (o, g).
            let q : w (pair k t) + rest (after m k) ≡ best m w t (suc n) from = omega arith in
            absurd (false≢true (sym (h k l) ∙ rw (o, eq-eqb _ _ q) refl)))
            (cond_cases (is_open m from (pair k t)) (w (pair k t) + rest (after m k))))
            (most_at (count m) (gain m w t rest from))
      ]
    where
      rest : (ℕ → Bool) → ℕ
      rest = best m w (suc t) n

  pub first_best_waits : ((j : ℕ) → j < count m → is_making m w t n from j ≡ false)
      → first_best m w t (suc n) from ≡ first_best m w (suc t) n from
  unfolding first_best
  first_best_waits h = rw (smallest_unique (count m) _ (smallest_below _ _) None (smallest_is (count m) _) h) refl

  pub first_best_takes : (k : ℕ) → k < count m → is_making m w t n from k ≡ true
      → ((j : ℕ) → j < k → is_making m w t n from j ≡ false)
      → first_best m w t (suc n) from ≡ pair k t ∷ first_best m w (suc t) n (after m k)
  unfolding first_best
  first_best_takes k l e h =
      rw (smallest_unique (count m) _ (smallest_below _ _) (Some k) (smallest_is (count m) _) (l, e, h)) refl

module _ (m : Machine) (ok : Pair → Type 0) (w : Pair → ℕ) where
  -- σ goes onward, reaches the largest total, and is the first that does
  record Good (t n : ℕ) (from : ℕ → Bool) (σ : List Pair) : Type 0 where
    goes : Onward m ok from t σ
    all : total w σ ≡ best m w t n from
    first : (τ : List Pair) → Onward m ok from t τ → total w τ ≡ best m w t n from → NotAfter σ τ

  module _ (t n : ℕ) (from : ℕ → Bool) where
    abbrev rest : (ℕ → Bool) → ℕ
    rest = best m w (suc t) n

    abbrev makes : ℕ → Bool
    makes = is_making m w t n from

    module _ (s f : ℕ) (idle : (p : Pair) → ok p → f ≤ p.instant → w p ≡ 0) (a : s ≤ t) (b : t + suc n ≡ f) where
      -- what reaches it with an action at t does so with one that makes it up, and has the best rest
      makes_begins : (k : ℕ) (τ : List Pair) → k < count m → is_open m from (pair k t) ≡ true
          → Onward m ok (after m k) (suc t) τ → w (pair k t) + total w τ ≡ best m w t (suc n) from
          → (makes k ≡ true) × (total w τ ≡ rest (after m k))
      unfolding best
      makes_begins k τ l o r q =
          let x : total w τ ≤ rest (after m k) =
          best_upper m ok w f (λ p i. idle p) (suc t) n (after m k) τ (omega arith) r in
          let y : w (pair k t) + rest (after m k) ≤ most (count m) (gain m w t rest from) =
          rw o at (most_above (count m) (gain m w t rest from) k l) in
          let z : w (pair k t) + rest (after m k) ≡ best m w t (suc n) from = omega arith in
          (rw (o, eq-eqb _ _ z) refl, omega arith)

      module _ (fits : (p : Pair) → s ≤ p.instant → p.instant < f → ok p)
          (positive : (p : Pair) → p.action < count m → 0 < w p) (next : (ℕ → Bool) → List Pair)
          (good : (g : ℕ → Bool) → Good (suc t) n g (next g)) where
        good_more : (o : Option ℕ) → Smallest (count m) makes o
            → Good t (suc n) from (go_or_stay o (λ k. pair k t ∷ next (after m k)) (next from))
        good_more None h =
            record {
              goes = onward_sooner m ok from t (next from) (good from).goes;
              all = (good from).all ∙ sym (best_waits m w t n from h);
              first = later;
            }
          where
            later : (τ : List Pair) → Onward m ok from t τ → total w τ ≡ best m w t (suc n) from
                → NotAfter (next from) τ
            later [] r e = (good from).first [] tt (e ∙ best_waits m w t n from h)
            later (p ∷ τ) (i, o, l, k, r) e =
                ⊎_elim
                (λ z.
                let same : w p ≡ w (pair p.action t) = ap (λ u. w (pair p.action u)) (sym z) in
                let (x, y) = makes_begins p.action τ i (rw z o) (rw z r) (omega arith) in
                absurd (false≢true (sym (h p.action i) ∙ x)))
                (λ z. (good from).first (p ∷ τ) (i, o, z, k, r) (e ∙ best_waits m w t n from h))
                (eq-or-lt_of_le l)
        good_more (Some i) (l, v, h) =
            let (o, e) = both_true _ _ v in
            let q : w (pair i t) + rest (after m i) ≡ best m w t (suc n) from = eqb-true _ _ e in
            record {
              goes = (l, o, omega arith, fits (pair i t) a (omega arith), (good (after m i)).goes);
              all = omega (arith, (good (after m i)).all);
              first = starting q;
            }
          where
            starting : w (pair i t) + rest (after m i) ≡ best m w t (suc n) from → (τ : List Pair)
                → Onward m ok from t τ → total w τ ≡ best m w t (suc n) from → NotAfter (pair i t ∷ next (after m i)) τ
            starting q [] r e = absurd (omega (arith, positive (pair i t) l))
            starting q (p ∷ τ) (j, o, d, k, r) e =
                ⊎_elim
                (λ z.
                let same : w p ≡ w (pair p.action t) = ap (λ u. w (pair p.action u)) (sym z) in
                let (x, y) = makes_begins p.action τ j (rw z o) (rw z r) (omega arith) in
                elim (dec_lt i p.action) [
                  | yes c ↦ inl (inr (z, c))
                  | no c ↦
                      ⊎_elim
                      (λ u. inr (ap₂ pair (sym u) z, rw (sym u) ((good (after m p.action)).first τ (rw z r) y)))
                      (λ u. absurd (false≢true (sym (h p.action u) ∙ x)))
                      (eq-or-lt_of_le (let v : p.action ≤ i = omega arith in v))
                ])
                (λ z. inl (inl z))
                (eq-or-lt_of_le d)

  first_best_good : (s f : ℕ) → ((p : Pair) → ok p → f ≤ p.instant → w p ≡ 0)
      → ((p : Pair) → s ≤ p.instant → p.instant < f → ok p) → ((p : Pair) → p.action < count m → 0 < w p)
      → (t n : ℕ) (from : ℕ → Bool) → s ≤ t → t + n ≡ f → Good t n from (first_best m w t n from)
  unfolding first_best
  first_best_good s f idle fits positive t zero from a b =
      record { goes = tt; all = unfold best in refl; first = λ τ r e. tt }
  first_best_good s f idle fits positive t (suc n) from a b =
      good_more t n from s f idle a b fits positive (first_best m w (suc t) n)
      (λ g. first_best_good s f idle fits positive (suc t) n g (omega arith) (omega arith))
      (smallest_below (count m) (makes t n from)) (smallest_is (count m) (makes t n from))

reaches_onward : (m : Machine) (s f : ℕ) (σ : List Pair) → Reaches m s f σ → Onward m (Within s f) (may_begin m) s σ
reaches_onward m s f σ h = legal_onward m (Within s f) s (λ p k. k.0) σ h.legal h.within

-- where costs are at least 1, `critical` finds it, and it is empty where the bound is 0
module _ (m : Machine) (positive : (k : ℕ) → k < count m → 0 < cost m k) where
  pub critical_is : (s n f : ℕ) → s + n ≡ f → IsCritical m s f (critical m s n)
  unfolding critical request
  critical_is s n f e =
      let found : Good m (Within s f) (requested m) s n (may_begin m) (critical m s n) =
      first_best_good m (Within s f) (requested m) s f (λ p k l. absurd (omega arith)) (λ p a b. (a, b))
      (λ p. positive p.action) s n (may_begin m) (omega arith) e in
      let (a, b) = onward_legal m (Within s f) s (critical m s n) found.goes in
      record {
        reaches = record { legal = a; within = b; bound = rw found.all (request_is m s n f e) };
        first = λ τ h. found.first τ (reaches_onward m s f τ h) (largest_unique h.bound (request_is m s n f e));
      }

  pub critical_empty : (s f : ℕ) (σ : List Pair) → IsCritical m s f σ → IsRequestBound m s f 0 → σ ≡ []
  critical_empty s f [] c z = refl
  critical_empty s f (p ∷ σ) c z =
      let goes : Onward m (Within s f) (may_begin m) s (p ∷ σ) = reaches_onward m s f (p ∷ σ) c.reaches in
      absurd (omega (arith, largest_unique c.reaches.bound z, positive p.action goes.0))
