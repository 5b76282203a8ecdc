-- Rows from the back: for each state the largest total from it, which the critical sequence is read from.
use Prim.Native.Nat.{ℕ, suc, ◌+◌, ◌*◌, ◌≤◌, ◌<◌, max}
use mathlib.Core.Path.{◌≡◌, refl, sym, ◌∙◌, ap, ap₂}
use mathlib.Core.Bool.{Bool, true, false, cond, false≢true, and-true, and-false}
use mathlib.Core.List.{List, [], ◌∷◌}
use mathlib.Core.Logic.{⊎_elim}
use native.Mathlib.Omega.{arith}
use native.Mathlib.Nat.{le_antisymm}
use native.Mathlib.Numerals.{add-one}
use native.Mathlib.Decide.{ℕ_discrete}
use lib.Dec.{eqb}
use borrow.Author.Tests.{eq-eqb, ne_eqb}
use Rattle.model.specs.declared.Way.TheVariants.{Back}
use Rattle.model.specs.Machine.{Machine, count, action_of}
use Rattle.model.specs.Legal.{Pair, total, cost, requested}
use Rattle.model.specs.Reckon.{is_instant, may_begin, most, gain, best, request}
use Rattle.model.specs.Inside.{Closed, may_trigger, brings, moved, figure, IsMoved, IsBack}
use Rattle.model.proofs.Tests.{true_or_false, both_true, cond_cases, cond_cong}
use Rattle.model.proofs.Most.{most_above, most_below, most_cong}
use Rattle.model.proofs.Names.{closed_inside, closed_onward}
use Rattle.model.proofs.Onward.{Onward, onward_wider, onward_source}
use Rattle.model.proofs.Best.{best_upper, best_lower, best_limit}
use Rattle.model.proofs.Ends.{brings_cases}

module _ (m : Machine) (w : Pair → ℕ) where
  -- a loop back over the ticks starts with zeros, and takes one tick more at a time
  pub back_start : (t : ℕ) (row : List ℕ) → ((q : ℕ) → q < m.states → figure row q ≡ 0) → IsBack m w t 0 row
  unfolding best
  back_start t row h = record { at = λ q l. h q l ∙ sym (either (may_begin m q) 0) }
    where
      either : (b : Bool) (v : ℕ) → cond b v v ≡ v
      either true v = refl
      either false v = refl

  pub back_earlier : Closed m → (t n : ℕ) (old new : List ℕ) → IsBack m w (t + 1) n old → IsMoved Back m w t old new
      → IsBack m w t (n + 1) new
  unfolding best
  back_earlier c t n old new h g =
      rw (add-one n) (record { at = λ q l. g.at q l ∙ ⊎_elim (begins q l) (idle q l) (true_or_false (may_begin m q)) })
    where
      -- the figure of a state that may begin a sequence is the best from it
      later : (q : ℕ) → q < m.states → may_begin m q ≡ true → figure old q ≡ best m w (suc t) n (eqb q)
      later q l b = rw (b, add-one) at (h.at q l)

      brought : (q k : ℕ) → may_begin m q ≡ true → k < count m
          → brings Back m w t (figure old) q k ≡ gain m w t (best m w (suc t) n) (eqb q) k
      brought q k b l =
          elim (ℕ_discrete q (action_of m k).source) [
            | yes e ↦ (let own : may_begin m (action_of m k).source ≡ true = rw (← e) b in
                let onward = closed_onward c k l own in
                let sink = later (action_of m k).sink (closed_inside c _ onward) onward in
                rw (e, own, eq-eqb (action_of m k).source _ refl, and-true (is_instant m k t))
                (cond_cong (is_instant m k t) _ _ (λ i. omega (arith, sink))))
            | no d ↦
                rw (
                  ne_eqb q (action_of m k).source d,
                  ne_eqb (action_of m k).source q (λ e. d (sym e)),
                  and-false (may_trigger m t k),
                ) refl
          ]

      begins : (q : ℕ) → q < m.states → may_begin m q ≡ true
          → moved Back m w t (figure old) q ≡ cond (may_begin m q) (best m w t (suc n) (eqb q)) 0
      begins q l b = rw b (ap₂ max (later q l b) (most_cong (count m) _ _ (λ k. brought q k b)))

      -- no action that may be triggered leaves another state
      idle : (q : ℕ) → q < m.states → may_begin m q ≡ false
          → moved Back m w t (figure old) q ≡ cond (may_begin m q) (best m w t (suc n) (eqb q)) 0
      idle q l b =
          rw b
          (omega (
            arith,
            rw b at (h.at q l),
            most_below (count m) (brings Back m w t (figure old) q) 0 (λ k _.
                ⊎_elim (λ z. omega arith)
                (λ (o, j, e). absurd (false≢true (sym b ∙ ap (may_begin m) (sym j) ∙ (both_true _ _ o).0)))
                (brings_cases Back m w t (figure old) q k)),
          ))

  -- the best from a set of states is the best from one of them
  pub best_states : (t n : ℕ) (from : ℕ → Bool) (states : ℕ) → ((q : ℕ) → from q ≡ true → q < states)
      → most states (λ q. cond (from q) (best m w t n (eqb q)) 0) ≡ best m w t n from
  best_states t n from states inside = le_antisymm above below
    where
      from_one : ℕ → ℕ
      from_one q = cond (from q) (best m w t n (eqb q)) 0

      ok : Pair → Type 0
      ok p = p.instant < t + n

      upper : (g : ℕ → Bool) (σ : List Pair) → Onward m ok g t σ → total w σ ≤ best m w t n g
      upper g σ r = best_upper m ok w (t + n) (λ p i a b. absurd (omega arith)) t n g σ (omega arith) r

      lower : (g : ℕ → Bool) → (σ : List Pair) × Onward m ok g t σ × (total w σ ≡ best m w t n g)
      lower g = best_lower m ok w t (t + n) (λ p a b. b) t n g (omega arith) (omega arith)

      above : most states from_one ≤ best m w t n from
      above =
          most_below states _ _ (λ q l.
          ⊎_elim (λ z. omega arith)
          (λ (b, e). let (σ, r, f) = lower (eqb q) in omega (arith, upper from σ (onward_wider m ok from q t σ b r)))
          (cond_cases (from q) (best m w t n (eqb q))))

      one : (σ : List Pair) → Onward m ok from t σ → total w σ ≤ most states from_one
      one [] r = omega arith
      one (p ∷ σ) r =
          let q = (action_of m p.action).source in
          let b : from q ≡ true = (both_true (from q) _ r.1).0 in
          omega (
            arith,
            upper (eqb q) (p ∷ σ) (onward_source m ok from t p σ r),
            rw b at (most_above states from_one q (inside q b)),
          )

      below : best m w t n from ≤ most states from_one
      below = let (σ, r, e) = lower from in omega (arith, one σ r)

-- at most c for each tick, where no action costs more than c
pub back_limit : (m : Machine) (t n : ℕ) (row : List ℕ) → IsBack m (requested m) t n row → (c : ℕ)
    → ((k : ℕ) → k < count m → cost m k ≤ c) → (q : ℕ) → q < m.states → figure row q ≤ n * c
back_limit m t n row h c low q l =
    ⊎_elim (λ z. omega (arith, h.at q l))
    (λ (b, e). omega (arith, h.at q l, best_limit m (requested m) c (λ p. low p.action) t n (eqb q)))
    (cond_cases (may_begin m q) (best m (requested m) t n (eqb q)))

-- the request bound is the largest figure of the row of the window's start
pub back_request : (m : Machine) → Closed m → (s n : ℕ) (row : List ℕ) → IsBack m (requested m) s n row
    → most m.states (figure row) ≡ request m s n
unfolding request
back_request m c s n row h =
    most_cong m.states _ _ h.at ∙ best_states m (requested m) s n (may_begin m) m.states (closed_inside c)
