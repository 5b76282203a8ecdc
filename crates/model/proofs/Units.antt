-- Units of work, counted: what an action of a machine brings in a run is what is done of it and what is left of it.
use Prim.Native.Nat.{ℕ, zero, suc, ◌+◌, ◌≤◌, ◌<◌}
use mathlib.Core.Path.{◌≡◌, refl}
use mathlib.Core.Bool.{Bool, true, false, cond, ◌&&◌}
use mathlib.Core.List.{List, [], ◌∷◌}
use mathlib.Core.Logic.{inl, inr}
use native.Mathlib.Omega.{arith}
use native.Mathlib.Nat.{not-suc-le-zero}
use lib.Dec.{eqb}
use lib.ListN.{get_or, take}
use borrow.Author.Tests.{eq-eqb, eqb-true, ne_eqb}
use Rattle.model.specs.Machine.{Machine, machine_of}
use Rattle.model.specs.Verdict.{added}
use Rattle.model.specs.Run.{Job, job, Seat, Choice, rest, fire, Run, join, trigger, serve, work_of, turn}
use Rattle.model.specs.Run.{triggered, served, tick, play, unit_of, done}
use Rattle.model.proofs.Tests.{true_or_false}

pub cond_zero : (b : Bool) → ◌≡◌ {A = ℕ} (cond b 0 0) 0
cond_zero true = refl
cond_zero false = refl

cond_suc : (b : Bool) (w : ℕ) → cond b (suc w) 0 ≡ cond b w 0 + cond b 1 0
cond_suc true w = omega arith
cond_suc false w = refl

cond_both : (a b : Bool) (w : ℕ) → cond (a && b) w 0 ≡ cond b (cond a w 0) 0
cond_both true true w = refl
cond_both true false w = refl
cond_both false true w = refl
cond_both false false w = refl

-- the work that a choice brings to action k
unfoldable pub bringing : ℕ → Choice → ℕ
bringing k rest = 0
bringing k (fire j w) = cond (eqb j k) w 0

pub bringing_fired : (k : ℕ) (ch : Choice) → 1 ≤ bringing k ch → (w : ℕ) × (ch ≡ fire k w) × (bringing k ch ≡ w)
unfolding bringing
bringing_fired k rest h = absurd (omega arith)
bringing_fired k (fire j w) h = elim (true_or_false (eqb j k)) [
  | inl z ↦ (w, rw (eqb-true j k z), rw z)
  | inr z ↦ absurd (not-suc-le-zero (rw z at h))
]

module _ (k r : ℕ) where
  -- the work that is left of action k of instant r
  unfoldable pub left_of : List Job → ℕ
  left_of [] = 0
  left_of (job j u w ∷ q) = cond (eqb j k && eqb u r) w 0 + left_of q

  left_serve : (q : List Job) → left_of (serve q) + unit_of k r 0 q ≡ left_of q
  unfolding left_of unit_of serve
  left_serve [] = refl
  left_serve (job j u zero ∷ q) = omega (arith, left_serve q, cond_zero (eqb j k && eqb u r))
  left_serve (job j u (suc zero) ∷ q) = omega arith
  left_serve (job j u (suc (suc w)) ∷ q) = omega (arith, cond_suc (eqb j k && eqb u r) (suc w))

  left_turn : (above : ℕ) (x : Seat)
      → left_of (turn above x).queue + unit_of k r above x.queue ≡ left_of x.queue
  unfolding turn unit_of
  left_turn zero x = left_serve x.queue
  left_turn (suc above) x = omega arith

  left_join : (q : List Job) (j t w : ℕ) → left_of (join q j t w) ≡ left_of q + cond (eqb j k && eqb t r) w 0
  unfolding left_of join
  left_join q j t zero = omega (arith, cond_zero (eqb j k && eqb t r))
  left_join [] j t (suc w) = omega arith
  left_join (job a b c ∷ q) j t (suc w) = omega (arith, left_join q j t (suc w))

  left_trigger : (m : Machine) (t : ℕ) (ch : Choice) (x : Seat)
      → left_of (trigger m t ch x).queue ≡ left_of x.queue + cond (eqb t r) (bringing k ch) 0
  unfolding trigger bringing
  left_trigger m t rest x = omega (arith, cond_zero (eqb t r))
  left_trigger m t (fire j w) x = omega (arith, left_join x.queue j t w, cond_both (eqb j k) (eqb t r) w)

  module _ (i : ℕ) where
    -- the work that the choices of machine i bring to it, from tick t on: what the choice of tick r brings
    unfoldable pub brought_from : ℕ → Run → ℕ
    brought_from t [] = 0
    brought_from t (choice ∷ run) = cond (eqb t r) (bringing k (choice i)) 0 + brought_from (suc t) run

    brought_past : (t : ℕ) (run : Run) → r < t → brought_from t run ≡ 0
    unfolding brought_from
    brought_past t [] h = refl
    brought_past t (choice ∷ run) h =
        rw (ne_eqb t r (λ e. omega arith)) (omega (arith, brought_past (suc t) run (omega arith)))

    pub brought_at : (t n : ℕ) (run : Run) → t + n ≡ r → brought_from t run ≡ bringing k (get_or run n (λ j. rest) i)
    unfolding brought_from bringing
    brought_at t n [] e = refl
    brought_at t zero (choice ∷ run) e =
        rw (eq-eqb t r (omega arith)) (omega (arith, brought_past (suc t) run (omega arith)))
    brought_at t (suc n) (choice ∷ run) e =
        rw (ne_eqb t r (λ z. omega arith)) (omega (arith, brought_at (suc t) n run (omega arith)))

    module _ (ms : List Machine) where
      pub brought_done_left : (t : ℕ) (seats : ℕ → Seat) (run : Run) → left_of (seats i).queue + brought_from t run
          ≡ done ms i k r t seats run + left_of (play ms t seats run i).queue
      unfolding done brought_from play tick served triggered
      brought_done_left t seats [] = omega arith
      brought_done_left t seats (choice ∷ run) =
          omega (
            arith,
            brought_done_left (suc t) (tick ms t choice seats) run,
            left_trigger (machine_of ms i) t (choice i) (seats i),
            left_turn (added i (work_of (triggered ms t choice seats))) (triggered ms t choice seats i),
          )

      -- the first n ticks do no more than all
      pub done_take : (t n : ℕ) (seats : ℕ → Seat) (run : Run)
          → done ms i k r t seats (take n run) ≤ done ms i k r t seats run
      unfolding done
      done_take t zero seats run = omega arith
      done_take t (suc n) seats [] = omega arith
      done_take t (suc n) seats (choice ∷ run) = omega (arith, done_take (suc t) n (tick ms t choice seats) run)
