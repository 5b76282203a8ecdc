-- The two forms agree: nothing late is queued in any legal run exactly where, counted in units, every triggered action
-- is finished by its deadline.
use Prim.Native.Nat.{ℕ, zero, suc, ◌+◌, ◌≤◌, ◌<◌}
use mathlib.Core.Path.{◌≡◌, refl}
use mathlib.Core.Bool.{◌&&◌}
use mathlib.Core.List.{List, [], ◌∷◌}
use mathlib.Core.Logic.{inl, inr, ◌↔◌}
use native.Mathlib.Omega.{arith}
use native.Mathlib.Decide.{dec_le}
use lib.Dec.{eqb}
use lib.ListN.{length, get_or, take}
use lib.Seq.{length-take-le, get_or-take}
use borrow.Author.Tests.{eq-eqb, eqb-true}
use Rattle.model.specs.Machine.{Machine, count, action_of, machine_of}
use Rattle.model.specs.Sizes.{Sizes}
use Rattle.model.specs.Run.{Job, job, Seat, rest, fire, Run, Allowed, tick, fresh, play, LegalFrom}
use Rattle.model.specs.Run.{LegalRun, Finished, EachJob, InTime, OnTime}
use Rattle.model.proofs.Tests.{true_or_false, both_true}
use Rattle.model.proofs.Units.{cond_zero, bringing, bringing_fired, left_of, brought_at}
use Rattle.model.proofs.Units.{brought_done_left, done_take}

-- where nothing late is queued, nothing is left of an action past its deadline; and the other way round
in_time_left : (m : Machine) (t k r : ℕ) → r + (action_of m k).deadline ≤ t → (q : List Job) → EachJob (InTime m t) q
    → left_of k r q ≡ 0
unfolding left_of
in_time_left m t k r h [] a = refl
in_time_left m t k r h (job j u zero ∷ q) (p, a) =
    omega (arith, in_time_left m t k r h q a, cond_zero (eqb j k && eqb u r))
in_time_left m t k r h (job j u (suc w) ∷ q) (p, a) = elim (true_or_false (eqb j k && eqb u r)) [
  | inl z ↦
      let (x, y) = both_true (eqb j k) (eqb u r) z in
      let e : r + (action_of m k).deadline ≡ u + (action_of m j).deadline = rw (eqb-true j k x, eqb-true u r y) in
      absurd (omega (arith, p (omega arith)))
  | inr z ↦ rw z (omega (arith, in_time_left m t k r h q a))
]

left_in_time : (m : Machine) (t : ℕ) (q : List Job)
    → ((k r : ℕ) → 1 ≤ left_of k r q → t < r + (action_of m k).deadline) → EachJob (InTime m t) q
unfolding left_of
left_in_time m t [] h = tt
left_in_time m t (job k r w ∷ q) h = (
  λ l. h k r (rw (eq-eqb k k refl, eq-eqb r r refl) (omega arith)),
  left_in_time m t q (λ j u l. h j u (omega arith)),
)

rest_never_fires : (k w : ℕ) → rest ≡ fire k w → ⊥
rest_never_fires k w e = let z : ◌≡◌ {A = ℕ} 0 1 = cc in omega arith

module _ (ms : List Machine) where
  -- the first ticks of a legal run are a legal run, and it fires actions of its machines
  legal_take : (t n : ℕ) (seats : ℕ → Seat) (run : Run) → LegalFrom ms t seats run
      → LegalFrom ms t seats (take n run)
  legal_take t zero seats run g = tt
  legal_take t (suc n) seats [] g = tt
  legal_take t (suc n) seats (choice ∷ run) (a, g) = (a, legal_take (suc t) n (tick ms t choice seats) run g)

  legal_known : (t n : ℕ) (seats : ℕ → Seat) (run : Run) (i k w : ℕ) → LegalFrom ms t seats run
      → get_or run n (λ j. rest) i ≡ fire k w → k < count (machine_of ms i)
  legal_known t n seats [] i k w g e = absurd (rest_never_fires k w e)
  legal_known t zero seats (choice ∷ run) i k w (a, g) e =
      let fired : Allowed (machine_of ms i) t (seats i).state (fire k w) = rw e at (a i) in fired.0.known
  legal_known t (suc n) seats (choice ∷ run) i k w (a, g) e =
      legal_known (suc t) n (tick ms t choice seats) run i k w g e

  on_time_finished : Sizes ms → ((run : Run) → LegalRun ms run → OnTime ms run)
      → (run : Run) → LegalRun ms run → Finished ms run
  unfolding left_of fresh bringing
  on_time_finished sizes O run g i k r w h e l =
      let n : ℕ = r + (action_of (machine_of ms i) k).deadline in
      let part : Run = take n run in
      let size : length part ≡ n = length-take-le n run l in
      let positive = ((sizes.machine i h).action k (legal_known 0 r (fresh ms) run i k w g e)).deadline.0 in
      let brings : bringing k (get_or part r (λ j. rest) i) ≡ w =
      rw (get_or-take n run r (λ j. rest) (omega arith), e, eq-eqb k k refl) refl in
      let inTime : EachJob (InTime (machine_of ms i) (length part)) (play ms 0 (fresh ms) part i).queue =
      O part (legal_take 0 n (fresh ms) run g) i h in
      omega (
        arith,
        brought_done_left k r i ms 0 (fresh ms) part,
        brought_at k r i 0 r part (omega arith),
        in_time_left (machine_of ms i) (length part) k r (omega arith) (play ms 0 (fresh ms) part i).queue inTime,
      )

  finished_on_time : ((run : Run) → LegalRun ms run → Finished ms run) → (run : Run) → LegalRun ms run → OnTime ms run
  unfolding left_of fresh
  finished_on_time F run g i h =
      left_in_time (machine_of ms i) (length run) (play ms 0 (fresh ms) run i).queue (λ k r l.
      let n : ℕ = r + (action_of (machine_of ms i) k).deadline in
      elim (dec_le n (length run)) [
        | no q ↦ omega arith
        | yes q ↦
            let a = brought_done_left k r i ms 0 (fresh ms) run in
            let b = brought_at k r i 0 r run (omega arith) in
            let (w, e, z) = bringing_fired k (get_or run r (λ j. rest) i) (omega arith) in
            absurd (omega (arith, F run g i k r w h e q, done_take k r i ms 0 n (fresh ms) run))
      ])

  pub on_time_iff_finished : Sizes ms → ((run : Run) → LegalRun ms run → OnTime ms run)
      ↔ ((run : Run) → LegalRun ms run → Finished ms run)
  on_time_iff_finished sizes = (on_time_finished sizes, finished_on_time)
