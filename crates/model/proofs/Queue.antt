-- The work that is left in queues: what triggers add to it, and that a tick does one unit of it, if there is any.
use Prim.Native.Nat.{ℕ, zero, suc, pred, ◌+◌}
use mathlib.Core.Path.{◌≡◌, refl, ap, ◌∙◌}
use mathlib.Core.List.{List, [], ◌∷◌, ◌++◌}
use native.Mathlib.Omega.{arith}
use Rattle.model.specs.Machine.{Machine, machine_of}
use Rattle.model.specs.Verdict.{added}
use Rattle.model.specs.Run.{Job, job, Seat, Choice, rest, fire, join, trigger, serve, work, work_of, turn}
use Rattle.model.specs.Run.{triggered, served, tick, EachJob}
use Rattle.model.proofs.Added.{added_cong, added_sum}
use Rattle.model.proofs.History.{brought}

pub jobs_map : {P Q : Job → Type 0} → ((y : Job) → P y → Q y) → (q : List Job) → EachJob P q → EachJob Q q
jobs_map f [] h = tt
jobs_map f (y ∷ q) (h, hs) = (f y h, jobs_map f q hs)

pub jobs_snoc : (P : Job → Type 0) (q : List Job) (y : Job) → EachJob P q → P y → EachJob P (q ++ (y ∷ []))
jobs_snoc P [] y h g = (g, tt)
jobs_snoc P (x ∷ q) y (h, hs) g = (h, jobs_snoc P q y hs g)

pub jobs_serve : (P : Job → Type 0) → ((k r w : ℕ) → P (job k r (suc (suc w))) → P (job k r (suc w)))
    → (q : List Job) → EachJob P q → EachJob P (serve q)
unfolding serve
jobs_serve P f [] h = tt
jobs_serve P f (job k r zero ∷ q) (h, hs) = jobs_serve P f q hs
jobs_serve P f (job k r (suc zero) ∷ q) (h, hs) = hs
jobs_serve P f (job k r (suc (suc w)) ∷ q) (h, hs) = (f k r w h, hs)

pub jobs_empty : (q : List Job) → EachJob (λ y. ⊥) q → q ≡ []
jobs_empty [] h = refl
jobs_empty (y ∷ q) (h, hs) = absurd h

work_join : (q : List Job) (k r w : ℕ) → work (join q k r w) ≡ work q + w
unfolding work join
work_join q k r zero = omega arith
work_join [] k r (suc w) = omega arith
work_join (job j u v ∷ q) k r (suc w) = omega (arith, work_join q k r (suc w))

work_trigger : (m : Machine) (t : ℕ) (ch : Choice) (x : Seat)
    → work (trigger m t ch x).queue ≡ work x.queue + brought ch
unfolding trigger brought
work_trigger m t rest x = omega arith
work_trigger m t (fire k w) x = work_join x.queue k t w

work_serve : (q : List Job) → work (serve q) ≡ pred (work q)
unfolding work serve
work_serve [] = refl
work_serve (job k r zero ∷ q) = omega (arith, work_serve q)
work_serve (job k r (suc zero) ∷ q) = omega arith
work_serve (job k r (suc (suc w)) ∷ q) = omega arith

work_turn : (above : ℕ) (x : Seat) → pred above + work (turn above x).queue ≡ pred (above + work x.queue)
unfolding turn
work_turn zero x = omega (arith, work_serve x.queue)
work_turn (suc above) x = omega arith

-- of the work of machines 0 to i - 1 one unit is done
work_served : (i : ℕ) (seats : ℕ → Seat) → added i (work_of (served seats)) ≡ pred (added i (work_of seats))
unfolding added work_of served
work_served zero seats = refl
work_served (suc i) seats = omega (arith, work_served i seats, work_turn (added i (work_of seats)) (seats i))

work_triggered : (ms : List Machine) (t : ℕ) (choice : ℕ → Choice) (seats : ℕ → Seat) (i : ℕ)
    → added i (work_of (triggered ms t choice seats)) ≡ added i (work_of seats) + added i (λ j. brought (choice j))
unfolding work_of triggered
work_triggered ms t choice seats i =
    added_cong i (work_of (triggered ms t choice seats)) (λ j. work_of seats j + brought (choice j))
    (λ j l. work_trigger (machine_of ms j) t (choice j) (seats j))
    ∙ added_sum i (work_of seats) (λ j. brought (choice j))

-- a tick adds what the choices bring, and does one unit
pub work_tick : (ms : List Machine) (t : ℕ) (choice : ℕ → Choice) (seats : ℕ → Seat) (i : ℕ)
    → added i (work_of (tick ms t choice seats)) ≡ pred (added i (work_of seats) + added i (λ j. brought (choice j)))
unfolding tick
work_tick ms t choice seats i =
    work_served i (triggered ms t choice seats) ∙ ap pred (work_triggered ms t choice seats i)

pub turn_state : (above : ℕ) (x : Seat) → (turn above x).state ≡ x.state
unfolding turn
turn_state zero x = refl
turn_state (suc above) x = refl
