-- Small sheets and runs, worked by computation: a sheet that Fits, PAIR's first instant to its end, a run that is late.
use Prim.Native.Nat.{ℕ, zero, suc, ◌+◌, ◌≤◌, ◌<◌}
use mathlib.Core.Path.{◌≡◌, refl, subst}
use mathlib.Core.Bool.{true}
use mathlib.Core.List.{List, [], ◌∷◌, ◌++◌}
use native.Mathlib.Omega.{arith}
use lib.ListN.{replicate}
use Rattle.number.specs.Divide.{euclid, gcd, lcm, fold}
use Rattle.model.specs.Machine.{Machine, action, machine, count, action_of, machine_of, divisor}
use Rattle.model.specs.Machine.{all_periods, hyperperiod}
use Rattle.model.specs.Sizes.{ActionSizes, MachineSizes, Sizes}
use Rattle.model.specs.Legal.{cost}
use Rattle.model.specs.Reckon.{is_instant, may_begin, most, best, request, demand}
use Rattle.model.specs.Search.{first_of}
use Rattle.model.specs.Verdict.{added, closes, closing_length, has_room, passes, failing_length}
use Rattle.model.specs.Verdict.{Judgement, Fits, Late, gives, machine_gives, verdict}
use Rattle.model.specs.Run.{job, Seat, Choice, rest, fire, Run, Allowed, join, trigger, serve, work, work_of, turn}
use Rattle.model.specs.Run.{triggered, served, tick, fresh, play, LegalFrom, LegalRun, unit_of, done, Finished}
use Rattle.model.specs.Run.{EachJob, InTime, OnTime, Safe}
use Rattle.model.specs.Numbers.{machine1}
use Rattle.model.proofs.Names.{is_instant_law}
use Rattle.model.proofs.Safe.{fits_safe}

-- a machine of one state and one action: its period, execution time and deadline
abbrev loop : ℕ → ℕ → ℕ → Machine
loop period time deadline = machine 1 0 (action 0 0 period time deadline ∷ [])

-- one action of period, time and deadline 1
abbrev tight : List Machine
tight = loop 1 1 1 ∷ []

tight_sizes : Sizes tight
unfolding hyperperiod all_periods fold lcm divisor gcd euclid
tight_sizes = record { machines = omega arith; machine = only; hyperperiod = omega arith }
  where
    actions : (k : ℕ) → k < 1 → ActionSizes (machine_of tight 0) (action_of (machine_of tight 0) k)
    actions zero l = omega arith
    actions (suc k) l = absurd (omega arith)

    only : (i : ℕ) → i < 1 → MachineSizes (machine_of tight i)
    only zero l = record { states = omega arith; initial = omega arith; actions = omega arith; action = actions }
    only (suc i) l = absurd (omega arith)

-- the verdict, open to its last name
judged : List Machine → Judgement
unfolding
    verdict machine_gives first_of gives failing_length closing_length closes passes has_room added request demand best
    most may_begin is_instant cost hyperperiod all_periods fold lcm gcd euclid
judged ms = verdict ms

pub tight_fits : verdict tight ≡ Fits
unfolding judged
tight_fits = refl

pub tight_safe : Safe tight
tight_safe = fits_safe tight_sizes tight_fits

-- two machines that must be done in the tick in which both fire
pub crowded_late : verdict (loop 4 1 1 ∷ loop 4 1 1 ∷ []) ≡ Late 1 0 1 1
unfolding judged
crowded_late = refl

-- document 01's sheet PAIR, by the execution time of machine 0
abbrev PAIR : ℕ → List Machine
PAIR time = loop 40 time 40 ∷ machine1 ∷ []

-- what machines 0 and 1 do; every other rests
abbrev both : Choice → Choice → ℕ → Choice
both a b zero = a
both a b (suc zero) = b
both a b (suc (suc j)) = rest

abbrev resting : ℕ → Run
resting n = replicate n (λ j. rest)

-- the machines at the end of a run, and the units that it does of action k of instant r of machine i
after : List Machine → Run → ℕ → Seat
unfolding play tick served triggered turn trigger join serve fresh work_of work added
after ms run = play ms 0 (fresh ms) run

units : List Machine → ℕ → ℕ → ℕ → Run → ℕ
unfolding after done unit_of
units ms i k r run = done ms i k r 0 (fresh ms) run

-- at 0 both machines fire with all their work, and then rest
abbrev opening : ℕ → Run
opening n = both (fire 0 14) (fire 0 5) ∷ resting n

-- after 16 ticks machine 0 is done, and machine 1, in state 1, has 3 units left
opening_16 : (after (PAIR 14) (opening 15) 0 ≡ record { state = 0; queue = [] })
    × (after (PAIR 14) (opening 15) 1 ≡ record { state = 1; queue = job 0 0 3 ∷ [] })
unfolding after
opening_16 = (refl, refl)

-- after 19 it is done too: 14 units and 5
opening_19 : (after (PAIR 14) (opening 18) 1 ≡ record { state = 1; queue = [] })
    × (units (PAIR 14) 0 0 0 (opening 18) ≡ 14) × (units (PAIR 14) 1 0 0 (opening 18) ≡ 5)
unfolding units
opening_19 = (refl, refl, refl)

-- machine 0 at 15: machine 1 fires action 0 at 0 and action 2 at 40, which bring nothing, and at 200 both machines fire
-- with all their work
abbrev from200 : Run
from200 = both (fire 0 15) (fire 1 6) ∷ resting 19

abbrev from40 : Run
from40 = both rest (fire 2 0) ∷ resting 159 ++ from200

abbrev late : Run
late = both rest (fire 0 0) ∷ resting 39 ++ from40

-- at 220 one unit of machine 1's is left: 5 units of 6 were done
late_220 : (after (PAIR 15) late 1 ≡ record { state = 0; queue = job 1 200 1 ∷ [] })
    × (units (PAIR 15) 1 1 200 late ≡ 5)
unfolding units
late_220 = (refl, refl)

fire_allowed : (m : Machine) (t q k w : ℕ) → k < count m → (action_of m k).source ≡ q → is_instant m k t ≡ true
    → w ≤ cost m k → Allowed m t q (fire k w)
fire_allowed m t q k w a b c d = (record { known = a; leaves = b; ready = (is_instant_law m k t).0 c }, d)

both_allowed : (ms : List Machine) (t : ℕ) (seats : ℕ → Seat) (a b : Choice)
    → Allowed (machine_of ms 0) t (seats 0).state a → Allowed (machine_of ms 1) t (seats 1).state b
    → (j : ℕ) → Allowed (machine_of ms j) t (seats j).state (both a b j)
both_allowed ms t seats a b x y zero = x
both_allowed ms t seats a b x y (suc zero) = y
both_allowed ms t seats a b x y (suc (suc j)) = tt

resting_legal : (ms : List Machine) (n t u : ℕ) (seats : ℕ → Seat) (run : Run) → n + t ≡ u
    → LegalFrom ms u (play ms t seats (resting n)) run → LegalFrom ms t seats (resting n ++ run)
unfolding play
resting_legal ms zero t u seats run e g = subst (λ (x : ℕ). LegalFrom ms x seats run) (omega arith) g
resting_legal ms (suc n) t u seats run e g =
    (λ j. tt, resting_legal ms n (suc t) u (tick ms t (λ j. rest) seats) run (omega arith) g)

late_legal : LegalRun (PAIR 15) late
unfolding after is_instant cost
late_legal =
    let ms = PAIR 15 in
    let m = machine_of ms 1 in
    let at1 : ℕ → Seat = tick ms 0 (both rest (fire 0 0)) (fresh ms) in
    let at40 : ℕ → Seat = play ms 1 at1 (resting 39) in
    let at41 : ℕ → Seat = tick ms 40 (both rest (fire 2 0)) at40 in
    let at200 : ℕ → Seat = play ms 41 at41 (resting 159) in
    let at201 : ℕ → Seat = tick ms 200 (both (fire 0 15) (fire 1 6)) at200 in (
      both_allowed ms 0 (fresh ms) rest (fire 0 0) tt (fire_allowed m 0 0 0 0 (omega arith) refl refl (omega arith)),
      resting_legal ms 39 1 40 at1 from40 refl (
        both_allowed ms 40 at40 rest (fire 2 0) tt (fire_allowed m 40 1 2 0 (omega arith) refl refl (omega arith)),
        resting_legal ms 159 41 200 at41 from200 refl (
          both_allowed ms 200 at200 (fire 0 15) (fire 1 6)
              (fire_allowed (machine_of ms 0) 200 0 0 15 (omega arith) refl refl (omega arith))
              (fire_allowed m 200 2 1 6 (omega arith) refl refl (omega arith)),
          resting_legal ms 19 201 220 at201 [] refl tt,
        ),
      ),
    )

-- so neither form is true of every run, and not every sheet is safe
pub late_not_on_time : OnTime (PAIR 15) late → ⊥
unfolding after
late_not_on_time O =
    let queued : EachJob (InTime (machine_of (PAIR 15) 1) 220) (job 1 200 1 ∷ []) = O 1 (omega arith) in
    absurd (omega (arith, queued.0 (omega arith)))

pub late_not_finished : Finished (PAIR 15) late → ⊥
unfolding units
late_not_finished F =
    let all : units (PAIR 15) 1 1 200 late ≡ 6 = F 1 1 200 6 (omega arith) refl (omega arith) in
    omega (arith, late_220.1)

pub late_not_safe : Safe (PAIR 15) → ⊥
late_not_safe S = late_not_on_time (S.on_time late late_legal)
