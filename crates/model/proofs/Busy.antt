-- On a sheet that Fits nothing late is ever queued. For each machine i an account is kept from tick to tick of the time
-- since which machines 0 to i have been busy; an action that were late would give a tested length that fails.
use Prim.Native.Nat.{ℕ, zero, suc, ◌+◌, ◌%◌, ◌≤◌, ◌<◌}
use mathlib.Core.Path.{◌≡◌, refl, sym, subst}
use mathlib.Core.List.{List, [], ◌∷◌}
use native.Mathlib.Omega.{arith}
use native.Mathlib.Nat.{mod-lt}
use native.Mathlib.Decide.{dec_le}
use lib.ListN.{length}
use Rattle.model.specs.Machine.{Machine, action_of, machine_of, hyperperiod}
use Rattle.model.specs.Sizes.{Sizes}
use Rattle.model.specs.Legal.{MayBegin, Pair}
use Rattle.model.specs.Reckon.{request}
use Rattle.model.specs.Verdict.{added, requests, Fits, verdict}
use Rattle.model.specs.Run.{Job, job, Seat, Choice, Run, MayFire, Allowed, work, work_of, triggered, served, tick}
use Rattle.model.specs.Run.{fresh, play, LegalFrom, LegalRun, EachJob, InTime, OnTime}
use Rattle.model.proofs.Sizes.{hyperperiod_positive}
use Rattle.model.proofs.Accepted.{sizes_separate, sizes_closed, sizes_begin, sizes_repeat, requests_remainder}
use Rattle.model.proofs.Bounds.{request_is, demand_is}
use Rattle.model.proofs.Shift.{demand_remainder}
use Rattle.model.proofs.Verdict.{Passes, fits_fitting}
use Rattle.model.proofs.Added.{added_le, added_sum, added_zero}
use Rattle.model.proofs.Each.{each_map}
use Rattle.model.proofs.History.{due_asked, brought, extend, Since, since_begin, since_trigger}
use Rattle.model.proofs.Queue.{jobs_map, jobs_empty, work_tick, turn_state}
use Rattle.model.proofs.Waiting.{Waiting, Timely, waiting_none, waiting_turn, timely_none, waiting_trigger}

module _ (ms : List Machine) (sizes : Sizes ms) where
  -- machines 0 to i at tick t: busy for `len` ticks, since the tick `start`, at which none of them had work left over
  record Busy (i t : ℕ) (seats : ℕ → Seat) : Type 0 where
    start : ℕ
    len : ℕ
    clock : t ≡ start + len
    -- what each of them triggered since then, and the work that this brought
    hist : ℕ → List Pair
    load : ℕ → ℕ
    since : (j : ℕ) → j < suc i → Since (machine_of ms j) start t (seats j).state (hist j) (load j)
    -- each tick since then did one unit of their work
    units : added (suc i) load ≡ len + added (suc i) (work_of seats)
    -- no length up to now closes
    unclosed : (n : ℕ) → 1 ≤ n → n ≤ len → n < requests ms (suc i) start n
    -- what machine i did until now, with the requests above it, fills every length up to now
    filled : (n : ℕ) → n ≤ len → n + work_of seats i ≤ load i + requests ms i start n
    awake : 1 ≤ added (suc i) (work_of seats) → 1 ≤ len
    waiting : EachJob (Waiting (machine_of ms i) t (hist i)) (seats i).queue

  -- where machines 0 to i have no work left, a busy time may begin
  busy_begin : (i t : ℕ) (seats : ℕ → Seat) → ((j : ℕ) → j < suc i → MayBegin (machine_of ms j) (seats j).state)
      → added (suc i) (work_of seats) ≡ 0 → EachJob (Waiting (machine_of ms i) t []) (seats i).queue → Busy i t seats
  unfolding added
  busy_begin i t seats b e w =
      record {
        start = t;
        len = 0;
        clock = omega arith;
        hist = λ j. [];
        load = λ j. 0;
        since = λ j l. since_begin (machine_of ms j) t t (seats j).state (b j l);
        units = omega (arith, added_zero (suc i));
        unclosed = λ n a c. absurd (omega arith);
        filled = λ n a. omega arith;
        awake = λ a. omega arith;
        waiting = w;
      }

  module _ (fits : verdict ms ≡ Fits) where
    -- a length up to which none closes is tested, and passes, whatever the start
    tested_passes : (i s n : ℕ) → i < length ms → 1 ≤ n
        → ((k : ℕ) → 1 ≤ k → k ≤ n → k < requests ms (suc i) s k) → Passes ms i s n
    tested_passes i s n h p u =
        let H = hyperperiod ms in
        let F = (fits_fitting ms).0 fits i (s % H) h (mod-lt s (hyperperiod_positive ms sizes)) in
        elim (dec_le F.closing n) [
          | yes q ↦
              let c = requests_remainder ms sizes (suc i) s F.closing in
              absurd (omega (arith, u F.closing F.positive q, F.closed))
          | no q ↦
              let (k, l, e) = F.passing n p (omega arith) in
              let a = requests_remainder ms sizes i s k in
              let d = demand_remainder (machine_of ms i) H (sizes_repeat ms sizes i) s n in
              (k, l, omega arith)
        ]

    module _ (i t : ℕ) (seats : ℕ → Seat) (h : i < length ms) (B : Busy i t seats) where
      abbrev m : Machine
      m = machine_of ms i

      -- an action that waits is not late: it would be due with all of the history, which the demand then covers
      waiting_in_time : 1 ≤ work_of seats i → (y : Job) → Waiting m t (B.hist i) y → InTime m t y
      unfolding added
      waiting_in_time w (job k r left) g = λ _. elim (dec_le (r + (action_of m k).deadline) t) [
        | no q ↦ omega arith
        | yes q ↦
            let S = B.since i (omega arith) in
            let (n, p, e) = tested_passes i B.start B.len h (B.awake (omega arith)) B.unclosed in
            let bound = demand_is m B.start B.len t (sym B.clock) in
            let limit = bound.limit (B.hist i) (S.legal, each_map (λ p a. a.0) (B.hist i) S.within) in
            let due = due_asked m t (B.hist i) (each_map (λ p d. omega arith) (B.hist i) g.covers) in
            absurd (omega (arith, B.filled n p, S.enough))
      ]

      timely : EachJob (Timely m t (B.hist i)) (seats i).queue
      unfolding work_of
      timely = go (work_of seats i) refl
        where
          go : (n : ℕ) → work_of seats i ≡ n → EachJob (Timely m t (B.hist i)) (seats i).queue
          go zero e = waiting_none m t (B.hist i) _ (seats i).queue e B.waiting
          go (suc n) e = jobs_map (λ y g. (g, waiting_in_time (omega arith) y g)) (seats i).queue B.waiting

      module _ (choice : ℕ → Choice) (legal : (j : ℕ) → Allowed (machine_of ms j) t (seats j).state (choice j)) where
        abbrev next : ℕ → Seat
        next = tick ms t choice seats

        abbrev history : ℕ → List Pair
        history j = extend t (choice j) (B.hist j)

        abbrev loads : ℕ → ℕ
        loads j = B.load j + brought (choice j)

        since_next : (j : ℕ) → j < suc i
            → Since (machine_of ms j) B.start (suc t) (next j).state (history j) (loads j)
        unfolding tick served triggered
        since_next j l =
            rw (turn_state (added j (work_of (triggered ms t choice seats))) (triggered ms t choice seats j))
            (since_trigger (machine_of ms j) B.start t (B.hist j) (B.load j) (seats j) (choice j)
            (sizes_closed (machine_of ms j) (sizes.machine j (omega arith))) (omega (arith, B.clock)) (B.since j l)
            (legal j))

        waiting_next : EachJob (Waiting m (suc t) (history i)) (next i).queue
        unfolding tick served triggered
        waiting_next =
            waiting_turn m (suc t) (history i) (added i (work_of (triggered ms t choice seats)))
            (triggered ms t choice seats i)
            (waiting_trigger m t (B.hist i) (sizes_separate m (sizes.machine i h)) B.start (B.load i) (seats i)
            (choice i) (B.since i (omega arith)) (legal i) timely)

        -- what machines 0 to n - 1 brought since the start is at most their requests
        loads_requested : (n : ℕ) → n ≤ suc i → added n loads ≤ requests ms n B.start (suc B.len)
        loads_requested n l =
            added_le n loads (λ j. request (machine_of ms j) B.start (suc B.len)) (λ j b.
            let S = since_next j (omega arith) in
            let c : B.start + suc B.len ≡ suc t = omega (arith, B.clock) in
            let bound = request_is (machine_of ms j) B.start (suc B.len) (suc t) c in
            omega (arith, S.enough, bound.limit (history j) (S.legal, S.within)))

        -- something is left of machines 0 to i: the busy time goes on
        busy_onward : 1 ≤ added (suc i) (work_of next) → Busy i (suc t) next
        unfolding added
        busy_onward e =
            let brings : ℕ → ℕ = λ j. brought (choice j) in
            let b : added (suc i) loads ≡ suc B.len + added (suc i) (work_of next) =
            omega (arith, B.units, added_sum (suc i) B.load brings, work_tick ms t choice seats (suc i)) in
            record {
              start = B.start;
              len = suc B.len;
              clock = omega (arith, B.clock);
              hist = history;
              load = loads;
              since = since_next;
              units = b;
              unclosed = λ n p q. elim (dec_le n B.len) [
                | yes u ↦ B.unclosed n p u
                | no u ↦
                    let v : n ≡ suc B.len = omega arith in
                    rw v (omega (arith, loads_requested (suc i) (omega arith)))
              ];
              filled = λ n q. elim (dec_le n B.len) [
                | yes u ↦
                    omega (arith, B.filled n u, work_tick ms t choice seats i, work_tick ms t choice seats (suc i))
                | no u ↦
                    let v : n ≡ suc B.len = omega arith in
                    rw v (omega (arith, loads_requested i (omega arith)))
              ];
              awake = λ a. omega arith;
              waiting = waiting_next;
            }

        busy_tick : Busy i (suc t) next
        unfolding added work_of
        busy_tick = go (added (suc i) (work_of next)) refl
          where
            go : (n : ℕ) → added (suc i) (work_of next) ≡ n → Busy i (suc t) next
            go zero e =
                busy_begin i (suc t) next (λ j l. (since_next j l).begins) e
                (waiting_none m (suc t) (history i) _ (next i).queue (omega arith) waiting_next)
            go (suc n) e = busy_onward (omega arith)

    -- so at every tick of a legal run
    busy_from : (t : ℕ) (seats : ℕ → Seat) (run : Run) → ((i : ℕ) → i < length ms → Busy i t seats)
        → LegalFrom ms t seats run → (i : ℕ) → i < length ms → Busy i (t + length run) (play ms t seats run)
    unfolding play
    busy_from t seats [] B g i h = subst (λ (u : ℕ). Busy i u seats) (omega arith) (B i h)
    busy_from t seats (choice ∷ run) B (a, g) i h =
        subst (λ (u : ℕ). Busy i u (play ms t seats (choice ∷ run))) (omega arith)
        (busy_from (suc t) (tick ms t choice seats) run (λ j l. busy_tick j t seats l (B j l) choice a) g i h)

    module _ (run : Run) (legal : LegalRun ms run) (i : ℕ) (h : i < length ms) where
      abbrev last : Seat
      last = play ms 0 (fresh ms) run i

      busy_run : Busy i (length run) (play ms 0 (fresh ms) run)
      unfolding fresh work work_of
      busy_run =
          subst (λ (u : ℕ). Busy i u (play ms 0 (fresh ms) run)) (omega arith)
          (busy_from 0 (fresh ms) run (λ j l.
          busy_begin j 0 (fresh ms) (λ k b. sizes_begin (machine_of ms k) (sizes.machine k (omega arith)))
          (added_zero (suc j)) tt) legal i h)

      last_timely : EachJob (Timely (machine_of ms i) (length run) (busy_run.hist i)) last.queue
      last_timely = timely i (length run) (play ms 0 (fresh ms) run) h busy_run

      -- when a machine may trigger an action, all that it triggered before is finished
      pub fits_fires_empty : (k : ℕ) → MayFire (machine_of ms i) last.state k (length run) → last.queue ≡ []
      fits_fires_empty k a =
          jobs_empty last.queue
          (timely_none (machine_of ms i) (length run) (busy_run.hist i)
          (sizes_separate (machine_of ms i) (sizes.machine i h)) (λ y. ⊥) last.state k a last.queue last_timely)

    pub fits_on_time : (run : Run) → LegalRun ms run → OnTime ms run
    fits_on_time run legal i h = jobs_map (λ y p. p.1) (play ms 0 (fresh ms) run i).queue (last_timely run legal i h)
