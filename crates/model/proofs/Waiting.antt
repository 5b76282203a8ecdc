-- A machine's unfinished actions against what it triggered since a tick: each was triggered at an instant of its own,
-- and by the time that it is due, so is all the rest. Ticks and triggers keep this, where nothing is late.
use Prim.Native.Nat.{ℕ, zero, suc, ◌+◌, ◌≤◌, ◌<◌}
use mathlib.Core.Path.{◌≡◌}
use mathlib.Core.List.{List, [], ◌∷◌}
use native.Mathlib.Omega.{arith}
use Rattle.model.specs.Machine.{Machine, count, action_of}
use Rattle.model.specs.Legal.{Instant, Pair, Each}
use Rattle.model.specs.Reckon.{pair}
use Rattle.model.specs.Run.{Job, job, Seat, Choice, rest, fire, MayFire, Allowed, join, trigger, work, turn}
use Rattle.model.specs.Run.{EachJob, InTime}
use Rattle.model.specs.Inside.{Separate}
use Rattle.model.proofs.Each.{each_snoc}
use Rattle.model.proofs.History.{DueBy, extend, Since, since_due}
use Rattle.model.proofs.Queue.{jobs_snoc, jobs_serve}

-- action k, triggered at r before t, has the work w left, and the history l is due by the time that it is
pub record Waits (m : Machine) (t : ℕ) (l : List Pair) (k r w : ℕ) : Type 0 where
  pub known : k < count m
  pub ready : Instant m k r
  pub past : r < t
  pub live : 1 ≤ w
  pub covers : Each (DueBy m (r + (action_of m k).deadline)) l

abbrev pub Waiting : Machine → ℕ → List Pair → Job → Type 0
Waiting m t l (job k r w) = Waits m t l k r w

-- the same, and not late
abbrev pub Timely : Machine → ℕ → List Pair → Job → Type 0
Timely m t l y = Waiting m t l y × InTime m t y

waits_on : {m : Machine} {t u : ℕ} {l : List Pair} {k r v w : ℕ} → t ≤ u → 1 ≤ w → Waits m t l k r v → Waits m u l k r w
waits_on a b g =
    record { known = g.known; ready = g.ready; past = omega (arith, g.past); live = b; covers = g.covers }

module _ (m : Machine) (t : ℕ) (l : List Pair) where
  -- no work, no unfinished action
  pub waiting_none : (P : Job → Type 0) (q : List Job) → work q ≡ 0 → EachJob (Waiting m t l) q → EachJob P q
  unfolding work
  waiting_none P [] e h = tt
  waiting_none P (job k r w ∷ q) e (g, h) = absurd (omega (arith, g.live))

  pub waiting_turn : (above : ℕ) (x : Seat) → EachJob (Waiting m t l) x.queue
      → EachJob (Waiting m t l) (turn above x).queue
  unfolding turn
  waiting_turn zero x h =
      jobs_serve (Waiting m t l) (λ k r w. waits_on {k = k} {r = r} (omega arith) (omega arith)) x.queue h
  waiting_turn (suc above) x h = h

  waiting_rest : (q : List Job) → EachJob (Timely m t l) q → EachJob (Waiting m (suc t) l) q
  waiting_rest [] h = tt
  waiting_rest (job k r w ∷ q) ((g, e), h) = (waits_on (omega arith) g.live g, waiting_rest q h)

  module _ (separate : Separate m) where
    -- at an instant of the machine no unfinished action is in time
    pub timely_none : (P : Job → Type 0) (s k : ℕ) → MayFire m s k t → (q : List Job) → EachJob (Timely m t l) q
        → EachJob P q
    timely_none P s k a [] h = tt
    timely_none P s k a (job j r w ∷ q) ((g, e), h) =
        absurd (omega (
          arith,
          separate.gap j k r t g.known a.known g.ready a.ready g.past,
          e g.live,
        ))

    pub waiting_trigger : (s load : ℕ) (x : Seat) (ch : Choice) → Since m s t x.state l load
        → Allowed m t x.state ch → EachJob (Timely m t l) x.queue
        → EachJob (Waiting m (suc t) (extend t ch l)) (trigger m t ch x).queue
    unfolding trigger extend join
    waiting_trigger s load x rest S a h = waiting_rest x.queue h
    waiting_trigger s load x (fire k zero) S (a, b) h = timely_none _ x.state k a x.queue h
    waiting_trigger s load x (fire k (suc w)) S (a, b) h =
        jobs_snoc _ x.queue (job k t (suc w)) (timely_none _ x.state k a x.queue h)
        (record {
          known = a.known;
          ready = a.ready;
          past = omega arith;
          live = omega arith;
          covers = each_snoc (DueBy m (t + (action_of m k).deadline)) l (pair k t)
              (since_due m s t x.state load k l separate a.known a.ready S) (omega arith);
        })
