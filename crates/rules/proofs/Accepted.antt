-- What the rules give, stage by stage, up to an accepted sheet: later proofs go by these records and open no rule.
use Prim.Native.Nat.{ℕ, zero, suc, ◌+◌, ◌-◌, ◌*◌, ◌≤◌, ◌<◌}
use mathlib.Core.Path.{◌≡◌}
use mathlib.Core.Bool.{Bool, true}
use mathlib.Core.List.{List}
use Rattle.std.specs.Prelude.{None}
use native.Mathlib.Omega.{arith}
use lib.Dec.{leb, ltb}
use lib.ListN.{length}
use borrow.Author.Tests.{ltb-true, leb-true, eqb-true}
use Rattle.model.specs.Limits.{longest_period, longest_time, longest_hyperperiod}
use Rattle.model.specs.declared.Action.{Action}
use Rattle.model.specs.Machine.{Machine, count, action_of, machine_of, divisor, hyperperiod}
use Rattle.model.specs.Sizes.{Between, ActionSizes, MachineSizes, Sizes}
use Rattle.model.specs.Search.{first_of}
use Rattle.model.proofs.Tests.{both_true}
use Rattle.model.proofs.Sizes.{hyperperiod_positive}
use Rattle.model.proofs.Search.{first_none}
use Rattle.reply.specs.Reply.{refusal}
use Rattle.reply.proofs.Refusals.{unless_none, or_else_none}
use Rattle.sheet.specs.Format.{actions_before, action_size, entry_size, entry, trailer_offset, machine_count, decode}
use Rattle.sheet.specs.Inside.{TrailerKept, EntriesKept, OffsetsKept, PeriodsKept, Accepted}
use Rattle.sheet.proofs.Decode.{decode_count, decode_machine, decode_actions}
use Rattle.rules.specs.Rules.{rule1, rule3, rule4, rule5, rule6, rule7, rule8, rule9}
use Rattle.rules.specs.Rules.{between, trailer_in_range, entry_in_range, action_in_range, deadline_in_range}
use Rattle.rules.specs.Rules.{entry_refusal, offset_refusal, end_refusal, action_refusal, machine_refusal}
use Rattle.rules.proofs.Tests.{between_true}

module _ (b : List ℕ) where
  pub trailer_so : rule1 b ≡ None → rule3 b ≡ None → rule4 b ≡ None → TrailerKept b
  trailer_so one three four =
      record {
        long = between_true 28 2124 (length b) (unless_none _ _ one);
        machines = between_true 1 8 (machine_count b) (unless_none _ _ three);
        placed =
            eqb-true (trailer_offset b + (12 + entry_size * machine_count b)) (length b)
            (both_true (leb (12 + entry_size * machine_count b) (length b)) _
            (unless_none (trailer_in_range b) _ four)).1;
      }

  entry_kept : rule5 b ≡ None → (k : ℕ) → k < machine_count b → entry_in_range (entry b k) ≡ true
  entry_kept five k known = unless_none _ _ (first_none (entry_refusal b) (machine_count b) five k known)

  pub entries_so : TrailerKept b → rule5 b ≡ None → EntriesKept b
  entries_so h five =
      record {
        trailer = h;
        states = λ k known. let (s, i, a) = parts k known in rw (decode_machine b k known) (between_true _ _ _ s);
        initial = λ k known. let (s, i, a) = parts k known in rw (decode_machine b k known) (ltb-true _ _ i);
        actions = λ k known. let (s, i, a) = parts k known in rw (decode_actions b k known) (between_true _ _ _ a);
      }
    where
      parts : (k : ℕ) → k < machine_count b
          → (between 1 16 (entry b k).states ≡ true) × (ltb (entry b k).initial (entry b k).states ≡ true)
          × (between 1 32 (entry b k).actions ≡ true)
      parts k known =
          let (rest, fourth) = both_true _ _ (entry_kept five k known) in
          let (pair, actions) = both_true _ _ rest in
          let (states, initial) = both_true _ _ pair in
          (states, initial, actions)

  before_rises : (k more : ℕ) → actions_before b k ≤ actions_before b (more + k)
  unfolding actions_before
  before_rises k zero = rw (let z : zero + k ≡ k = omega arith in z) (omega arith)
  before_rises k (suc more) =
      rw (let z : suc more + k ≡ suc (more + k) = omega arith in z) (omega (arith, before_rises k more))

  before_next : (k : ℕ) → k < machine_count b
      → actions_before b k + (entry b k).actions ≤ actions_before b (machine_count b)
  unfolding actions_before
  before_next k known =
      rw (let z : machine_count b ≡ (machine_count b - suc k) + suc k = omega arith in z)
      (before_rises (suc k) (machine_count b - suc k))

  pub offsets_so : EntriesKept b → rule6 b ≡ None → OffsetsKept b
  offsets_so h six =
      record {
        entries = h;
        whole = omega (arith, h.trailer.placed, ends);
        inside = λ k j known l.
            omega (arith, offset k known, decode_actions b k known, before_next k known, ends, h.trailer.placed);
      }
    where
      ends : trailer_offset b ≡ action_size * actions_before b (machine_count b)
      ends =
          eqb-true (trailer_offset b) (action_size * actions_before b (machine_count b))
          (unless_none _ (refusal 6 (machine_count b) 0)
          (or_else_none (first_of (offset_refusal b) 0 (machine_count b)) (end_refusal b (machine_count b)) six).1)

      offset : (k : ℕ) → k < machine_count b → (entry b k).offset ≡ action_size * actions_before b k
      offset k known =
          eqb-true (entry b k).offset (action_size * actions_before b k)
          (unless_none _ (refusal 6 k 0) (first_none (offset_refusal b) (machine_count b)
          (or_else_none (first_of (offset_refusal b) 0 (machine_count b)) (end_refusal b (machine_count b)) six).0
          k known))

  -- where no action of any machine fails a test
  all_keep : (test : Machine → Action → Bool) (n : ℕ) → first_of (machine_refusal test n b) 0 (machine_count b) ≡ None
      → (k j : ℕ) → k < machine_count b → j < count (machine_of (decode b) k)
      → test (machine_of (decode b) k) (action_of (machine_of (decode b) k) j) ≡ true
  all_keep test n e k j known l =
      let m = machine_of (decode b) k in
      unless_none _ _
      (first_none (action_refusal test n m k) (count m)
      (first_none (machine_refusal test n b) (machine_count b) e k known) j l)

  record ActionInRange (m : Machine) (a : Action) : Type 0 where
    source : a.source < m.states
    sink : a.sink < m.states
    period : Between 1 longest_period a.period
    time : Between 1 longest_time a.time
    deadline : 1 ≤ a.deadline

  in_range : (m : Machine) (a : Action) → action_in_range m a ≡ true → ActionInRange m a
  in_range m a e =
      let (four, deadline) = both_true _ _ e in
      let (three, time) = both_true _ _ four in
      let (two, period) = both_true _ _ three in
      let (source, sink) = both_true _ _ two in
      record {
        source = ltb-true _ _ source;
        sink = ltb-true _ _ sink;
        period = between_true _ _ _ period;
        time = between_true _ _ _ time;
        deadline = leb-true _ _ deadline;
      }

  pub periods_so : OffsetsKept b → rule7 b ≡ None → PeriodsKept b
  periods_so h seven =
      record {
        offsets = h;
        period = λ k j known l.
            (in_range (machine_of (decode b) k) (action_of (machine_of (decode b) k) j)
            (all_keep action_in_range 7 seven k j known l)).period;
      }

  pub accepted : PeriodsKept b → rule7 b ≡ None → rule8 b ≡ None → rule9 b ≡ None → Accepted b
  accepted h seven eight nine =
      record {
        periods = h;
        sizes = sizes;
        hyperperiod = (hyperperiod_positive (decode b) sizes, sizes.hyperperiod);
      }
    where
      action : (k j : ℕ) → k < machine_count b → j < count (machine_of (decode b) k)
          → ActionSizes (machine_of (decode b) k) (action_of (machine_of (decode b) k) j)
      action k j known l =
          let r =
          in_range (machine_of (decode b) k) (action_of (machine_of (decode b) k) j)
          (all_keep action_in_range 7 seven k j known l) in
          record {
            source = r.source;
            sink = r.sink;
            period = r.period;
            time = r.time;
            deadline = (
              r.deadline,
              leb-true (action_of (machine_of (decode b) k) j).deadline (divisor (machine_of (decode b) k))
                  (all_keep deadline_in_range 8 eight k j known l),
            );
          }

      machine : (k : ℕ) → k < machine_count b → MachineSizes (machine_of (decode b) k)
      machine k known =
          record {
            states = h.offsets.entries.states k known;
            initial = h.offsets.entries.initial k known;
            actions = h.offsets.entries.actions k known;
            action = λ j l. action k j known l;
          }

      sizes : Sizes (decode b)
      sizes =
          record {
            machines = rw (decode_count b) h.offsets.entries.trailer.machines;
            machine = λ k l. machine k (omega (arith, decode_count b));
            hyperperiod = leb-true (hyperperiod (decode b)) longest_hyperperiod (unless_none _ (refusal 9 0 0) nine);
          }
