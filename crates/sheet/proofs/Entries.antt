-- The machines of an accepted sheet, and their actions by an entry.
use Prim.Native.Nat.{ℕ, ◌+◌, ◌*◌, ◌≤◌, ◌<◌}
use mathlib.Core.Path.{◌≡◌, sym, ◌∙◌, ap}
use mathlib.Core.List.{List}
use native.Mathlib.Omega.{arith}
use lib.ListN.{length}
use Rattle.number.specs.Divide.{Each}
use Rattle.model.specs.Machine.{Machine as PlainMachine, count, action_of, machine_of, periods, all_periods}
use Rattle.model.specs.Sizes.{Between, MachineSizes}
use Rattle.model.proofs.Periods.{periods_each, all_periods_each}
use Rattle.model.proofs.Sizes.{has_actions}
use Rattle.sheet.specs.declared.fields.EntryBytes.{EntryBytes}
use Rattle.sheet.specs.declared.entry.Entry.{Entry}
use Rattle.sheet.specs.declared.accepted.Machine.{Machine}
use Rattle.sheet.specs.Format.{action_size, action_at, entry, machine_count, decode}
use Rattle.sheet.specs.Inside.{OffsetsKept, PeriodsKept, Accepted, HasEntry}
use Rattle.sheet.specs.Meant.{entry_meant, meant}
use Rattle.sheet.proofs.Decode.{decode_count, decode_machine, decode_actions, decode_action}

-- an accepted sheet has 1 to 8 machines, and each keeps to its sizes
pub few_machines : {b : List ℕ} → Accepted b → Between 1 8 (machine_count b)
few_machines a = a.periods.offsets.entries.trailer.machines

pub machine_sizes : {b : List ℕ} → Accepted b → (i : ℕ) → i < machine_count b → MachineSizes (machine_of (decode b) i)
machine_sizes {b} a i known = a.sizes.machine i (omega (arith, decode_count b))

pub meant_sizes : (m : Machine) → MachineSizes (meant m)
meant_sizes m = machine_sizes m.accepted m.entry.number m.entry.read.known

-- what is read of an entry's bytes
pub bytes_entry : {b : List ℕ} {k : ℕ} {bytes : EntryBytes} → OffsetsKept b × (k < machine_count b)
    → bytes ≡ entry b k → HasEntry b k bytes.states bytes.actions bytes.offset
bytes_entry {b} {k} (offsets, known) e =
    record {
      offsets = offsets;
      known = known;
      states_are =
          ap (λ (x : EntryBytes). x.states) e ∙ sym (ap (λ (m : PlainMachine). m.states) (decode_machine b k known));
      actions_are = ap (λ (x : EntryBytes). x.actions) e ∙ sym (decode_actions b k known);
      first_is = ap (λ (x : EntryBytes). x.offset) e;
    }

-- where an action stands, inside the sheet
module _ (e : Entry) {j : ℕ} (l : j < count (entry_meant e)) where
  pub action_inside : e.first + action_size * j + action_size ≤ length e.sheet.now
  action_inside = omega (arith, e.read.offsets.inside e.number j e.read.known l, e.read.first_is)

  pub action_stands : action_at e.sheet.now (e.first + action_size * j) ≡ action_of (entry_meant e) j
  action_stands =
      ap (λ x. action_at e.sheet.now (x + action_size * j)) e.read.first_is
      ∙ sym (decode_action e.sheet.now e.number e.read.known j l)

-- the periods of a machine, and of all machines, are positive
pub machine_positive : {b : List ℕ} (k : ℕ) → PeriodsKept b → k < machine_count b
    → Each (λ p. 0 < p) (periods (machine_of (decode b) k))
machine_positive {b} k h known =
    (periods_each (λ p. 0 < p) (machine_of (decode b) k)).1 (λ j l. (h.period k j known l).0)

pub all_positive : {b : List ℕ} → PeriodsKept b → Each (λ p. 0 < p) (all_periods (decode b))
all_positive {b} h =
    (all_periods_each (λ p. 0 < p) (decode b)).1
    (λ k j l. (h.period k j (omega (arith, decode_count b, has_actions (decode b) k j l)) l).0)
