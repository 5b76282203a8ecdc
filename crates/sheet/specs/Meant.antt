-- The plain machines that entries and machines in code are.
use Rattle.std.specs.Prelude.{ℕ}
use Rattle.model.specs.Machine.{Machine as PlainMachine, machine_of}
use Rattle.sheet.specs.declared.entry.Entry.{Entry}
use Rattle.sheet.specs.declared.accepted.Sheet.{Sheet}
use Rattle.sheet.specs.declared.accepted.Machine.{Machine}
use Rattle.sheet.specs.Format.{decode}

-- the machine of an entry
abbrev pub entry_meant : Entry → PlainMachine
entry_meant e = machine_of (decode e.sheet.now) e.number

-- of a machine of an accepted sheet
abbrev pub meant : Machine → PlainMachine
meant m = entry_meant m.entry

-- the machine of a number in an accepted sheet
abbrev pub machine_meant : Sheet → ℕ → PlainMachine
machine_meant s = machine_of (decode s.bytes.now)
