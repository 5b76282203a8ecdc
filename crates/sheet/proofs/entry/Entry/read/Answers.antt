use Rattle.sheet.proofs.Entries.{bytes_entry}
use Rattle.sheet.proofs.entry.Entry.read.Goals as goal

pub invariant_of-result : goal.invariant_of-result
invariant_of-result c = record { read = bytes_entry c.requires c.entry_bytes-bytes.ensures }
