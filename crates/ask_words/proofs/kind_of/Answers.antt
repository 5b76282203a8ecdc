use Rattle.std.proofs.Common.{arith, rules}
use Rattle.std.specs.Prelude.{codes}
use Rattle.std.proofs.lemmas.Slice.Eq.{text_from_reads}
use Rattle.ask_words.proofs.kind_of.Goals as goal

pub returns-in-demand : goal.returns-in-demand
returns-in-demand c = rw (text_from_reads c.args.word.now (codes "demand") (omega arith) (search rules))

pub returns-in-request : goal.returns-in-request
returns-in-request c = rw (text_from_reads c.args.word.now (codes "request") (omega arith) (search rules))

pub returns-in-critical : goal.returns-in-critical
returns-in-critical c = rw (text_from_reads c.args.word.now (codes "critical") (omega arith) (search rules))
