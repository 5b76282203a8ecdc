use Rattle.number.specs.Divide.{gcd}
use Rattle.model.specs.Machine.{divisor}
use Rattle.model.proofs.Taking.{Taking}
use Rattle.sheet.specs.Meant.{entry_meant}
use Rattle.sheet.proofs.entry.Entry.divisor.Given as goal

abbrev pub invariant-loop-j : goal.invariant-loop-j
invariant-loop-j l = let m = entry_meant l.self in Taking gcd m l.divisor l.j (divisor m)
