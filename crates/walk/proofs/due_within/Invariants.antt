use Rattle.sheet.specs.Meant.{meant}
use Rattle.walk.proofs.Row.{Ending}
use Rattle.walk.proofs.due_within.Given as goal

abbrev pub invariant-loop-j : goal.invariant-loop-j
invariant-loop-j l = Ending (meant l.machine) l.last.mask l.last.row l.ticks l.j-iterator.0 l.most
