use Rattle.sheet.specs.Meant.{meant}
use Rattle.critical.proofs.Making.{Seeking}
use Rattle.critical.proofs.forward.first_making.Given as goal

abbrev pub invariant-loop-j : goal.invariant-loop-j
invariant-loop-j l = Seeking (meant l.machine) l.mask l.leaves l.left l.later l.j-iterator.0
