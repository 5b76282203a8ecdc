use Rattle.sheet.specs.Meant.{meant}
use Rattle.walk.proofs.Row.{Ticking}
use Rattle.walk.proofs.tick.Given as goal

abbrev pub invariant-loop-j : goal.invariant-loop-j
invariant-loop-j l = Ticking l.way (meant l.machine) l.mask l.old l.j-iterator.0 l.row
