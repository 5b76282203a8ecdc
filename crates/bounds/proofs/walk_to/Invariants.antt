use Rattle.sheet.specs.Meant.{meant}
use Rattle.bounds.specs.Inside.{IsFront}
use Rattle.bounds.proofs.walk_to.Given as goal

abbrev pub invariant-loop-n : goal.invariant-loop-n
invariant-loop-n l = IsFront (meant l.machine) l.window.from l.n (record { row = l.row; last = l.last })
