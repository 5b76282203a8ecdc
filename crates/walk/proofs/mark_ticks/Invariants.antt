use Rattle.std.proofs.Common.{length}
use Rattle.sheet.specs.Meant.{meant}
use Rattle.walk.proofs.Mask.{Marking}
use Rattle.walk.proofs.mark_ticks.Given as goal

abbrev pub invariant-loop-k : goal.invariant-loop-k
invariant-loop-k l = Marking (meant l.machine) l.from (length l.masks) l.k l.masks
