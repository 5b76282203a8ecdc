use Rattle.std.proofs.Common.{◌≡◌}
use Rattle.model.specs.Reckon.{most}
use Rattle.model.specs.Inside.{figure}
use Rattle.walk.proofs.top.Given as goal

abbrev pub invariant-loop-figure : goal.invariant-loop-figure
invariant-loop-figure l = l.top ≡ most l.figure-index (figure l.row)
