use Rattle.std.proofs.Common.{◌≡◌, length}
use Rattle.model.specs.Limits.{longest_hyperperiod}
use Rattle.level.specs.Masked.{Lowest}
use Rattle.level.proofs.masked.lowest_of.Given as goal

abbrev pub invariant-loop-t : goal.invariant-loop-t
invariant-loop-t l = (length l.lowest ≡ longest_hyperperiod) × Lowest l.t l.masks l.lowest
