use Rattle.model.specs.Limits.{longest_hyperperiod}
use Rattle.model.specs.Machine.{hyperperiod}
use Rattle.model.specs.Sizes.{Between}
use Rattle.model.proofs.Taking.{Gathering}
use Rattle.sheet.specs.Format.{decode}
use Rattle.rules.proofs.rules.hyperperiod_of.Given as goal

abbrev pub invariant-loop-k : goal.invariant-loop-k
invariant-loop-k l =
    record {
      in_range : Between 1 longest_hyperperiod l.h;
      gathering : Gathering (decode l.sheet) l.h l.k (hyperperiod (decode l.sheet));
    }
