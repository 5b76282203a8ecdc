use Rattle.number.specs.Divide.{fold, lcm}
use Rattle.model.specs.Limits.{longest_hyperperiod}
use Rattle.model.specs.Machine.{periods}
use Rattle.model.specs.Sizes.{Between}
use Rattle.model.proofs.Taking.{Taking}
use Rattle.sheet.specs.Meant.{entry_meant}
use Rattle.rules.proofs.rules.multiple_of.Given as goal

abbrev pub invariant-loop-j : goal.invariant-loop-j
invariant-loop-j l =
    let m = entry_meant l.entry in
    record {
      in_range : Between 1 longest_hyperperiod l.multiple;
      taking : Taking lcm m l.multiple l.j (fold lcm l.h (periods m));
    }
