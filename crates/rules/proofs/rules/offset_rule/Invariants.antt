use Rattle.std.proofs.Common.{◌*◌, ◌≡◌, ◌≤◌}
use Rattle.model.proofs.Search.{Clear}
use Rattle.sheet.specs.Format.{actions_before, action_size}
use Rattle.rules.specs.Rules.{offset_refusal}
use Rattle.rules.proofs.rules.offset_rule.Given as goal

abbrev pub invariant-loop-k : goal.invariant-loop-k
invariant-loop-k l =
    record {
      small : l.begin ≤ 2048 * l.k;
      begins : l.begin ≡ action_size * actions_before l.sheet l.k;
      clear : Clear (offset_refusal l.sheet) l.k;
    }
