use Rattle.model.proofs.Search.{Clear}
use Rattle.rules.specs.Rules.{entry_refusal}
use Rattle.rules.proofs.rules.entry_rule.Given as goal

abbrev pub invariant-loop-k : goal.invariant-loop-k
invariant-loop-k l = Clear (entry_refusal l.sheet) l.k
