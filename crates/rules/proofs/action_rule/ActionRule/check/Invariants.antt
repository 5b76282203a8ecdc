use Rattle.model.proofs.Search.{Clear}
use Rattle.rules.specs.Rules.{machine_refusal}
use Rattle.rules.specs.Inside.{keeps, number_of}
use Rattle.rules.proofs.action_rule.ActionRule.check.Given as goal

abbrev pub invariant-loop-machine : goal.invariant-loop-machine
invariant-loop-machine l = Clear (machine_refusal (keeps l.self) (number_of l.self) l.sheet) l.machine
