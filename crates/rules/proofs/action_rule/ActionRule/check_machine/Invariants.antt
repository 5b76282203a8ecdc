use Rattle.model.proofs.Search.{Clear}
use Rattle.sheet.specs.Meant.{entry_meant}
use Rattle.rules.specs.Rules.{action_refusal}
use Rattle.rules.specs.Inside.{keeps, number_of}
use Rattle.rules.proofs.action_rule.ActionRule.check_machine.Given as goal

abbrev pub invariant-loop-j : goal.invariant-loop-j
invariant-loop-j l = Clear (action_refusal (keeps l.self) (number_of l.self) (entry_meant l.entry) l.entry.number) l.j
