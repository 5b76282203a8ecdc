use Rattle.std.proofs.Common.{arith, ◌∙◌, sym, ap₂}
use Rattle.model.proofs.Search.{clear_found, clear_end}
use Rattle.rules.specs.Rules.{machine_refusal}
use Rattle.rules.specs.Inside.{keeps, number_of}
use Rattle.rules.proofs.Stages.{passed_on}
use Rattle.rules.proofs.action_rule.ActionRule.check.Goals as goal

pub returns-in_err-check_machine : goal.returns-in_err-check_machine
returns-in_err-check_machine c =
    let read = ap₂ (machine_refusal (keeps c.args.self) (number_of c.args.self)) c.read.ensures.0 c.read.ensures.1 in
    passed_on _ _ _ c.from_residual.ensures.1
    (sym (clear_found _ c.loop-machine.invariant (omega arith) (sym (c.in_err-check_machine.ensures ∙ read))))

pub returns : goal.returns
returns c = sym (clear_end _ c.loop-machine.invariant (omega arith))
