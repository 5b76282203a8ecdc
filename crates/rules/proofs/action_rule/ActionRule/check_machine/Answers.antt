use Rattle.std.proofs.Common.{arith, ◌∙◌, sym, ap}
use mathlib.Core.Bool.{not}
use Rattle.std.specs.Prelude.{Some}
use Rattle.model.proofs.Search.{clear_found, clear_end}
use Rattle.reply.proofs.Refusals.{broken_here}
use Rattle.rules.specs.Inside.{keeps}
use Rattle.rules.proofs.action_rule.ActionRule.check_machine.Goals as goal

pub returns-then-not-allows : goal.returns-then-not-allows
returns-then-not-allows c =
    ap Some c.broken_at.ensures
    ∙ sym (clear_found _ c.loop-j.invariant (omega arith)
    (broken_here _ _ (c.allows.ensures ∙ ap (keeps _ _) c.action.ensures) (ap not c.if-not-allows.true)))

pub returns : goal.returns
returns c = sym (clear_end _ c.loop-j.invariant (omega arith))
