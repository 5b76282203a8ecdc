use Rattle.std.proofs.Common.{arith, ap, ◌∙◌}
use Rattle.number.specs.Divide.{gcd}
use Rattle.model.specs.declared.Action.{Action}
use Rattle.model.proofs.Taking.{divisor_begin, taking_more, taking_end}
use Rattle.sheet.proofs.entry.Entry.divisor.Goals as goal

pub loop-j-init : goal.loop-j-init
loop-j-init c = divisor_begin _

pub loop-j-preserved : goal.loop-j-preserved
loop-j-preserved c =
    taking_more _ c.loop-j.invariant (omega arith)
    (c.gcd_of-divisor.ensures ∙ ap (λ (a : Action). gcd c.loop-j.divisor a.period) c.action.ensures)

pub returns : goal.returns
returns c = taking_end c.loop-j.invariant (omega arith)
