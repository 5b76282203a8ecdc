use Rattle.std.proofs.Common.{arith, ap}
use Rattle.model.specs.declared.Action.{Action}
use Rattle.model.proofs.Names.{instant_read}
use Rattle.sheet.proofs.Entries.{meant_sizes}
use Rattle.sheet.proofs.accepted.Machine.has_instant.Goals as goal

pub nonzero_rem-result : goal.nonzero_rem-result
nonzero_rem-result c =
    let e = ap (λ (a : Action). a.period) c.action.ensures in
    omega (arith, e, ((meant_sizes c.args.self.now).action _ c.requires).period.0)

pub returns : goal.returns
returns c = instant_read _ _ _ (ap (λ (a : Action). a.period) c.action.ensures)
