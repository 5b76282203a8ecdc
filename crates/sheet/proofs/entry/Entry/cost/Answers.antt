use Rattle.std.proofs.Common.{ap}
use Rattle.model.specs.declared.Action.{Action}
use Rattle.model.proofs.Names.{cost_read}
use Rattle.sheet.proofs.entry.Entry.cost.Goals as goal

pub returns : goal.returns
returns c = cost_read _ _ (ap (λ (a : Action). a.time) c.action.ensures)
