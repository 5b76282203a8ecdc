use Rattle.level.proofs.Onward.{stands_ready, stands_demand}
use Rattle.level.proofs.Level.demand.Goals as goal

pub due_within-requires : goal.due_within-requires
due_within-requires c = stands_ready c.args.masked.now c.requires c.machine.ensures.meant

pub returns : goal.returns
returns c = stands_demand c.args.masked.now c.requires c.machine.ensures.meant c.due_within.ensures
