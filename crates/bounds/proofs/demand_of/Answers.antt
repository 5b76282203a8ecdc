use Rattle.std.proofs.Common.{arith}
use Rattle.sheet.proofs.Entries.{meant_sizes}
use Rattle.walk.proofs.Front.{last_ready, last_demand}
use Rattle.bounds.proofs.demand_of.Goals as goal

pub due_within-requires : goal.due_within-requires
due_within-requires c =
    last_ready c.walk_to.ensures.last (meant_sizes c.args.window.now.machine) (omega arith)

pub returns : goal.returns
returns c =
    last_demand c.walk_to.ensures.last (meant_sizes c.args.window.now.machine) (omega arith) c.due_within.ensures
