use Rattle.sheet.proofs.Entries.{meant_sizes}
use Rattle.walk.proofs.Front.{row_top}
use Rattle.bounds.proofs.request_of.Goals as goal

pub returns : goal.returns
returns c = row_top (meant_sizes c.args.window.now.machine) c.walk_to.ensures.row c.states.ensures c.top.ensures
