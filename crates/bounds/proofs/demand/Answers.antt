use Rattle.model.proofs.Bounds.{demand_is}
use Rattle.bounds.proofs.demand.Goals as goal

pub returns-clause-promises : goal.returns-clause-promises
returns-clause-promises c =
    let of = rw c.from.ensures at c.in_ok-window.ensures.window in
    rw (c.demand_of.ensures, of.machine, of.from) (demand_is _ _ _ _ of.to)
