use Rattle.model.proofs.Bounds.{request_is}
use Rattle.bounds.proofs.request.Goals as goal

pub returns-clause-promises : goal.returns-clause-promises
returns-clause-promises c =
    let of = rw c.from.ensures at c.in_ok-window.ensures.window in
    rw (c.request_of.ensures, of.machine, of.from) (request_is _ _ _ _ of.to)
