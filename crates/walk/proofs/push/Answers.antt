use Rattle.sheet.specs.Meant.{meant}
use Rattle.walk.proofs.Row.{fits_read, pushed_is}
use Rattle.walk.proofs.push.Goals as goal

pub brings-requires-clause-fits : goal.brings-requires-clause-fits
brings-requires-clause-fits c = fits_read c.requires c.args.way c.action-action.ensures

pub returns : goal.returns
returns c =
    let a = c.args in
    rw c.max.ensures (pushed_is a.way (meant a.machine.now) a.j a.old.now a.row.now c.action-action.ensures
    c.ends-ahead.ensures.1 c.brings.ensures)
