use Rattle.std.proofs.Common.{arith}
use Rattle.model.specs.declared.Way.TheVariants.{On}
use Rattle.sheet.specs.Meant.{meant}
use Rattle.walk.proofs.Row.{fits_read, due_is}
use Rattle.walk.proofs.due_or.Goals as goal

pub brings-requires-clause-fits : goal.brings-requires-clause-fits
brings-requires-clause-fits c = fits_read c.requires On c.action-action.ensures

pub returns : goal.returns
returns c =
    let a = c.args in
    rw (c.max.ensures, c.brings.ensures)
    (due_is (meant a.machine.now) a.j a.row.now a.ticks a.most c.action-action.ensures (omega arith))
