use Rattle.std.proofs.Common.{◌∙◌}
use Rattle.sheet.specs.Meant.{entry_meant}
use Rattle.walk.proofs.Row.{brought_is, fits_read}
use Rattle.walk.proofs.brought.Goals as goal

pub brings-requires-clause-fits : goal.brings-requires-clause-fits
brings-requires-clause-fits c = fits_read c.requires.joins c.args.way c.action.ensures

pub returns : goal.returns
returns c =
    let a = c.args in
    c.brings.ensures ∙ brought_is a.way (entry_meant a.entry.now) a.j a.row.now c.action.ensures
