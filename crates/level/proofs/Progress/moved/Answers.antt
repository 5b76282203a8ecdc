use Rattle.std.proofs.Common.{◌∙◌, ap}
use Rattle.model.specs.Machine.{Machine}
use Rattle.level.proofs.Moving.{sheet_sizes, standing_ready, moved_tick, moved_not}
use Rattle.level.proofs.Progress.moved.Goals as goal

pub returns-then-mask-eq0 : goal.returns-then-mask-eq0
returns-then-mask-eq0 c = moved_not (sheet_sizes c.args.sheet.now _ c.requires.0) c.if-mask-eq0.true

pub tick-row-requires : goal.tick-row-requires
tick-row-requires c =
    rw c.machine-machine.ensures.meant (standing_ready (sheet_sizes c.args.sheet.now _ c.requires.0) c.requires.1)

pub returns : goal.returns
returns c =
    let e = c.machine-machine.ensures.meant in
    moved_tick (sheet_sizes c.args.sheet.now _ c.requires.0) _ (rw e at c.tick-row.ensures)
    (c.states.ensures ∙ ap (λ (m : Machine). m.states) e) c.top-top.ensures
