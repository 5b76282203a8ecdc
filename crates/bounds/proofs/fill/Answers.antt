use Rattle.std.proofs.Common.{arith, ◌≡◌, ◌+◌}
use Rattle.sheet.proofs.Entries.{meant_sizes}
use Rattle.walk.proofs.Front.{row_zeros, row_ready, row_ticked, row_top}
use Rattle.bounds.proofs.Filling.{filling_begin, filling_more, filling_end}
use Rattle.bounds.proofs.fill.Goals as goal

pub loop-n-init : goal.loop-n-init
loop-n-init c = record { figures = row_zeros (meant_sizes c.args.window.now.machine) _; words = filling_begin _ _ }

pub tick-row-requires : goal.tick-row-requires
tick-row-requires c =
    let marked = c.window_masks-masks.ensures.at c.loop-n.n (omega arith) in
    row_ready (meant_sizes c.args.window.now.machine) c.loop-n.invariant.figures (omega arith) marked

pub loop-n-preserved : goal.loop-n-preserved
loop-n-preserved c =
    let sizes = meant_sizes c.args.window.now.machine in
    let record { figures = figures; words = words } = c.loop-n.invariant in
    let marked = c.window_masks-masks.ensures.at c.loop-n.n (omega arith) in
    record {
      figures = row_ticked sizes figures _ marked c.tick-row.ensures;
      words = filling_more words (omega arith) (row_top sizes figures c.states.ensures c.top.ensures);
    }

pub returns : goal.returns
returns c =
    let all : c.args.window.now.length + 1 ≡ c.loop-n.n = omega arith in
    rw all (filling_end c.loop-n.invariant.words (omega arith))
