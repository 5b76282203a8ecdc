use Rattle.std.proofs.Common.{arith, ◌≡◌, length-take}
use Rattle.sheet.proofs.Entries.{meant_sizes}
use Rattle.walk.proofs.Front.{row_zeros, row_ready, row_ticked, row_idle, last_begin, last_instant, last_none}
use Rattle.bounds.proofs.Walking.{front_marks}
use Rattle.bounds.proofs.walk_to.Goals as goal
use Rattle.bounds.proofs.walk_to.Goals.{then-mask-ne0, else-mask-ne0}

pub loop-n-init : goal.loop-n-init
loop-n-init c =
    let zeros = row_zeros (meant_sizes c.args.window.now.machine) c.args.window.now.from in
    record { row = zeros; last = last_begin (c.window_masks-masks.ensures.at 0 (omega arith)) zeros }

pub tick-row-requires : goal.tick-row-requires
tick-row-requires c =
    let (inside, marked) = front_marks _ c.window_masks-masks.ensures c.loop-n-test.true in
    row_ready (meant_sizes c.args.window.now.machine) c.loop-n.invariant.row (omega (arith, inside)) marked

pub loop-n-preserved : goal.loop-n-preserved
loop-n-preserved c =
    let sizes = meant_sizes c.args.window.now.machine in
    let record { row = row; last = last } = c.loop-n.invariant in
    let marked = (front_marks _ c.window_masks-masks.ensures c.loop-n-test.true).1 in
    elim c.if-mask-ne0.branch [
      | then-mask-ne0 w ↦
          rw (w.row-is, w.last-is)
          (record {
            row = row_ticked sizes row _ marked w.tick-row.ensures;
            last = last_instant marked w.if-mask-ne0.true row;
          })
      | else-mask-ne0 w ↦
          rw (w.row-is, w.last-is)
          (record {
            row = row_idle sizes row marked w.if-mask-ne0.false;
            last = last_none last marked w.if-mask-ne0.false;
          })
    ]

pub returns : goal.returns
returns c =
    let all : c.args.window.now.length ≡ c.loop-n.n =
    omega (arith, length-take c.args.window.now.length c.window_masks-masks.result) in
    rw all c.loop-n.invariant
