use Rattle.std.proofs.Common.{arith}
use Rattle.sheet.proofs.Entries.{meant_sizes}
use Rattle.rows.proofs.Rows.{rows_begin, rows_more, back_ready}
use Rattle.rows.proofs.lay_rows.Goals as goal

pub loop-k-init : goal.loop-k-init
loop-k-init c =
    let masked = c.args.masked.now in
    rw masked.each (rows_begin (meant_sizes masked.window.machine) (omega arith) c.args.rows.now (omega arith))

pub tick-requires : goal.tick-requires
tick-requires c =
    let masked = c.args.masked.now in
    back_ready (meant_sizes masked.window.machine) (c.loop-k.invariant.at _ (omega arith) (omega arith)) (omega arith)
    (masked.marked.at _ (omega arith))

pub loop-k-preserved : goal.loop-k-preserved
loop-k-preserved c =
    let masked = c.args.masked.now in
    rows_more (meant_sizes masked.window.machine) (omega arith) c.loop-k.invariant c.loop-k-test.true (omega arith)
    (masked.marked.at _ (omega arith)) c.tick.ensures
