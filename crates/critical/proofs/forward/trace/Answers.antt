use Rattle.std.proofs.Common.{ap, arith}
use Rattle.model.specs.declared.Action.{Action}
use Rattle.model.proofs.Accepted.{sizes_closed}
use Rattle.sheet.proofs.Entries.{meant_sizes}
use Rattle.rows.proofs.Rows.{rows_top, back_ready}
use Rattle.critical.proofs.Making.{making_known}
use Rattle.critical.proofs.Tracing.{tracing_begin, tracing_waits, tracing_takes, tracing_end, parts}
use Rattle.critical.proofs.forward.trace.Goals as goal
use Rattle.critical.proofs.forward.trace.Goals.{in-Some, in_default}

pub loop-k-init : goal.loop-k-init
loop-k-init c =
    let sizes = meant_sizes c.args.masked.now.window.machine in
    tracing_begin c.requires.none (rows_top sizes c.requires.laid c.states.ensures c.top-left.ensures)

pub first_making-requires : goal.first_making-requires
first_making-requires c =
    let masked = c.args.masked.now in
    back_ready (meant_sizes masked.window.machine) (c.requires.laid.at _ (omega arith) (omega arith)) (omega arith)
    (masked.marked.at _ c.loop-k-test.true)

pub cost-left-requires : goal.cost-left-requires
cost-left-requires c = making_known c.in-Some.ensures (c.args.masked.now.marked.at _ c.loop-k-test.true)

pub overflow_sub-left : goal.overflow_sub-left
overflow_sub-left c =
    let masked = c.args.masked.now in
    let closed = sizes_closed _ (meant_sizes masked.window.machine) in
    omega (
      arith,
      c.cost-left.ensures,
      parts closed c.loop-k.invariant c.requires.laid (omega arith) (masked.marked.at _ c.loop-k-test.true)
          c.in-Some.ensures,
    )

pub action-requires : goal.action-requires
action-requires c = making_known c.in-Some.ensures (c.args.masked.now.marked.at _ c.loop-k-test.true)

pub overflow_cast-j : goal.overflow_cast-j
overflow_cast-j c =
    let masked = c.args.masked.now in
    let known = making_known c.in-Some.ensures (masked.marked.at _ c.loop-k-test.true) in
    omega (arith, known, (meant_sizes masked.window.machine).actions)

pub loop-k-preserved : goal.loop-k-preserved
loop-k-preserved c =
    let masked = c.args.masked.now in
    let closed = sizes_closed _ (meant_sizes masked.window.machine) in
    let marks = masked.marked.at _ c.loop-k-test.true in
    elim c.match-first_making.branch [
      | in-Some w ↦
          rw (w.pairs-is, w.leaves-is, w.left-is)
          (tracing_takes closed c.loop-k.invariant c.requires.laid (omega arith) marks w.in-Some.ensures
          w.cost-left.ensures (ap (λ (a : Action). a.sink) w.action.ensures) w.push.ensures.items)
      | in_default w ↦
          rw (w.pairs-is, w.leaves-is, w.left-is)
          (tracing_waits closed c.loop-k.invariant c.requires.laid (omega arith) marks w.in_default.ensures)
    ]

pub returns : goal.returns
returns c = tracing_end c.loop-k.invariant (omega arith)
