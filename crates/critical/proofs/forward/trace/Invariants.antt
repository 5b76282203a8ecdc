use Rattle.sheet.specs.Meant.{meant}
use Rattle.critical.proofs.Tracing.{Tracing}
use Rattle.critical.proofs.forward.trace.Given as goal

abbrev pub invariant-loop-k : goal.invariant-loop-k
invariant-loop-k l =
    let w = l.masked.window in
    Tracing (meant w.machine) w.from w.length l.k l.leaves l.left l.pairs.items
