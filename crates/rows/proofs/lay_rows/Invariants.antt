use Rattle.sheet.specs.Meant.{meant}
use Rattle.rows.specs.Inside.{Rows}
use Rattle.rows.proofs.lay_rows.Given as goal

abbrev pub invariant-loop-k : goal.invariant-loop-k
invariant-loop-k l =
    let w = l.masked.window in Rows (meant w.machine) w.from w.length l.k l.rows
