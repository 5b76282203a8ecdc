use Rattle.verdict.proofs.Lengths.{Walked}
use Rattle.verdict.proofs.starts.start_judged.Given as goal

abbrev pub invariant-loop-n : goal.invariant-loop-n
invariant-loop-n l = Walked l.masked l.machine l.start l.n l.level l.slack
