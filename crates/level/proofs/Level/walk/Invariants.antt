use Rattle.level.proofs.Half.{Walking}
use Rattle.level.proofs.Level.walk.Given as goal

abbrev pub invariant-loop-j : goal.invariant-loop-j
invariant-loop-j l = Walking l.masked l.initial.self l.j l.self l.above
