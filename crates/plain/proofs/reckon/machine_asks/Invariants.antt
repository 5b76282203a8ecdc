use Rattle.std.proofs.Common.{◌≡◌, eqb}
use Rattle.model.specs.Legal.{requested}
use Rattle.model.specs.Reckon.{most, best}
use Rattle.sheet.specs.Meant.{meant}
use Rattle.plain.proofs.reckon.machine_asks.Given as goal

abbrev pub invariant-loop-state : goal.invariant-loop-state
invariant-loop-state l =
    let m = meant l.window.machine in
    l.most ≡ most l.state (λ q. best m (requested m) l.window.from l.window.length (eqb q))
