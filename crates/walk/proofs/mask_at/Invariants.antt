use Rattle.model.specs.Machine.{count}
use Rattle.model.specs.Inside.{may_trigger}
use Rattle.sheet.specs.Meant.{meant}
use Rattle.walk.proofs.Binary.{Left}
use Rattle.walk.proofs.mask_at.Given as goal

abbrev pub invariant-loop-j : goal.invariant-loop-j
invariant-loop-j l =
    let m = meant l.machine in
    Left (may_trigger m l.t) (count m) l.j l.mask
