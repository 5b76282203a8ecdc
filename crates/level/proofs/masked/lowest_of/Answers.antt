use Rattle.std.proofs.Common.{rules}
use Rattle.level.specs.Masked.{Idle}
use Rattle.level.proofs.Phases.{idle_front}
use Rattle.level.proofs.masked.lowest_of.Goals as goal

pub loop-t-preserved : goal.loop-t-preserved
loop-t-preserved c =
    let idle : Idle c.args.masks.now c.loop-t.t c.lowest_at.result =
    idle_front c.args.machines c.lowest_at.ensures.1 c.lowest_at.ensures.0 in
    search rules
