use Rattle.level.specs.Inside.{LevelMoved}
use Rattle.level.proofs.Onward.{stands_idle, moved_onward}
use Rattle.level.proofs.Level.tick.Goals as goal
use Rattle.level.proofs.Level.tick.Goals.{then-masked-self, else-masked-self}

pub returns : goal.returns
returns c =
    let moved : LevelMoved c.args.masked.now c.args.self.now c.if-masked-self.self =
    elim c.if-masked-self.branch [
      | then-masked-self w ↦ rw w.self-is w.walk.ensures
      | else-masked-self w ↦ rw w.self-is (stands_idle c.args.masked.now c.requires.0 w.if-masked-self.false)
    ] in
    moved_onward c.args.masked.now moved c.requires.1 c.phase_after-self.ensures
