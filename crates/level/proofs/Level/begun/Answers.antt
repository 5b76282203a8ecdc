use Rattle.level.proofs.Onward.{begun_at}
use Rattle.level.proofs.Level.begun.Goals as goal

pub returns-clause-stands : goal.returns-clause-stands
returns-clause-stands c = begun_at c.args.masked.now c.args.machine c.args.start c.requires.0 c.requires.1
