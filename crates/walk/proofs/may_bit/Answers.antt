use Rattle.std.proofs.Common.{◌∙◌, ap}
use Rattle.model.proofs.Accepted.{sizes_may}
use Rattle.sheet.proofs.Entries.{meant_sizes}
use Rattle.walk.specs.Inside.{bit}
use Rattle.walk.proofs.may_bit.Goals as goal

pub returns : goal.returns
unfolding bit
returns c =
    c.from.ensures ∙ ap bit (c.has_instant.ensures ∙ sizes_may _ (meant_sizes c.args.machine.now) _ _ c.requires)
