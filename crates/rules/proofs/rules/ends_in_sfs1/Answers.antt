use Rattle.std.proofs.Common.{◌∙◌}
use Rattle.rules.proofs.Tests.{same_pointwise}
use Rattle.rules.proofs.rules.ends_in_sfs1.Goals as goal

pub returns : goal.returns
returns c = c.ends_with.ensures.value ∙ same_pointwise _ _
