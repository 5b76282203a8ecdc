use Rattle.std.proofs.Common.{◌∙◌, ap}
use Rattle.verdict.specs.Inside.{judgement}
use Rattle.verdict.proofs.Replies.{verdict_is}
use Rattle.verdict.proofs.verdict_of.Goals as goal

pub returns : goal.returns
returns c =
    ap judgement c.unwrap_or.ensures
    ∙ rw c.new-masked.ensures at
    (verdict_is _ c.machines_judged.result c.new-masked.result.sheet.counted.count c.machines_judged.ensures)
