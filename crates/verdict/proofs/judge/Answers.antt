use Rattle.verdict.proofs.Replies.{verdict_safe}
use Rattle.verdict.proofs.judge.Goals as goal

pub returns-clause-promises : goal.returns-clause-promises
returns-clause-promises c e =
    let sheet = c.in_ok-accept.field-0 in
    rw c.in_ok-accept.ensures.sheet at (verdict_safe sheet.counted.accepted c.verdict_of.ensures e)
