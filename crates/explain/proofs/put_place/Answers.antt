use Rattle.std.proofs.Common.{arith}
use Rattle.explain.proofs.Replies.{place_machine, place_action}
use Rattle.explain.proofs.put_place.Goals as goal

pub returns-then-refusal-ge7-clause-says : goal.returns-then-refusal-ge7-clause-says
returns-then-refusal-ge7-clause-says c =
    let whole = place_action c.args.refusal c.args.text.now.bytes (omega arith) (omega arith) in cc

pub returns-else-refusal-ge7-clause-says : goal.returns-else-refusal-ge7-clause-says
returns-else-refusal-ge7-clause-says c =
    let whole = place_machine c.args.refusal c.args.text.now.bytes (omega arith) (omega arith) in cc
