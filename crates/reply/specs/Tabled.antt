-- The paper's number and values for each answer of `table`.
use Rattle.std.specs.Prelude.{[], Result, Ok, Err, ⊤}
use Rattle.reply.specs.declared.Reason.{Reason}
use Rattle.reply.specs.Reply.{Reply, answer, refused, refusal_for}

abbrev pub paper : Result ⊤ Reason → Reply
paper (Ok _) = answer 0 []
paper (Err r) = refused (refusal_for r)
