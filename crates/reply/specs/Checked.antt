-- The paper's number and values for each answer of `check`.
use Rattle.std.specs.Prelude.{[], ◌∷◌, Result, Ok, Err}
use Rattle.reply.specs.declared.Accepted.{Accepted}
use Rattle.reply.specs.declared.Reason.{Reason}
use Rattle.reply.specs.Reply.{Reply, answer, refused, refusal_for}

abbrev pub paper : Result Accepted Reason → Reply
paper (Ok a) = answer 0 (a.machines ∷ a.hyperperiod ∷ [])
paper (Err r) = refused (refusal_for r)
