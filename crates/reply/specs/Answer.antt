-- The paper's number and values for each answer of a call that returns one number.
use Rattle.std.specs.Prelude.{ℕ, [], ◌∷◌, Result, Ok, Err}
use Rattle.reply.specs.declared.Reason.{Reason}
use Rattle.reply.specs.Reply.{Reply, answer, refused, refusal_for}

abbrev pub paper : Result ℕ Reason → Reply
paper (Ok v) = answer 0 (v ∷ [])
paper (Err r) = refused (refusal_for r)
