-- The paper's number and values for each answer of `judge`: Fits has no number in the table and no figures, Late has
-- its four, Open is 13, with machine and start.
use Rattle.std.specs.Prelude.{[], ◌∷◌, Result, Ok, Err}
use Rattle.reply.specs.declared.Reason.{Reason}
use Rattle.reply.specs.declared.Verdict.{Verdict}
use Rattle.reply.specs.declared.Verdict.TheVariants.{Fits, Late, Open}
use Rattle.reply.specs.Reply.{Reply, answer, refused, refusal_for}

abbrev pub paper : Result Verdict Reason → Reply
paper (Ok Fits) = answer 0 []
paper (Ok (Late w)) = answer 0 (w.machine ∷ w.start ∷ w.length ∷ w.demand ∷ [])
paper (Ok (Open machine start)) = answer 13 (machine ∷ start ∷ [])
paper (Err r) = refused (refusal_for r)
