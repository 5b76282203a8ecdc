-- Document 01, "Verdict" and "Numbered replies": the reply of `judge`, and the paper's number and values of each case.
use Rattle.std.specs.Prelude.{ℕ, List, [], ◌∷◌}
use Rattle.model.specs.Verdict.{Judgement, verdict, Fits as fits, Late as late, Open as opened}
use Rattle.reply.specs.Reply.{Reply, answer, ◌otherwise◌}
use Rattle.sheet.specs.Format.{decode}
use Rattle.rules.specs.Check.{refusal_of}

-- Fits has no number in the table and no figures; Late has its four; Open is 13, with machine and start
abbrev pub judged : Judgement → Reply
judged fits = answer 0 []
judged (late machine start length demand) = answer 0 (machine ∷ start ∷ length ∷ demand ∷ [])
judged (opened machine start) = answer 13 (machine ∷ start ∷ [])

-- the reply of `judge`: the refusal under rules 1 to 9, or the verdict
abbrev pub verdict_reply : List ℕ → Reply
verdict_reply b = refusal_of b otherwise judged (verdict (decode b))
