-- Document 01, "Numbered replies": rules 1 to 9 are tried in that order; a sheet that breaks none is accepted.
use Rattle.std.specs.Prelude.{ℕ, List, [], ◌∷◌}
use Rattle.std.specs.Prelude.{Option}
use Rattle.model.specs.Machine.{hyperperiod}
use Rattle.reply.specs.declared.Refusal.{Refusal}
use Rattle.reply.specs.Reply.{Reply, answer, ◌or_else◌, ◌otherwise◌}
use Rattle.sheet.specs.Format.{machine_count, decode}
use Rattle.rules.specs.Rules.{rule1, rule2, rule3, rule4, rule5, rule6, rule7, rule8, rule9}

-- the refusal under rules 1 to 9, if there is one
unfoldable pub refusal_of : List ℕ → Option Refusal
refusal_of b =
    rule1 b
    or_else rule2 b
    or_else rule3 b
    or_else rule4 b
    or_else rule5 b
    or_else rule6 b
    or_else rule7 b
    or_else rule8 b
    or_else rule9 b

-- the reply of `check`: an accepted sheet's number of machines, and H
abbrev pub check_reply : List ℕ → Reply
check_reply b = refusal_of b otherwise answer 0 (machine_count b ∷ hyperperiod (decode b) ∷ [])
