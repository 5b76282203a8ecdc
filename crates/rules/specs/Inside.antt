-- What the contracts of inner functions cite, and no reader has to believe.
use Rattle.std.specs.Prelude.{ℕ, Bool, cond, List, leb, Option, None, Some}
use Rattle.model.specs.Limits.{longest_hyperperiod}
use Rattle.model.specs.declared.Action.{Action}
use Rattle.model.specs.Machine.{Machine}
use Rattle.reply.specs.declared.Refusal.{Refusal}
use Rattle.reply.specs.Reply.{◌or_else◌}
use Rattle.rules.specs.declared.action_rule.ActionRule.{ActionRule}
use Rattle.rules.specs.declared.action_rule.ActionRule.TheVariants.{Ranges, Deadlines}
use Rattle.rules.specs.Rules.{rule1, rule2, rule3, rule4, action_in_range, deadline_in_range}

-- the refusal under rules 1 to 4, if there is one
abbrev pub trailer_rules : List ℕ → Option Refusal
trailer_rules b = rule1 b or_else rule2 b or_else rule3 b or_else rule4 b

-- the test of rule 7, or of rule 8, and the rule's number
abbrev pub keeps : ActionRule → Machine → Action → Bool
keeps Ranges = action_in_range
keeps Deadlines = deadline_in_range

abbrev pub number_of : ActionRule → ℕ
number_of Ranges = 7
number_of Deadlines = 8

-- n, unless it is above the longest hyperperiod
abbrev pub limited : ℕ → Option ℕ
limited n = cond (leb n longest_hyperperiod) (Some n) None
