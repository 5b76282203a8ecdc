use Rattle.std.proofs.Common.{sym, ◌∙◌}
use Rattle.rules.proofs.Stages.{passed_on, six_refuses, seven_refuses, eight_refuses, none_refuses, all_counted}
use Rattle.rules.proofs.accept.Goals as goal

pub returns-in_err-offset_rule-clause-refused : goal.returns-in_err-offset_rule-clause-refused
returns-in_err-offset_rule-clause-refused c =
    passed_on _ _ _ c.from_residual-in_err-offset_rule.ensures.1
    (six_refuses _ c.in_ok-trailer_rules.ensures c.in_ok-entry_rule.ensures c.in_err-offset_rule.ensures)

pub returns-in_err-check-clause-refused : goal.returns-in_err-check-clause-refused
returns-in_err-check-clause-refused c =
    passed_on _ _ _ c.from_residual-in_err-check.ensures.1
    (seven_refuses _ c.in_ok-trailer_rules.ensures c.in_ok-entry_rule.ensures c.in_ok-offset_rule.ensures
    c.in_err-check.ensures)

pub returns-in_err-check-2-clause-refused : goal.returns-in_err-check-2-clause-refused
returns-in_err-check-2-clause-refused c =
    passed_on _ _ _ c.from_residual-in_err-check-2.ensures.1
    (eight_refuses _ c.in_ok-trailer_rules.ensures c.in_ok-entry_rule.ensures c.in_ok-offset_rule.ensures
    c.in_ok-check.ensures c.in_err-check-2.ensures)

pub invariant_of-result : goal.invariant_of-result
invariant_of-result c =
    record {
      counted =
          all_counted _ c.in_ok-trailer_rules.ensures c.in_ok-entry_rule.ensures c.in_ok-offset_rule.ensures
          c.in_ok-check.ensures c.in_ok-check-2.ensures _
          (sym c.in_ok-hyperperiod.ensures.ok_part ∙ c.hyperperiod_of.ensures) _ c.machine_count.ensures.0;
    }

pub returns-clause-refused : goal.returns-clause-refused
returns-clause-refused c =
    none_refuses _ c.in_ok-trailer_rules.ensures c.in_ok-entry_rule.ensures c.in_ok-offset_rule.ensures
    c.in_ok-check.ensures c.in_ok-check-2.ensures _
    (sym c.in_ok-hyperperiod.ensures.ok_part ∙ c.hyperperiod_of.ensures)
