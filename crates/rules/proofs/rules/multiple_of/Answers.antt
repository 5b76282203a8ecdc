use Rattle.std.proofs.Common.{arith, ◌∙◌, ap}
use Rattle.number.specs.Divide.{lcm}
use Rattle.number.proofs.Divide.{lcm_positive}
use Rattle.model.specs.declared.Action.{Action}
use Rattle.model.proofs.Taking.{taking_more, taking_end, taking_rises}
use Rattle.sheet.proofs.Entries.{machine_positive}
use Rattle.rules.proofs.Limited.{limited_within, limited_above}
use Rattle.rules.proofs.rules.multiple_of.Goals as goal

pub returns-then-multiple-gt-LONGEST_HYPERPERIOD : goal.returns-then-multiple-gt-LONGEST_HYPERPERIOD
returns-then-multiple-gt-LONGEST_HYPERPERIOD c =
    let period = ap (λ (a : Action). lcm c.loop-j.multiple a.period) c.action.ensures in
    let next = taking_more _ c.loop-j.invariant.taking (omega arith) (c.lcm_of-multiple.ensures ∙ period) in
    let positive = machine_positive _ c.requires.0 c.args.entry.now.read.known in
    limited_above _ c.if-multiple-gt-LONGEST_HYPERPERIOD.true (taking_rises next (omega arith) positive)

pub loop-j-preserved : goal.loop-j-preserved
loop-j-preserved c =
    let period = ap (λ (a : Action). lcm c.loop-j.multiple a.period) c.action.ensures in
    let inside = (c.requires.0.period _ c.loop-j.j c.args.entry.now.read.known (omega arith)).0 in
    let positive = lcm_positive _ _ c.loop-j.invariant.in_range.0 inside in
    record {
      in_range = (
        omega (arith, c.lcm_of-multiple.ensures ∙ period, positive),
        c.if-multiple-gt-LONGEST_HYPERPERIOD.false,
      );
      taking = taking_more _ c.loop-j.invariant.taking (omega arith) (c.lcm_of-multiple.ensures ∙ period);
    }

pub returns : goal.returns
returns c = limited_within _ (taking_end c.loop-j.invariant.taking (omega arith)) c.loop-j.invariant.in_range.1
