use Rattle.std.proofs.Common.{arith}
use Rattle.verdict.proofs.Lengths.{walked_begin, walked_stands, walked_next, walked_light, walked_open}
use Rattle.verdict.proofs.Lengths.{level_small, length_closes, length_demand, length_late}
use Rattle.verdict.proofs.starts.start_judged.Goals as goal
use Rattle.verdict.proofs.starts.start_judged.Goals.{then-slack-level+else-slack-demand, else-slack-level}

pub loop-n-init : goal.loop-n-init
loop-n-init c = walked_begin c.begun-level.ensures.stands

pub tick-requires : goal.tick-requires
tick-requires c = (walked_stands c.loop-n.invariant, omega (arith, c.loop-n.invariant.next))

pub overflow_add-level : goal.overflow_add-level
overflow_add-level c =
    omega (arith, level_small c.loop-n.invariant c.tick.ensures)

pub returns-then-level-n : goal.returns-then-level-n
returns-then-level-n c =
    length_closes c.loop-n.invariant c.tick.ensures c.if-level-n.true

pub returns-then-slack-demand : goal.returns-then-slack-demand
returns-then-slack-demand c =
    let walked = c.loop-n.invariant in
    length_late walked c.tick.ensures c.if-level-n.false c.saturating_sub.ensures c.max-slack.ensures
    (length_demand walked c.tick.ensures c.demand-demand.ensures) c.if-slack-demand.true

pub loop-n-preserved : goal.loop-n-preserved
loop-n-preserved c =
    let walked = c.loop-n.invariant in
    elim c.if-slack-level.branch [
      | then-slack-level+else-slack-demand w ↦
          walked_next walked c.tick.ensures c.if-level-n.false c.saturating_sub.ensures c.max-slack.ensures
          (omega (arith, length_demand walked c.tick.ensures w.demand-demand.ensures, w.if-slack-demand.false))
      | else-slack-level w ↦
          walked_light walked c.tick.ensures c.if-level-n.false c.saturating_sub.ensures c.max-slack.ensures
          w.if-slack-level.false
    ]

pub returns : goal.returns
returns c = walked_open c.loop-n.invariant c.loop-n-test.false
