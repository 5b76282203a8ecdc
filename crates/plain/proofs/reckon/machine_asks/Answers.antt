use Rattle.std.proofs.Common.{◌≡◌, ◌∙◌, arith, rules}
use Rattle.model.specs.Reckon.{most}
use Rattle.sheet.specs.Meant.{meant}
use Rattle.sheet.proofs.Entries.{meant_sizes}
use Rattle.plain.proofs.Reckoning.{actions_ask, states_ask}
use Rattle.plain.proofs.reckon.machine_asks.Goals as goal

pub loop-state-preserved : goal.loop-state-preserved
unfolding most
loop-state-preserved c =
    let window = c.args.window.now in
    let asked = actions_ask (meant window.machine) _ _ _ c.actions.ensures c.state_asks.ensures in
    search rules

pub returns : goal.returns
returns c =
    let window = c.args.window.now in
    let all : c.loop-state.state ≡ c.states-state-end.result = omega arith in
    rw (all, c.states-state-end.ensures) at c.loop-state.invariant
    ∙ states_ask _ window.from window.length (meant_sizes window.machine)
