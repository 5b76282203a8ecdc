use Rattle.std.proofs.Common.{ap, arith}
use Rattle.model.specs.declared.Action.{Action}
use Rattle.sheet.specs.Meant.{meant}
use Rattle.sheet.proofs.Entries.{meant_sizes}
use Rattle.plain.proofs.Reckoning.{actions_ask, asks_none, asks_fits, asks_first, state_other, state_own}
use Rattle.plain.proofs.reckon.+action_asks_state_asks.Goals as goal

pub action_asks-returns-in_default : goal.action_asks-returns-in_default
action_asks-returns-in_default t c = asks_none _ _ _ _ c.in_default.ensures

pub action_asks-overflow_add-result : goal.action_asks-overflow_add-result
action_asks-overflow_add-result t c =
    let window = c.args.window.now in
    let sizes = meant_sizes window.machine in
    let leads = ap (λ (a : Action). a.sink) c.action.ensures in
    let rest = actions_ask (meant window.machine) _ _ _ c.actions.ensures c.state_asks.ensures in
    omega (
      arith,
      asks_fits _ _ _ _ sizes c.requires _ c.in-Some.ensures c.cost.ensures leads rest window.in_range,
    )

pub action_asks-returns : goal.action_asks-returns
action_asks-returns t c =
    let sizes = meant_sizes c.args.window.now.machine in
    let leads = ap (λ (a : Action). a.sink) c.action.ensures in
    let rest = actions_ask _ _ _ _ c.actions.ensures c.state_asks.ensures in
    asks_first _ _ _ _ sizes c.requires _ c.in-Some.ensures c.cost.ensures leads rest

pub state_asks-returns-then-action-state : goal.state_asks-returns-then-action-state
state_asks-returns-then-action-state t c =
    state_other _ _ _ _ _ c.if-left-eq0.false c.state_asks-others.ensures c.action.ensures c.if-action-state.true

pub state_asks-returns : goal.state_asks-returns
state_asks-returns t c =
    state_own _ _ _ _ _ c.if-left-eq0.false c.state_asks-others.ensures c.action.ensures c.if-action-state.false
    c.action_asks.ensures c.max.ensures
