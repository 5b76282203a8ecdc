-- A state asks its actions, and an action its sink state at a later tick. What falls: a tick of the window counts 100, an
-- action that is left to ask 2, and an action stands 1 above the actions before it.
use Rattle.std.proofs.Common.{◌+◌, ◌*◌}
use Rattle.plain.proofs.reckon.+action_asks_state_asks.Given as goal

abbrev pub decreases-action_asks : goal.decreases-action_asks
decreases-action_asks l = l.window.now.length * 100 + l.k * 2 + 1

abbrev pub decreases-state_asks : goal.decreases-state_asks
decreases-state_asks l = l.window.now.length * 100 + l.left * 2
