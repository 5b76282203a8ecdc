use Rattle.sheet.proofs.Entries.{meant_sizes}
use Rattle.walk.proofs.Row.{next_joins, ending_begin, ending_take, ending_end}
use Rattle.walk.proofs.due_within.Goals as goal

pub loop-j-init : goal.loop-j-init
loop-j-init c =
    rw c.into_iter-j-iterator.ensures.into_iter_gives (ending_begin c.states.ensures c.top-most.ensures)

pub due_or-most-requires : goal.due_or-most-requires
due_or-most-requires c =
    next_joins (meant_sizes c.args.machine.now) c.requires c.loop-j.invariant.others c.in-Some.ensures.steps

pub loop-j-preserved : goal.loop-j-preserved
loop-j-preserved c = ending_take c.loop-j.invariant c.in-Some.ensures.steps c.due_or-most.ensures

pub returns : goal.returns
returns c = ending_end c.loop-j.invariant c.in-None.ensures.steps
