use Rattle.std.proofs.Common.{rules}
use Rattle.sheet.proofs.Entries.{meant_sizes}
use Rattle.walk.proofs.Row.{next_joins, ticking_begin, ticking_push, ticking_end}
use Rattle.walk.proofs.tick.Goals as goal

pub loop-j-init : goal.loop-j-init
loop-j-init c = rw c.into_iter-j-iterator.ensures.into_iter_gives (ticking_begin (search rules))

pub push-requires : goal.push-requires
push-requires c =
    next_joins (meant_sizes c.args.machine.now) c.requires c.loop-j.invariant.others c.in-Some.ensures.steps

pub loop-j-preserved : goal.loop-j-preserved
loop-j-preserved c =
    ticking_push c.loop-j.invariant (meant_sizes c.args.machine.now) c.in-Some.ensures.steps c.push.ensures

pub returns : goal.returns
returns c = ticking_end c.loop-j.invariant c.in-None.ensures.steps
