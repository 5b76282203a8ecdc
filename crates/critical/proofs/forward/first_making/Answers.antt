use Rattle.std.proofs.Common.{◌∙◌, sym}
use Rattle.sheet.proofs.Entries.{meant_sizes}
use Rattle.walk.proofs.Row.{next_joins}
use Rattle.critical.proofs.Making.{seeking_begin, seeking_other, seeking_found, seeking_end}
use Rattle.critical.proofs.forward.first_making.Goals as goal

pub loop-j-init : goal.loop-j-init
loop-j-init c = rw c.into_iter-j-iterator.ensures.into_iter_gives seeking_begin

pub makes_up-requires : goal.makes_up-requires
makes_up-requires c =
    next_joins (meant_sizes c.args.machine.now) c.requires c.loop-j.invariant.others c.in-Some.ensures.steps

pub returns-then-makes_up : goal.returns-then-makes_up
returns-then-makes_up c =
    seeking_found c.loop-j.invariant c.in-Some.ensures.steps (sym c.makes_up.ensures ∙ c.if-makes_up.true)

pub loop-j-preserved : goal.loop-j-preserved
loop-j-preserved c =
    seeking_other c.loop-j.invariant c.in-Some.ensures.steps (sym c.makes_up.ensures ∙ c.if-makes_up.false)

pub returns : goal.returns
returns c = seeking_end c.loop-j.invariant c.in-None.ensures.steps
