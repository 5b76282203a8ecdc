use Rattle.std.proofs.Common.{arith}
use Rattle.level.proofs.Half.{walking_begin, walking_ready, walking_small, walking_more, walking_last}
use Rattle.level.proofs.Half.{ended_idle, ended_instant}
use Rattle.level.proofs.Level.walk.Goals as goal

pub loop-j-init : goal.loop-j-init
loop-j-init c = walking_begin c.requires.0

pub moved-moved-requires : goal.moved-moved-requires
moved-moved-requires c = walking_ready c.args.masked.now c.requires c.loop-j.invariant (omega arith)

pub overflow_add-above : goal.overflow_add-above
overflow_add-above c =
    omega (
      arith,
      walking_small c.args.masked.now c.requires c.loop-j.invariant (omega arith) c.moved-moved.ensures,
    )

pub loop-j-preserved : goal.loop-j-preserved
loop-j-preserved c =
    walking_more c.args.masked.now c.requires c.loop-j.invariant (omega arith) c.moved-moved.ensures

pub moved-own-requires : goal.moved-own-requires
moved-own-requires c =
    walking_ready c.args.masked.now c.requires
    (walking_last c.loop-j.invariant c.loop-j.auto.j-end c.loop-j-test.false) (omega arith)

pub returns-then-mask-ne0 : goal.returns-then-mask-ne0
returns-then-mask-ne0 c =
    ended_instant c.args.masked.now c.requires
    (walking_last c.loop-j.invariant c.loop-j.auto.j-end c.loop-j-test.false) c.moved-own.ensures
    c.if-mask-ne0.true

pub returns-else-mask-ne0 : goal.returns-else-mask-ne0
returns-else-mask-ne0 c =
    ended_idle c.args.masked.now c.requires
    (walking_last c.loop-j.invariant c.loop-j.auto.j-end c.loop-j-test.false) c.moved-own.ensures
    c.if-mask-ne0.false
