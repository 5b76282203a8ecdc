use Rattle.std.proofs.Common.{arith, ◌<◌}
use Rattle.model.proofs.Accepted.{sizes_divisor}
use Rattle.sheet.proofs.Entries.{meant_sizes}
use Rattle.walk.proofs.Binary.{bit_limit, left_room, left_end, left_back, left_whole}
use Rattle.walk.proofs.Mask.{marks_off}
use Rattle.walk.proofs.mask_at.Goals as goal

pub nonzero_rem-t : goal.nonzero_rem-t
nonzero_rem-t c = omega (arith, c.requires, sizes_divisor _ (meant_sizes c.args.machine.now))

pub returns-then-t-divisor-ne0 : goal.returns-then-t-divisor-ne0
returns-then-t-divisor-ne0 c = marks_off _ _ _ c.requires c.if-t-divisor-ne0.true

pub loop-j-init : goal.loop-j-init
loop-j-init c = rw c.actions-j.ensures left_end

pub overflow_mul-mask : goal.overflow_mul-mask
overflow_mul-mask c =
    omega (arith, left_room (meant_sizes c.args.machine.now).actions.1 c.loop-j-test.true c.loop-j.invariant)

pub overflow_add-mask : goal.overflow_add-mask
overflow_add-mask c =
    let digit : c.may_bit.result < 2 = rw c.may_bit.ensures (bit_limit _) in
    omega (arith, digit, left_room (meant_sizes c.args.machine.now).actions.1 c.loop-j-test.true c.loop-j.invariant)

pub loop-j-preserved : goal.loop-j-preserved
loop-j-preserved c = left_back _ c.loop-j.invariant c.loop-j-test.true c.may_bit.ensures

pub returns : goal.returns
returns c = record { is = left_whole c.loop-j.invariant (omega arith) }
