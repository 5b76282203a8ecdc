use Rattle.std.proofs.Common.{arith, ◌∙◌, ap}
use Rattle.number.specs.Divide.{fold, lcm}
use Rattle.model.specs.Machine.{periods}
use Rattle.model.proofs.Taking.{gathering_begin, gathering_end}
use Rattle.sheet.proofs.Decode.{decode_count}
use Rattle.rules.specs.Inside.{limited}
use Rattle.rules.proofs.Limited.{limited_within, past_limit, next_machine, read_machine}
use Rattle.rules.proofs.rules.hyperperiod_of.Goals as goal

pub loop-k-init : goal.loop-k-init
loop-k-init c = record { in_range = (omega arith, omega arith); gathering = gathering_begin }

pub returns-in_err-h : goal.returns-in_err-h
returns-in_err-h c =
    let machine = ap (λ m. limited (fold lcm c.loop-k.h (periods m))) (read_machine c.read.result c.read.ensures) in
    c.from_residual.ensures
    ∙ past_limit c.requires (omega arith) c.loop-k.invariant.in_range.0 c.loop-k.invariant.gathering
    (c.in_err-h.ensures ∙ machine)

pub loop-k-preserved : goal.loop-k-preserved
loop-k-preserved c =
    let machine = ap (λ m. limited (fold lcm c.loop-k.h (periods m))) (read_machine c.read.result c.read.ensures) in
    let (in_range, gathering) =
    next_machine c.requires (omega arith) c.loop-k.invariant.in_range.0 c.loop-k.invariant.gathering
    (c.in_ok-h.ensures ∙ machine) in
    record { in_range = in_range; gathering = gathering }

pub returns : goal.returns
returns c =
    limited_within _ (gathering_end c.loop-k.invariant.gathering (omega (arith, decode_count c.args.sheet.now)))
    c.loop-k.invariant.in_range.1
