use Rattle.std.proofs.Common.{arith, length-take-le, ◌∙◌, ap}
use Rattle.model.specs.Reckon.{most}
use Rattle.model.specs.Inside.{figure}
use Rattle.walk.proofs.Row.{top_more}
use Rattle.walk.proofs.top.Goals as goal

pub loop-figure-init : goal.loop-figure-init
unfolding most
loop-figure-init c = omega arith

pub loop-figure-preserved : goal.loop-figure-preserved
loop-figure-preserved c =
    let whole = length-take-le c.args.states c.args.row.now (omega arith) in
    top_more c.args.row.now c.args.states _ (omega (arith, c.loop-figure-test.true, whole)) c.loop-figure.invariant
    c.max-top.ensures

pub returns : goal.returns
returns c =
    let whole = length-take-le c.args.states c.args.row.now (omega arith) in
    c.loop-figure.invariant ∙ ap (λ n. most n (figure c.args.row.now)) (omega (arith, whole))
