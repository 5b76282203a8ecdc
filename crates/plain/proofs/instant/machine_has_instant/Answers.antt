use Rattle.std.proofs.Common.{arith, rules}
use Rattle.std.proofs.lemmas.Iterator.{YieldsList-from_range}
use Rattle.std.proofs.lemmas.Iterator.Search.{any_from_yields_List}
use Rattle.model.specs.Machine.{count}
use Rattle.model.specs.Reckon.{is_instant}
use Rattle.sheet.specs.Meant.{meant}
use Rattle.plain.specs.Plain.{has_instant}
use Rattle.plain.proofs.instant.machine_has_instant.Goals as goal

pub returns : goal.returns
unfolding has_instant
returns c =
    let m = meant c.args.machine.now in
    any_from_yields_List (λ k. is_instant m k c.args.t) _ _ _ c.any.ensures.ran
    (YieldsList-from_range 0 c.actions.result (count m) (cc) (omega arith)) (λ x b q k. search rules)
