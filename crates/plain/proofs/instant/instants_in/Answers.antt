use Rattle.std.proofs.Common.{◌+◌, ◌∙◌, arith, rules}
use Rattle.std.specs.List.{range_with_len}
use Rattle.std.proofs.lemmas.Iterator.{YieldsList-from_range}
use Rattle.std.proofs.lemmas.Iterator.Consumers.{YieldsList-from_filter, count_from_yields_List}
use Rattle.std.proofs.lemmas.List.Sums.{length-filter}
use Rattle.sheet.specs.Meant.{meant}
use Rattle.plain.specs.Plain.{has_instant, instants}
use Rattle.plain.proofs.instant.instants_in.Goals as goal

pub returns : goal.returns
unfolding instants
returns c =
    let window = c.args.window.now in
    let found = has_instant (meant window.machine) in
    let to = window.from + window.length in
    let ticks = YieldsList-from_range window.from to window.length (cc) (omega arith) in
    count_from_yields_List c.filter.result _ c.count.ensures.ran
    (YieldsList-from_filter _ found ticks c.filter.ensures.closure (λ x r q k. search rules))
    ∙ length-filter found (range_with_len window.from window.length)
