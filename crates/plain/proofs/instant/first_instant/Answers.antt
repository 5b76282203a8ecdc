use Rattle.std.proofs.Common.{◌≡◌, true, false, sym, ◌∙◌, rules}
use Rattle.std.proofs.lemmas.Bool.{false≢true}
use Rattle.std.proofs.lemmas.Iterator.{first_from_Range}
use Rattle.model.specs.Legal.{Instant}
use Rattle.model.specs.Reckon.{is_instant}
use Rattle.model.proofs.Names.{is_instant_law}
use Rattle.sheet.specs.Meant.{meant}
use Rattle.plain.proofs.instant.first_instant.Goals as goal

pub returns : goal.returns
returns c =
    let m = meant c.args.window.now.machine in
    let k = c.args.k in
    first_from_Range _ _ _ _ (Instant m k) (λ u. Instant m k u → ⊥) c.find.ensures.ran
    (λ x q h. let e : is_instant m k x ≡ true = search rules in (is_instant_law m k x).0 e)
    (λ x q h. let e : is_instant m k x ≡ false = search rules in
    (search rules, λ i. false≢true (sym e ∙ (is_instant_law m k x).1 i)))
