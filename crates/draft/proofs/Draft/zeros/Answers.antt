use Rattle.std.proofs.Common.{◌∙◌, ap, replicate, arith}
use Rattle.std.proofs.lemmas.List.{take-replicate}
use Rattle.draft.proofs.Draft.zeros.Goals as goal

pub returns-clause-zeros : goal.returns-clause-zeros
returns-clause-zeros c =
    take-replicate c.min.result 2200 0 (omega arith) ∙ ap (λ count. replicate count 0) c.min.ensures
