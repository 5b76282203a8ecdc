use Rattle.model.specs.Legal.{requested}
use Rattle.model.specs.Reckon.{request}
use Rattle.model.specs.Inside.{IsRow}
use Rattle.sheet.specs.Meant.{meant}
use Rattle.bounds.proofs.Filling.{Filling}
use Rattle.bounds.proofs.fill.Given as goal

abbrev pub invariant-loop-n : goal.invariant-loop-n
invariant-loop-n l =
    let m = meant l.machine in
    record {
      figures : IsRow m (requested m) l.window.from l.n l.row;
      words : Filling (request m l.window.from) l.n l.fn.words l.words;
    }
