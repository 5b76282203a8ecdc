use Rattle.std.proofs.Common.{refl, rules, of_calls}
use Rattle.model.specs.Verdict.{machine_gives}
use Rattle.level.specs.Inside.{machines_of}
use Rattle.verdict.proofs.Found.{find_map_found}
use Rattle.verdict.proofs.starts.machines_judged.Goals as goal

pub returns : goal.returns
returns c =
    find_map_found _ _ (machine_gives (machines_of c.args.masked.now)) refl
    (λ x r h k. search (rules, of_calls)) c.find_map.result c.find_map.ensures.runs
