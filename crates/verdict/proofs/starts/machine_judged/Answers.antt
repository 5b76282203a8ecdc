use Rattle.std.proofs.Common.{rules, of_calls}
use Rattle.model.specs.Verdict.{gives, machine_gives}
use Rattle.level.specs.Inside.{machines_of}
use Rattle.verdict.proofs.Found.{find_map_found}
use Rattle.verdict.proofs.starts.machine_judged.Goals as goal

pub returns : goal.returns
unfolding machine_gives
returns c =
    find_map_found _ _ (gives (machines_of c.args.masked.now) c.args.machine)
    c.args.masked.now.sheet.counted.period
    (λ x r h k. search (rules, of_calls)) c.find_map.result c.find_map.ensures.runs
