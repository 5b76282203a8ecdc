-- What the contracts of inner functions cite, and no reader has to believe.
use Rattle.std.specs.Prelude.{Option, None, Some}
use Rattle.model.specs.Verdict.{Judgement, Fits as fits, Late as late, Open as opened}
use Rattle.reply.specs.declared.Verdict.{Verdict}
use Rattle.reply.specs.declared.Verdict.TheVariants.{Fits, Late, Open}

-- a verdict, as the paper has it
abbrev pub judgement : Verdict → Judgement
judgement Fits = fits
judgement (Late w) = late w.machine w.start w.length w.demand
judgement (Open machine start) = opened machine start

-- what a walk has found
abbrev pub found : Option Verdict → Option Judgement
found None = None
found (Some v) = Some (judgement v)
