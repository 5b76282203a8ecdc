-- Document 01, "The program `fit`": the text of a sheet's check.
use Rattle.std.specs.Prelude.{ℕ, zero, suc, List, [], ◌∷◌, ◌++◌, length, codes}
use Rattle.std.specs.Prelude.{Option, None, Some}
use Rattle.model.specs.Machine.{Machine, count, machine_of, hyperperiod}
use Rattle.model.specs.Reckon.{request}
use Rattle.model.specs.Verdict.{Judgement, Fits, Late, Open, verdict}
use Rattle.reply.specs.declared.Refusal.{Refusal}
use Rattle.sheet.specs.Format.{decode}
use Rattle.rules.specs.Check.{refusal_of}
use Rattle.text.specs.Text.{line, refused_line}

-- an M line has machine, states, actions, request bound of [0, H)
abbrev pub machine_line : List Machine → ℕ → List ℕ
machine_line ms i =
    let m = machine_of ms i in
    line (codes "M") (i ∷ m.states ∷ count m ∷ request m 0 (hyperperiod ms) ∷ [])

-- the M lines of the first n machines
unfoldable pub machine_lines : List Machine → ℕ → List ℕ
machine_lines ms zero = []
machine_lines ms (suc n) = machine_lines ms n ++ machine_line ms n

-- the last line is the verdict
abbrev pub verdict_line : Judgement → List ℕ
verdict_line Fits = line (codes "FITS") []
verdict_line (Late machine start length demand) = line (codes "LATE") (machine ∷ start ∷ length ∷ demand ∷ [])
verdict_line (Open machine start) = line (codes "OPEN") (machine ∷ start ∷ [])

-- the first line has the hyperperiod
abbrev pub accepted_text : List Machine → List ℕ
accepted_text ms =
    line (codes "H") (hyperperiod ms ∷ []) ++ machine_lines ms (length ms) ++ verdict_line (verdict ms)

-- a refused sheet prints only REFUSED with number and place
abbrev pub fit_of : Option Refusal → List Machine → List ℕ
fit_of (Some r) ms = refused_line r
fit_of None ms = accepted_text ms

abbrev pub fit_text : List ℕ → List ℕ
fit_text b = fit_of (refusal_of b) (decode b)
