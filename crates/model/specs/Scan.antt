-- One walk over the lengths: a form of the verdict for code, proved equal to it. Nothing here need be believed.
use Rattle.std.specs.Prelude.{ℕ, zero, suc, ◌-◌, max, true, false, List}
use Rattle.std.specs.Prelude.{Option, None, Some}
use Rattle.model.specs.Machine.{Machine, machine_of}
use Rattle.model.specs.Reckon.{demand}
use Rattle.model.specs.Verdict.{requests, closes, passes, Judgement, Late, Open}

-- the lengths n, n + 1 and so on, `left` of them: the first that closes or fails settles machine i and start s
unfoldable pub scan : List Machine → ℕ → ℕ → ℕ → ℕ → Option Judgement
scan ms i s n zero = Some (Open i s)
scan ms i s n (suc left) = elim (closes ms i s n) [
  | true ↦ None
  | false ↦ elim (passes ms i s n) [
    | true ↦ scan ms i s (suc n) left
    | false ↦ Some (Late i s n (demand (machine_of ms i) s n))
  ]
]

-- the largest of m less the requests above over [s, s + m), for m from 0 to n
unfoldable pub slack : List Machine → ℕ → ℕ → ℕ → ℕ
slack ms i s zero = 0
slack ms i s (suc n) = max (slack ms i s n) (suc n - requests ms i s (suc n))
