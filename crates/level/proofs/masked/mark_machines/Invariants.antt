use Rattle.std.proofs.Common.{◌≡◌, ℕ, ◌<◌, length}
use Rattle.model.specs.Machine.{machine_of, hyperperiod}
use Rattle.sheet.specs.Format.{decode}
use Rattle.walk.specs.Inside.{Marks}
use Rattle.level.specs.Masked.{mask_at}
use Rattle.level.proofs.masked.mark_machines.Given as goal

abbrev pub invariant-loop-j : goal.invariant-loop-j
invariant-loop-j l =
    let ms = decode l.sheet.bytes.now in
    (length l.masks ≡ 8)
    × ((j t : ℕ) → j < l.j → t < hyperperiod ms → Marks (machine_of ms j) t (mask_at l.masks j t))
