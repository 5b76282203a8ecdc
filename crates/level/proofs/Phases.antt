-- A sheet's masks: what they are at a phase, and where no machine has an instant.
use Prim.Native.Nat.{ℕ, ◌%◌, ◌≤◌, ◌<◌}
use mathlib.Core.Path.{◌≡◌}
use mathlib.Core.List.{List, []}
use native.Mathlib.Omega.{arith}
use native.Mathlib.Nat.{mod-lt}
use lib.ListN.{length, take, length-take}
use Rattle.std.proofs.Common.{get_or-take}
use Rattle.model.proofs.Accepted.{sizes_repeat}
use Rattle.sheet.specs.Format.{decode}
use Rattle.sheet.specs.Meant.{machine_meant}
use Rattle.sheet.proofs.Entries.{few_machines}
use Rattle.walk.specs.Inside.{Marks}
use Rattle.walk.proofs.Mask.{marks_remainder}
use Rattle.level.specs.declared.masked.MaskedSheet.{MaskedSheet}
use Rattle.level.specs.Masked.{mask_at, Idle}

-- no machine of the first n has an instant
pub idle_front : {masks : List (List ℕ)} {t k : ℕ} (n : ℕ) → Idle (take n masks) t k → k ≤ length (take n masks)
    → Idle masks t k
idle_front {masks} {t} {k} n h l =
    record {
      before = λ j b.
          rw (get_or-take n masks j [] (omega (arith, length-take n masks))) at (h.before j b);
    }

module _ (masked : MaskedSheet) where
  pub few : {i : ℕ} → i < masked.sheet.machines → i < 8
  few known = omega (arith, known, masked.sheet.counted.count, (few_machines masked.sheet.counted.accepted).1)

  period_positive : 0 < masked.sheet.hyperperiod
  period_positive = omega (arith, masked.sheet.counted.period, masked.sheet.counted.accepted.hyperperiod.0)

  pub phase_inside : {phase : ℕ} (t : ℕ) → phase ≡ t % masked.sheet.hyperperiod → phase < masked.sheet.hyperperiod
  phase_inside t e = rw e (mod-lt t period_positive)

  -- the masks at the phase of a tick mark it
  pub phase_marks : {phase : ℕ} (t : ℕ) → phase ≡ t % masked.sheet.hyperperiod → (j : ℕ) → j < masked.sheet.machines
      → Marks (machine_meant masked.sheet j) t (mask_at masked.masks j phase)
  phase_marks {phase} t e j l =
      let counted = masked.sheet.counted in
      marks_remainder masked.sheet.hyperperiod
      (rw counted.period (sizes_repeat (decode masked.sheet.bytes.now) counted.accepted.sizes j))
      (rw (← e)
      (masked.marked.at j phase (omega (arith, counted.count)) (omega (arith, phase_inside t e, counted.period))))
