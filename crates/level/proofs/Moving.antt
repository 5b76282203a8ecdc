-- A machine's progress, moved on by a tick.
use Prim.Native.Nat.{ℕ, ◌<◌}
use mathlib.Core.Path.{◌≡◌, refl, sym, ◌∙◌}
use mathlib.Core.List.{List}
use native.Mathlib.Omega.{arith}
use Rattle.model.specs.declared.Way.TheVariants.{On}
use Rattle.model.specs.Machine.{Machine}
use Rattle.model.specs.Sizes.{MachineSizes}
use Rattle.model.specs.Reckon.{most}
use Rattle.model.specs.Inside.{figure}
use Rattle.sheet.specs.declared.accepted.Sheet.{Sheet}
use Rattle.sheet.specs.Meant.{machine_meant}
use Rattle.sheet.proofs.Entries.{machine_sizes}
use Rattle.walk.specs.Inside.{Ready, Ticked}
use Rattle.walk.proofs.Front.{row_ready, row_ticked, row_idle, row_top}
use Rattle.level.specs.declared.Progress.{Progress}
use Rattle.level.specs.Inside.{Standing, Moved}

-- the machines of a sheet keep to their sizes
pub sheet_sizes : (sheet : Sheet) (i : ℕ) → i < sheet.machines → MachineSizes (machine_meant sheet i)
sheet_sizes sheet i l = machine_sizes sheet.counted.accepted i (omega (arith, sheet.counted.count))

module _ {m : Machine} (sizes : MachineSizes m) where
  pub standing_ready : {mask : ℕ} {progress : Progress} → Standing m mask progress → Ready m mask progress.row
  standing_ready h = row_ready sizes h.stands.row (omega arith) h.marks

  pub moved_tick : {mask states : ℕ} {progress : Progress} {new : List ℕ} (top : ℕ)
      → Ticked On m mask progress.row new → states ≡ m.states → top ≡ most states (figure new)
      → Moved m mask progress (record { row = new; top = top })
  moved_tick {new = new} top ticked e f =
      record {
        on = λ s n marks h.
            let row = row_ticked sizes h.row new marks ticked in
            record { row = row; top = row_top sizes row e f };
      }

  -- a tick without an instant leaves the progress as it is
  pub moved_not : {mask : ℕ} {progress : Progress} → mask ≡ 0 → Moved m mask progress progress
  moved_not {mask} {progress} e =
      record {
        on = λ s n marks h.
            let row = row_idle sizes h.row marks e in
            record { row = row; top = h.top ∙ sym (row_top sizes h.row refl refl) ∙ row_top sizes row refl refl };
      }
