-- A level before its first tick, after a tick, and what is due of its machine.
use Prim.Native.Nat.{ℕ, zero, suc, ◌+◌, ◌-◌, ◌%◌, ◌≤◌, ◌<◌}
use mathlib.Core.Path.{◌≡◌, refl, sym, ◌∙◌, ap}
use native.Mathlib.Omega.{arith}
use native.Mathlib.Nat.{mod-eq_of_lt, mod-add-mod, add-zero}
use lib.ListN.{get_or, get_or-replicate}
use Rattle.model.specs.Limits.{longest_window}
use Rattle.model.specs.Machine.{Machine}
use Rattle.model.specs.Reckon.{request, demand}
use Rattle.model.specs.Verdict.{added, requests}
use Rattle.model.proofs.Bounds.{request_empty}
use Rattle.model.proofs.Added.{added_cong}
use Rattle.sheet.specs.Meant.{machine_meant}
use Rattle.walk.specs.Inside.{Marks, Ready, DueWithin}
use Rattle.walk.proofs.Front.{row_zeros, last_begin, last_none, last_ready, last_demand}
use Rattle.level.specs.declared.Level.{Level}
use Rattle.level.specs.declared.masked.MaskedSheet.{MaskedSheet}
use Rattle.level.specs.Masked.{mask_at}
use Rattle.level.specs.Inside.{ProgressAt, nothing, progress_of, machines_of, begun, LevelAt, LevelStands, LevelMoved}
use Rattle.level.specs.Inside.{LevelOnward}
use Rattle.level.proofs.Phases.{few, phase_inside, phase_marks}
use Rattle.level.proofs.Moving.{sheet_sizes, moved_not}

-- after a tick
abbrev pub onward : Level → ℕ → Level
onward at phase = record at { ticks = at.ticks + 1; phase = phase }

module _ (masked : MaskedSheet) where
  pub begun_at : (i s : ℕ) → i < masked.sheet.machines → s < masked.sheet.hyperperiod
      → LevelAt masked i s 0 (begun masked i s)
  unfolding added
  begun_at i s known l =
      record {
        placed =
            record {
              known = known;
              machine = refl;
              start = refl;
              ticks = refl;
              near = omega arith;
              phase = phase;
            };
        figures =
            record {
              progress =
                  record {
                    long = refl;
                    at = λ j u.
                        rw (get_or-replicate 8 j nothing _ (omega (arith, few masked known)))
                        (progress_nothing j (omega (arith, known)));
                  };
              above = sym (requests_nothing i);
              own = sym (request_empty (machine_meant masked.sheet i) s);
              last =
                  last_begin (phase_marks masked (s + 0) phase i known)
                  (row_zeros (sheet_sizes masked.sheet i known) s);
            };
      }
    where
      phase : s ≡ (s + 0) % masked.sheet.hyperperiod
      phase = rw (add-zero s) (sym (mod-eq_of_lt l))

      progress_nothing : (j : ℕ) → j < masked.sheet.machines
          → ProgressAt (machine_meant masked.sheet j) s 0 nothing
      progress_nothing j k =
          record {
            row = row_zeros (sheet_sizes masked.sheet j k) s;
            top = sym (request_empty (machine_meant masked.sheet j) s);
          }

      requests_nothing : (j : ℕ) → requests (machines_of masked) j s 0 ≡ 0
      requests_nothing zero = refl
      requests_nothing (suc j) =
          omega (arith, requests_nothing j, request_empty (machine_meant masked.sheet j) s)

  -- a tick at which no machine of the level has an instant leaves the figures as they are
  pub stands_idle : {level : Level} → LevelStands masked level
      → level.machine < get_or masked.lowest level.phase 0
      → LevelMoved masked level level
  stands_idle {level} h l =
      let figures = h.figures in
      record {
        placed = h.placed;
        figures =
            record {
              progress = record { long = figures.progress.long; at = λ j u. progress j u };
              above = figures.above ∙ requests_idle level.machine (omega arith);
              own = figures.own ∙ request_idle level.machine (omega arith);
              last = last_none figures.last (here level.machine h.placed.known) (quiet level.machine (omega arith));
            };
      }
    where
      here : (j : ℕ) → j < masked.sheet.machines
          → Marks (machine_meant masked.sheet j) (level.start + level.ticks)
          (mask_at masked.masks j level.phase)
      here = phase_marks masked (level.start + level.ticks) h.placed.phase

      quiet : (j : ℕ) → j ≤ level.machine → mask_at masked.masks j level.phase ≡ 0
      quiet j u =
          (masked.lowered.at level.phase (phase_inside masked (level.start + level.ticks) h.placed.phase)).before j
          (omega arith)

      progress : (j : ℕ) → j ≤ level.machine
          → ProgressAt (machine_meant masked.sheet j) level.start (level.ticks + 1)
          (progress_of level.progress j)
      progress j u =
          let known : j < masked.sheet.machines = omega (arith, h.placed.known) in
          (moved_not (sheet_sizes masked.sheet j known) (quiet j u)).on level.start level.ticks (here j known)
          (h.figures.progress.at j u)

      request_idle : (j : ℕ) → j ≤ level.machine
          → request (machine_meant masked.sheet j) level.start level.ticks
          ≡ request (machine_meant masked.sheet j) level.start (level.ticks + 1)
      request_idle j u = sym (h.figures.progress.at j u).top ∙ (progress j u).top

      requests_idle : (j : ℕ) → j ≤ level.machine
          → requests (machines_of masked) j level.start level.ticks
          ≡ requests (machines_of masked) j level.start (level.ticks + 1)
      requests_idle j u =
          added_cong j (λ k. request (machine_meant masked.sheet k) level.start level.ticks)
          (λ k. request (machine_meant masked.sheet k) level.start (level.ticks + 1))
          (λ k c. request_idle k (omega arith))

  -- and then the tick is done
  pub moved_onward : {old at : Level} {phase : ℕ} → LevelMoved masked old at → old.ticks < longest_window
      → phase ≡ (at.phase + 1) % masked.sheet.hyperperiod
      → LevelOnward masked old (onward at phase)
  moved_onward {old} {at} {phase} h l e =
      let H = masked.sheet.hyperperiod in
      record {
        placed =
            record {
              known = h.placed.known;
              machine = h.placed.machine;
              start = h.placed.start;
              ticks = ap (λ n. n + 1) h.placed.ticks;
              near = omega arith;
              phase =
                  e
                  ∙ ap (λ n. (n + 1) % H) h.placed.phase
                  ∙ mod-add-mod (old.start + old.ticks) H 1
                  ∙ ap (λ n. n % H) (omega arith);
            };
        figures =
            record {
              progress = h.figures.progress;
              above = h.figures.above;
              own = h.figures.own;
              last = h.figures.last;
            };
      }

  -- of its machine, what is due
  module _ {level : Level} (h : LevelStands masked level) {m : Machine}
      (e : m ≡ machine_meant masked.sheet level.machine) where
    pub stands_ready : Ready m level.last.mask level.last.row
    stands_ready =
        rw e
        (last_ready h.figures.last (sheet_sizes masked.sheet level.machine h.placed.known)
        (omega (arith, h.figures.last.is.early, h.placed.near)))

    pub stands_demand : {v : ℕ} → DueWithin m level.last.mask level.last.row (level.ticks - level.last.ticks) v
        → v ≡ demand (machine_meant masked.sheet level.machine) level.start level.ticks
    stands_demand due =
        last_demand h.figures.last (sheet_sizes masked.sheet level.machine h.placed.known)
        (omega (arith, h.figures.last.is.early))
        (rw e at due)
