-- A level in the middle of a tick: the machines before j have moved, those from j on stand.
use Prim.Native.Nat.{ℕ, zero, suc, ◌+◌, ◌*◌, ◌≤◌, ◌<◌}
use mathlib.Core.Path.{◌≡◌, refl, ◌∙◌, ap₂}
use mathlib.Core.List.{List}
use native.Mathlib.Omega.{arith}
use native.Mathlib.Numerals.{add-one}
use native.Mathlib.Nat.{le_antisymm}
use native.Mathlib.Decide.{ℕ_discrete}
use lib.ListN.{length, set, length-set}
use lib.Seq.{get_or-set_same, get_or-set_other}
use Rattle.model.specs.Limits.{longest_window}
use Rattle.model.specs.Machine.{Machine, machine_of}
use Rattle.model.specs.Reckon.{request}
use Rattle.model.specs.Inside.{largest_cost}
use Rattle.model.specs.Verdict.{added, requests}
use Rattle.model.proofs.Accepted.{sizes_cost}
use Rattle.model.proofs.Bounds.{request_limit}
use Rattle.sheet.specs.Format.{machine_count, decode}
use Rattle.sheet.specs.Inside.{Accepted}
use Rattle.sheet.specs.Meant.{machine_meant}
use Rattle.sheet.proofs.Entries.{machine_sizes}
use Rattle.walk.specs.declared.LastInstant.{LastInstant}
use Rattle.walk.specs.Inside.{Marks, Last}
use Rattle.walk.proofs.Front.{last_none, last_instant}
use Rattle.level.specs.declared.Progress.{Progress}
use Rattle.level.specs.declared.Level.{Level}
use Rattle.level.specs.declared.masked.MaskedSheet.{MaskedSheet}
use Rattle.level.specs.Masked.{mask_at}
use Rattle.level.specs.Inside.{ProgressAt, Standing, Moved, blank, progress_of, machines_of, PlacedAt}
use Rattle.level.proofs.Phases.{few, phase_marks}
use Rattle.level.specs.Inside.{LevelStands, LevelMoved}

-- with the request bounds of the machines before j added
pub record HalfAt (ms : List Machine) (i s n j : ℕ) (progress : List Progress) (above : ℕ) : Type 0 where
  pub long : length progress ≡ 8
  pub moved : (k : ℕ) → k < j → ProgressAt (machine_of ms k) s (n + 1) (progress_of progress k)
  pub stands : (k : ℕ) → j ≤ k → k ≤ i → ProgressAt (machine_of ms k) s n (progress_of progress k)
  pub sum : above ≡ requests ms j s (n + 1)

-- of the rest of the level nothing has changed
pub record Walking (masked : MaskedSheet) (old : Level) (j : ℕ) (new : Level) (above : ℕ) : Type 0 where
  pub placed : PlacedAt masked old.machine old.start old.ticks new
  pub last : new.last ≡ old.last
  pub half : HalfAt (machines_of masked) old.machine old.start old.ticks j new.progress above

-- the request of a machine, and of a few machines, over a window that is in range
abbrev pub largest_request : ℕ
largest_request = longest_window * largest_cost

module _ {b : List ℕ} (accepted : Accepted b) where
  pub request_small : (i s n : ℕ) → i < machine_count b → n ≤ longest_window
      → request (machine_of (decode b) i) s n ≤ largest_request
  request_small i s n l h =
      let m = machine_of (decode b) i in
      omega (arith, request_limit m largest_cost (λ k c. (sizes_cost m (machine_sizes accepted i l) k c).1) s n)

  pub requests_small : (i s n : ℕ) → i ≤ machine_count b → n ≤ longest_window
      → requests (decode b) i s n ≤ i * largest_request
  unfolding added
  requests_small zero s n l h = omega arith
  requests_small (suc i) s n l h =
      omega (arith, requests_small i s n (omega arith) h, request_small i s n (omega arith) h)

placed_kept : {masked : MaskedSheet} {i s n above own : ℕ} {level : Level} {progress : List Progress}
    {last : LastInstant} → PlacedAt masked i s n level
    → PlacedAt masked i s n (record level { progress = progress; above = above; own = own; last = last })
placed_kept h =
    record {
      known = h.known;
      machine = h.machine;
      start = h.start;
      ticks = h.ticks;
      near = h.near;
      phase = h.phase;
    }

pub walking_begin : {masked : MaskedSheet} {level : Level} → LevelStands masked level → Walking masked level 0 level 0
unfolding added
walking_begin h =
    record {
      placed = h.placed;
      last = refl;
      half =
          record {
            long = h.figures.progress.long;
            moved = λ k l. absurd (omega arith);
            stands = λ k l u. h.figures.progress.at k u;
            sum = refl;
          };
    }

-- at the end of the loop over the machines above
pub walking_last : {masked : MaskedSheet} {old at : Level} {j above : ℕ} → Walking masked old j at above
    → j ≤ old.machine → old.machine ≤ j → Walking masked old old.machine at above
walking_last h l u = rw (le_antisymm l u) at h

module _ (masked : MaskedSheet) {old at : Level} {j above : ℕ}
    (ready : LevelStands masked old × (old.ticks < longest_window))
    (walking : Walking masked old j at above) (l : j ≤ old.machine) where
  known : old.machine < masked.sheet.machines
  known = ready.0.placed.known

  marks : Marks (machine_meant masked.sheet j) (old.start + old.ticks) (mask_at masked.masks j old.phase)
  marks = phase_marks masked _ ready.0.placed.phase j (omega (arith, known))

  pub walking_ready : (j < masked.sheet.machines)
      × Standing (machine_meant masked.sheet j) (mask_at masked.masks j old.phase) (progress_of at.progress j)
  walking_ready = (
    omega (arith, known),
    record {
      start = old.start;
      ticks = old.ticks;
      near = ready.1;
      marks = marks;
      stands = walking.half.stands j (omega arith) l;
    },
  )

  -- the sum before its machine's request is added, that request, and both
  pub half_small : above ≤ 7 * largest_request
  half_small =
      let accepted = masked.sheet.counted.accepted in
      let n : old.ticks + 1 ≤ longest_window = omega (arith, ready.1) in
      let i : j ≤ machine_count masked.sheet.bytes.now = omega (arith, known, masked.sheet.counted.count) in
      omega (
        arith,
        walking.half.sum,
        requests_small accepted j old.start (old.ticks + 1) i n,
        few masked known,
      )

  module _ {new : Progress}
      (moved : Moved (machine_meant masked.sheet j) (mask_at masked.masks j old.phase) (progress_of at.progress j)
      new) where
    moved_on : ProgressAt (machine_meant masked.sheet j) old.start (old.ticks + 1) new
    moved_on = moved.on old.start old.ticks marks (walking.half.stands j (omega arith) l)

    pub half_top : new.top ≤ largest_request
    half_top =
        let accepted = masked.sheet.counted.accepted in
        let n : old.ticks + 1 ≤ longest_window = omega (arith, ready.1) in
        let i : j < machine_count masked.sheet.bytes.now = omega (arith, known, masked.sheet.counted.count) in
        omega (arith, moved_on.top, request_small accepted j old.start (old.ticks + 1) i n)

    pub walking_small : above + new.top ≤ 8 * largest_request
    walking_small = omega (arith, half_small, half_top)

    half_more : HalfAt (machines_of masked) old.machine old.start old.ticks (j + 1) (set at.progress j new)
        (above + new.top)
    unfolding added
    half_more =
        let half = walking.half in
        record {
          long = length-set at.progress j new ∙ half.long;
          moved = λ k u.
              elim (ℕ_discrete k j) [
                | yes e ↦
                    rw (e, get_or-set_same at.progress j new blank (omega (arith, half.long, few masked known)))
                    moved_on
                | no d ↦ rw (get_or-set_other at.progress j k new blank d) (half.moved k (omega arith))
              ];
          stands = λ k u v.
              rw (get_or-set_other at.progress j k new blank (λ e. omega arith)) (half.stands k (omega arith) v);
          sum = rw (add-one j) (ap₂ ◌+◌ half.sum moved_on.top);
        }

    pub walking_more : Walking masked old (j + 1)
        (record at { progress = set at.progress j new })
        (above + new.top)
    walking_more = record { placed = placed_kept walking.placed; last = walking.last; half = half_more }

-- when its own machine has moved, the tick is done; its instant, if it has one, is the last so far
module _ (masked : MaskedSheet) {old at : Level} {above : ℕ}
    (ready : LevelStands masked old × (old.ticks < longest_window))
    (walking : Walking masked old old.machine at above) {own : Progress}
    (moved : Moved (machine_meant masked.sheet old.machine) (mask_at masked.masks old.machine old.phase)
    (progress_of at.progress old.machine) own) where
  ended : {last : LastInstant}
      → Last (machine_meant masked.sheet old.machine) old.start (old.ticks + 1) last
      → LevelMoved masked old
      (record at { progress = set at.progress old.machine own; above = above; own = own.top; last = last })
  ended last =
      let l : old.machine ≤ old.machine = omega arith in
      let all = half_more masked ready walking l moved in
      record {
        placed = placed_kept walking.placed;
        figures =
            record {
              progress = record { long = all.long; at = λ j u. all.moved j (omega arith) };
              above = walking.half.sum;
              own = (moved_on masked ready walking l moved).top;
              last = last;
            };
      }

  pub ended_idle : mask_at masked.masks old.machine old.phase ≡ 0
      → LevelMoved masked old
      (record at { progress = set at.progress old.machine own; above = above; own = own.top })
  ended_idle e =
      ended (rw walking.last (last_none ready.0.figures.last (marks masked ready walking (omega arith)) e))

  pub ended_instant : (mask_at masked.masks old.machine old.phase ≡ 0 → ⊥)
      → LevelMoved masked old
      (record at {
        progress = set at.progress old.machine own;
        above = above;
        own = own.top;
        last =
            record {
              ticks = at.ticks;
              mask = mask_at masked.masks old.machine old.phase;
              row = (progress_of at.progress old.machine).row;
            };
      })
  ended_instant d =
      let row = (walking.half.stands old.machine (omega arith) (omega arith)).row in
      ended (rw walking.placed.ticks (last_instant (marks masked ready walking (omega arith)) d row))
