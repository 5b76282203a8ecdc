-- What the contracts of inner functions cite, and no reader has to believe.
use Rattle.std.specs.Prelude.{ℕ, ◌+◌, ◌%◌, ◌≤◌, ◌<◌, ◌≡◌, List, [], length, get_or, replicate}
use Rattle.model.specs.Limits.{longest_window}
use Rattle.model.specs.Machine.{Machine, machine_of}
use Rattle.model.specs.Legal.{requested}
use Rattle.model.specs.Reckon.{request}
use Rattle.model.specs.Inside.{IsRow}
use Rattle.model.specs.Verdict.{requests}
use Rattle.sheet.specs.Format.{decode}
use Rattle.walk.specs.Inside.{Marks, Last}
use Rattle.level.specs.declared.Progress.{Progress}
use Rattle.level.specs.declared.Level.{Level}
use Rattle.level.specs.declared.masked.MaskedSheet.{MaskedSheet}
use Rattle.level.specs.Masked.{mask_at}

-- the progress has the machine's row and request bound for [s, s + n)
pub record ProgressAt (m : Machine) (s n : ℕ) (progress : Progress) : Type 0 where
  pub row : IsRow m (requested m) s n progress.row
  pub top : progress.top ≡ request m s n

-- a machine's progress before a tick that the mask marks
pub record Standing (m : Machine) (mask : ℕ) (progress : Progress) : Type 0 where
  pub start : ℕ
  pub ticks : ℕ
  pub near : ticks < longest_window
  pub marks : Marks m (start + ticks) mask
  pub stands : ProgressAt m start ticks progress

-- and after it
pub record Moved (m : Machine) (mask : ℕ) (old new : Progress) : Type 0 where
  pub on : (s n : ℕ) → Marks m (s + n) mask → ProgressAt m s n old → ProgressAt m s (n + 1) new

-- the progress of a machine that nothing asks for
abbrev pub blank : Progress
blank = record { row = []; top = 0 }

abbrev pub progress_of : List Progress → ℕ → Progress
progress_of progress j = get_or progress j blank

-- a sheet's machines
abbrev pub machines_of : MaskedSheet → List Machine
machines_of masked = decode masked.sheet.bytes.now

-- machines 0 to i have their progress for [s, s + n)
pub record AllProgressAt (ms : List Machine) (i s n : ℕ) (progress : List Progress) : Type 0 where
  pub long : length progress ≡ 8
  pub at : (j : ℕ) → j ≤ i → ProgressAt (machine_of ms j) s n (progress_of progress j)

-- the level has them, the request bounds above i added, i's own, and i's last instant before s + n
pub record FiguresAt (ms : List Machine) (i s n : ℕ) (level : Level) : Type 0 where
  pub progress : AllProgressAt ms i s n level.progress
  pub above : level.above ≡ requests ms i s n
  pub own : level.own ≡ request (machine_of ms i) s n
  pub last : Last (machine_of ms i) s n level.last

-- a machine's progress before the first tick
abbrev pub nothing : Progress
nothing = record { row = replicate 16 0; top = 0 }

-- a level before the first tick
abbrev pub begun : MaskedSheet → ℕ → ℕ → Level
begun masked i s =
    record {
      machine = i;
      start = s;
      ticks = 0;
      phase = s;
      progress = replicate 8 nothing;
      above = 0;
      own = 0;
      last = record { ticks = 0; mask = mask_at masked.masks i s; row = replicate 16 0 };
    }

-- the level of machine i stands n ticks from s, of which there are no more than a window has
pub record PlacedAt (masked : MaskedSheet) (i s n : ℕ) (level : Level) : Type 0 where
  pub known : i < masked.sheet.machines
  pub machine : level.machine ≡ i
  pub start : level.start ≡ s
  pub ticks : level.ticks ≡ n
  pub near : n ≤ longest_window
  pub phase : level.phase ≡ (s + n) % masked.sheet.hyperperiod

pub record LevelAt (masked : MaskedSheet) (i s n : ℕ) (level : Level) : Type 0 where
  pub placed : PlacedAt masked i s n level
  pub figures : FiguresAt (machines_of masked) i s n level

-- the level stands where it says
abbrev pub LevelStands : MaskedSheet → Level → Type 0
LevelStands masked level = LevelAt masked level.machine level.start level.ticks level

-- and has gone on by a tick
abbrev pub LevelOnward : MaskedSheet → Level → Level → Type 0
LevelOnward masked old new = LevelAt masked old.machine old.start (old.ticks + 1) new

-- its machines have moved on by a tick
pub record LevelMoved (masked : MaskedSheet) (old new : Level) : Type 0 where
  pub placed : PlacedAt masked old.machine old.start old.ticks new
  pub figures : FiguresAt (machines_of masked) old.machine old.start (old.ticks + 1) new
