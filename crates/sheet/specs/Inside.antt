-- What the contracts of inner functions cite, and no reader has to believe.
use Rattle.std.specs.Prelude.{ℕ, ◌+◌, ◌*◌, ◌≤◌, ◌<◌, ◌≡◌, List, length}
use Rattle.model.specs.Limits.{longest_period, longest_hyperperiod}
use Rattle.model.specs.Machine.{count, action_of, machine_of, hyperperiod}
use Rattle.model.specs.Sizes.{Between, Sizes}
use Rattle.sheet.specs.Format.{action_size, entry_size, entry, trailer_offset, machine_count}
use Rattle.sheet.specs.Format.{actions_before, decode}

-- a sheet that rules 1 to 4 let through
pub record TrailerKept (b : List ℕ) : Type 0 where
  pub long : Between 28 2124 (length b)
  pub machines : Between 1 8 (machine_count b)
  pub placed : trailer_offset b + (12 + entry_size * machine_count b) ≡ length b

-- one whose entries rule 5 lets through, too
pub record EntriesKept (b : List ℕ) : Type 0 where
  pub trailer : TrailerKept b
  pub states : (k : ℕ) → k < machine_count b → Between 1 16 (machine_of (decode b) k).states
  pub initial : (k : ℕ) → k < machine_count b → (machine_of (decode b) k).initial < (machine_of (decode b) k).states
  pub actions : (k : ℕ) → k < machine_count b → Between 1 32 (count (machine_of (decode b) k))

-- one whose offsets rule 6 lets through, too: every action stands inside the sheet
pub record OffsetsKept (b : List ℕ) : Type 0 where
  pub entries : EntriesKept b
  pub whole : length b ≡ action_size * actions_before b (machine_count b) + entry_size * machine_count b + 12
  pub inside : (k j : ℕ) → k < machine_count b → j < count (machine_of (decode b) k)
      → (entry b k).offset + action_size * j + action_size ≤ length b

-- one whose periods are in range, too
pub record PeriodsKept (b : List ℕ) : Type 0 where
  pub offsets : OffsetsKept b
  pub period : (k j : ℕ) → k < machine_count b → j < count (machine_of (decode b) k)
      → Between 1 longest_period (action_of (machine_of (decode b) k) j).period

-- what an accepted sheet has
pub record Accepted (b : List ℕ) : Type 0 where
  pub periods : PeriodsKept b
  pub sizes : Sizes (decode b)
  pub hyperperiod : Between 1 longest_hyperperiod (hyperperiod (decode b))

-- with its number of machines and its hyperperiod
pub record Counted (b : List ℕ) (machines h : ℕ) : Type 0 where
  pub accepted : Accepted b
  pub count : machines ≡ machine_count b
  pub period : h ≡ hyperperiod (decode b)

-- the entry of a machine of b, a sheet that rules 1 to 6 let through: the machine's number, its states and actions, and
-- where its first action stands
pub record HasEntry (b : List ℕ) (number states actions first : ℕ) : Type 0 where
  pub offsets : OffsetsKept b
  pub known : number < machine_count b
  pub states_are : states ≡ (machine_of (decode b) number).states
  pub actions_are : actions ≡ count (machine_of (decode b) number)
  pub first_is : first ≡ (entry b number).offset
