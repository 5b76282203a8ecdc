-- Document 01, "The sheet": the sizes that rules 3 and 5 to 9 hold a sheet's machines to. Theorems about every sheet
-- ask for them, and every accepted sheet has them; no public contract cites them.
use Rattle.std.specs.Prelude.{ℕ, ◌≤◌, ◌<◌, List, length}
use Rattle.model.specs.Limits.{longest_period, longest_time, longest_hyperperiod}
use Rattle.model.specs.declared.Action.{Action}
use Rattle.model.specs.Machine.{Machine, count, action_of, machine_of, divisor, hyperperiod}

-- a number from low to high
abbrev pub Between : ℕ → ℕ → ℕ → Type 0
Between low high n = (low ≤ n) × (n ≤ high)

-- an action of machine m
pub record ActionSizes (m : Machine) (a : Action) : Type 0 where
  pub source : a.source < m.states
  pub sink : a.sink < m.states
  pub period : Between 1 longest_period a.period
  pub time : Between 1 longest_time a.time
  pub deadline : Between 1 (divisor m) a.deadline

pub record MachineSizes (m : Machine) : Type 0 where
  pub states : Between 1 16 m.states
  pub initial : m.initial < m.states
  pub actions : Between 1 32 (count m)
  pub action : (k : ℕ) → k < count m → ActionSizes m (action_of m k)

pub record Sizes (ms : List Machine) : Type 0 where
  pub machines : Between 1 8 (length ms)
  pub machine : (i : ℕ) → i < length ms → MachineSizes (machine_of ms i)
  pub hyperperiod : hyperperiod ms ≤ longest_hyperperiod
