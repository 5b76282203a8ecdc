-- Document 01, "The sheet": a sheet's machines as plain data.
use Rattle.std.specs.Prelude.{ℕ, List, [], ◌∷◌, ◌++◌, map, length, get_or}
use Rattle.number.specs.Divide.{gcd_of, lcm_of}
use Rattle.model.specs.declared.Action.{Action}

-- an action of these numbers
abbrev pub action : (source sink period time deadline : ℕ) → Action
action source sink period time deadline =
    record { source = source; sink = sink; period = period; time = time; deadline = deadline }

-- a machine: how many states it has, which is the initial one, and its actions in the order of their numbers
pub record Machine : Type 0 where
  pub states : ℕ
  pub initial : ℕ
  pub actions : List Action

-- a machine of these numbers and actions
abbrev pub machine : (states initial : ℕ) → List Action → Machine
machine states initial actions = record { states = states; initial = initial; actions = actions }

-- how many actions a machine has, and the action of a number; past the last, one that nothing asks for
abbrev pub count : Machine → ℕ
count m = length m.actions

abbrev pub action_of : Machine → ℕ → Action
action_of m k = get_or m.actions k (action 0 0 0 0 0)

-- the machine of a number; past the last, one without states and actions
abbrev pub machine_of : List Machine → ℕ → Machine
machine_of ms i = get_or ms i (machine 0 0 [])

-- the periods of its actions
abbrev pub periods : Machine → List ℕ
periods m = map (λ a. a.period) m.actions

-- the greatest common divisor of the machine's periods
unfoldable pub divisor : Machine → ℕ
divisor m = gcd_of (periods m)

-- all periods in the sheet
unfoldable pub all_periods : List Machine → List ℕ
all_periods [] = []
all_periods (m ∷ ms) = periods m ++ all_periods ms

-- H, the least common multiple of all periods in the sheet
unfoldable pub hyperperiod : List Machine → ℕ
hyperperiod ms = lcm_of (all_periods ms)
