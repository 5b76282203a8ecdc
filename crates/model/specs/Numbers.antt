-- Document 01, "Sheet PAIR, and numbers to prove": machine 1 of the sheet PAIR, and P1 to P12 as one table.
use Rattle.std.specs.Prelude.{ℕ, List, [], ◌∷◌}
use Rattle.model.specs.Machine.{Machine, action, machine}
use Rattle.model.specs.Legal.{IsRequestBound, IsDemandBound}

abbrev pub machine1 : Machine
machine1 =
    machine 3 0
    (action 0 1 40 5 20 ∷ action 2 0 100 6 20 ∷ action 1 2 40 2 20 ∷ action 1 2 100 3 20 ∷ [])

-- a row of the table: the two ends of a window, and its bound
pub data Number : Type 0 where
  request_of : ℕ → ℕ → ℕ → Number
  demand_of : ℕ → ℕ → ℕ → Number

-- P1 to P12
abbrev pub numbers : List Number
numbers =
    request_of 0 0 0
    ∷ request_of 0 1 6
    ∷ request_of 0 40 6
    ∷ request_of 0 41 11
    ∷ request_of 1 40 0
    ∷ request_of 80 100 5
    ∷ request_of 80 101 8
    ∷ request_of 0 101 19
    ∷ request_of 0 200 26
    ∷ demand_of 0 19 0
    ∷ demand_of 0 20 6
    ∷ demand_of 0 120 19
    ∷ []

-- the row says what the bound of its window is
abbrev pub Right : Machine → Number → Type 0
Right m (request_of s f v) = IsRequestBound m s f v
Right m (demand_of s t v) = IsDemandBound m s t v

-- and so does each row of a table
abbrev pub AllRight : Machine → List Number → Type 0
AllRight m [] = Unit
AllRight m (r ∷ rs) = Right m r × AllRight m rs
