-- What the contracts of inner functions cite, and no reader has to believe.
use Rattle.std.specs.Prelude.{ℕ, ◌+◌, ◌-◌, ◌≤◌, ◌≡◌, List, [], length, get_or}
use Rattle.model.specs.Limits.{longest_window}
use Rattle.model.specs.Machine.{Machine}
use Rattle.model.specs.Legal.{requested}
use Rattle.model.specs.Inside.{IsBack}

-- row j, for j from k to n, has the figures of the ticks from s + j to s + n
pub record Rows (m : Machine) (s n k : ℕ) (rows : List (List ℕ)) : Type 0 where
  pub long : length rows ≡ longest_window + 1
  pub at : (j : ℕ) → k ≤ j → j ≤ n → IsBack m (requested m) (s + j) (n - j) (get_or rows j [])
