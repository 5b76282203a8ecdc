-- Searching numbers in their order.
use Rattle.std.specs.Prelude.{ℕ, zero, suc, ◌-◌, Bool, true, false, cond}
use Rattle.std.specs.Prelude.{Option, None, Some}

-- the first answer that there is for low, low + 1 and so on, n numbers in all
unfoldable pub first_of : {A : Type 0} → (ℕ → Option A) → ℕ → ℕ → Option A
first_of answer low zero = None
first_of answer low (suc n) = elim (answer low) [ None ↦ first_of answer (suc low) n | Some a ↦ Some a ]

-- the smallest number below n that passes the test
unfoldable pub smallest_below : ℕ → (ℕ → Bool) → Option ℕ
smallest_below n test = first_of (λ k. cond (test k) (Some k) None) 0 n

-- the smallest number from low to high that passes the test
abbrev pub smallest : ℕ → ℕ → (ℕ → Bool) → Option ℕ
smallest low high test = first_of (λ n. cond (test n) (Some n) None) low (suc high - low)

-- the search found a number
abbrev pub is_found : Option ℕ → Bool
is_found None = false
is_found (Some n) = true
