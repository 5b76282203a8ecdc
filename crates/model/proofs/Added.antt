-- Sums over the machines 0 to i - 1.
use Prim.Native.Nat.{ℕ, zero, suc, ◌+◌, ◌≤◌, ◌<◌}
use mathlib.Core.Path.{◌≡◌, refl}
use native.Mathlib.Omega.{arith}
use Rattle.model.specs.Verdict.{added}

pub added_le : (i : ℕ) (f g : ℕ → ℕ) → ((j : ℕ) → j < i → f j ≤ g j) → added i f ≤ added i g
unfolding added
added_le zero f g h = omega arith
added_le (suc i) f g h = omega (arith, added_le i f g (λ j l. h j (omega arith)), h i (omega arith))

pub added_cong : (i : ℕ) (f g : ℕ → ℕ) → ((j : ℕ) → j < i → f j ≡ g j) → added i f ≡ added i g
unfolding added
added_cong zero f g h = refl
added_cong (suc i) f g h = omega (arith, added_cong i f g (λ j l. h j (omega arith)), h i (omega arith))

pub added_sum : (i : ℕ) (f g : ℕ → ℕ) → added i (λ j. f j + g j) ≡ added i f + added i g
unfolding added
added_sum zero f g = refl
added_sum (suc i) f g = omega (arith, added_sum i f g)

pub added_zero : (i : ℕ) → added i (λ j. 0) ≡ 0
unfolding added
added_zero zero = refl
added_zero (suc i) = omega (arith, added_zero i)
