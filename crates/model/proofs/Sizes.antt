-- What the sizes of an accepted sheet's machines give: H is positive, and each period divides it.
use Prim.Native.Nat.{ℕ, ◌≤◌, ◌<◌, ◌∣◌}
use mathlib.Core.List.{List}
use native.Mathlib.Omega.{arith}
use native.Mathlib.Decide.{dec_lt}
use native.Mathlib.Nat.{not-suc-le-zero}
use lib.ListN.{length, get_or-eq_default}
use Rattle.number.specs.Divide.{Each}
use Rattle.number.proofs.Divide.{lcm_of_is, lcms_positive}
use Rattle.model.specs.Machine.{Machine, count, action_of, machine_of, all_periods, hyperperiod}
use Rattle.model.specs.Sizes.{Sizes}
use Rattle.model.proofs.Periods.{all_periods_each}

-- only the sheet's own machines have actions
pub has_actions : (ms : List Machine) (i k : ℕ) → k < count (machine_of ms i) → i < length ms
has_actions ms i k l =
    elim (dec_lt i (length ms)) [
      | yes h ↦ h
      | no h ↦ absurd (not-suc-le-zero (rw (get_or-eq_default ms _ (let z : length ms ≤ i = omega arith in z)) at l))
    ]

module _ (ms : List Machine) (sizes : Sizes ms) where
  pub period_positive : (i k : ℕ) → k < count (machine_of ms i) → 0 < (action_of (machine_of ms i) k).period
  period_positive i k l = ((sizes.machine i (has_actions ms i k l)).action k l).period.0

  all_positive : Each (λ p. 0 < p) (all_periods ms)
  all_positive = (all_periods_each (λ p. 0 < p) ms).1 period_positive

  pub hyperperiod_positive : 0 < hyperperiod ms
  unfolding hyperperiod
  hyperperiod_positive = lcms_positive 1 (all_periods ms) (omega arith) all_positive

  pub period_divides_hyperperiod : (i k : ℕ) → k < count (machine_of ms i)
      → (action_of (machine_of ms i) k).period ∣ hyperperiod ms
  unfolding hyperperiod
  period_divides_hyperperiod i =
      (all_periods_each (λ p. p ∣ hyperperiod ms) ms).0 (lcm_of_is (all_periods ms) all_positive).multiple i
