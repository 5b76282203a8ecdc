-- What holds of each period of a list of periods holds of the period of each action, and the other way round.
use Prim.Native.Nat.{ℕ, zero, suc, ◌<◌}
use mathlib.Core.List.{List, [], ◌∷◌, map}
use mathlib.Core.Logic.{◌↔◌}
use native.Mathlib.Omega.{arith}
use native.Mathlib.Nat.{not-suc-le-zero, le_of_suc-le-suc, zero-lt-suc}
use lib.ListN.{length, get_or}
use Rattle.number.specs.Divide.{Each}
use Rattle.number.proofs.Each.{each_append}
use Rattle.model.specs.declared.Action.{Action}
use Rattle.model.specs.Machine.{Machine, count, action_of, machine_of, periods, all_periods}

module _ (P : ℕ → Type 0) where
  period_at : (xs : List Action) (d : Action) → Each P (map (λ a. a.period) xs) → (k : ℕ) → k < length xs
      → P (get_or xs k d).period
  period_at [] d h k l = absurd (not-suc-le-zero l)
  period_at (x ∷ xs) d h zero l = h.0
  period_at (x ∷ xs) d h (suc k) l = period_at xs d h.1 k (le_of_suc-le-suc l)

  period_all : (xs : List Action) (d : Action) → ((k : ℕ) → k < length xs → P (get_or xs k d).period)
      → Each P (map (λ a. a.period) xs)
  period_all [] d h = tt
  period_all (x ∷ xs) d h = (h 0 (zero-lt-suc _), period_all xs d (λ k l. h (suc k) (omega arith)))

  pub periods_each : (m : Machine) → Each P (periods m) ↔ ((k : ℕ) → k < count m → P (action_of m k).period)
  periods_each m = (period_at m.actions _, period_all m.actions _)

  all_periods_at : (ms : List Machine) → Each P (all_periods ms) → (i k : ℕ) → k < count (machine_of ms i)
      → P (action_of (machine_of ms i) k).period
  unfolding all_periods
  all_periods_at [] h i = λ k l. absurd (not-suc-le-zero l)
  all_periods_at (m ∷ ms) h zero = (periods_each m).0 ((each_append P (periods m) (all_periods ms)).0 h).0
  all_periods_at (m ∷ ms) h (suc i) = all_periods_at ms ((each_append P (periods m) (all_periods ms)).0 h).1 i

  all_periods_all : (ms : List Machine)
      → ((i k : ℕ) → k < count (machine_of ms i) → P (action_of (machine_of ms i) k).period) → Each P (all_periods ms)
  unfolding all_periods
  all_periods_all [] h = tt
  all_periods_all (m ∷ ms) h =
      (each_append P (periods m) (all_periods ms)).1 ((periods_each m).1 (h 0), all_periods_all ms (λ i. h (suc i)))

  pub all_periods_each : (ms : List Machine) → Each P (all_periods ms)
      ↔ ((i k : ℕ) → k < count (machine_of ms i) → P (action_of (machine_of ms i) k).period)
  all_periods_each ms = (all_periods_at ms, all_periods_all ms)
