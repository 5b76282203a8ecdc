-- What the theorems ask of a sheet's machines holds of every sheet that keeps to the sizes.
use Prim.Native.Nat.{ℕ, ◌<◌, ◌%◌}
use mathlib.Core.Path.{◌≡◌, refl}
use mathlib.Core.List.{List}
use native.Mathlib.Omega.{arith}
use Rattle.model.specs.Machine.{Machine, count, action_of, machine_of, divisor, hyperperiod}
use Rattle.model.specs.Sizes.{Between, MachineSizes, Sizes}
use Rattle.model.specs.Legal.{MayBegin, cost}
use Rattle.model.specs.Reckon.{is_instant, request}
use Rattle.model.specs.Verdict.{requests}
use Rattle.model.specs.Inside.{Repeats, Closed, Separate, largest_cost, may_trigger}
use Rattle.model.proofs.Sizes.{period_divides_hyperperiod}
use Rattle.model.proofs.Names.{multiple_repeats, sinks_closed, divisor_divides, divisor_separates}
use Rattle.model.proofs.Names.{may_begin_law, state_begins, cost_read}
use Rattle.model.proofs.Shift.{request_remainder}
use Rattle.model.proofs.Added.{added_cong}

module _ (m : Machine) (sizes : MachineSizes m) where
  pub sizes_separate : Separate m
  sizes_separate = divisor_separates m (divisor m) (divisor_divides m) (λ k l. (sizes.action k l).deadline)

  -- a deadline is at least 1 and at most the divisor
  pub sizes_divisor : 0 < divisor m
  sizes_divisor =
      let first = (sizes.action 0 (omega (arith, sizes.actions.0))).deadline in
      omega (arith, first.0, first.1)

  pub sizes_closed : Closed m
  sizes_closed = sinks_closed m (λ k l. (sizes.action k l).sink)

  pub sizes_begin : MayBegin m m.initial
  sizes_begin = (may_begin_law m m.initial).0 (state_begins m m.initial sizes.initial)

  -- an action may be triggered at each of its instants: its source may begin a sequence
  pub sizes_may : (k t : ℕ) → k < count m → is_instant m k t ≡ may_trigger m t k
  sizes_may k t l = rw (state_begins m (action_of m k).source (sizes.action k l).source) refl

  -- a cost is at least 1 and at most the largest
  pub sizes_cost : (k : ℕ) → k < count m → Between 1 largest_cost (cost m k)
  sizes_cost k l = rw (← (cost_read m k refl)) (sizes.action k l).time

module _ (ms : List Machine) (sizes : Sizes ms) where
  pub sizes_repeat : (i : ℕ) → Repeats (machine_of ms i) (hyperperiod ms)
  sizes_repeat i = multiple_repeats (machine_of ms i) (hyperperiod ms) (period_divides_hyperperiod ms sizes i)

  -- so the starts below H stand for all, for the requests of several machines too
  pub requests_remainder : (i s n : ℕ) → requests ms i s n ≡ requests ms i (s % hyperperiod ms) n
  requests_remainder i s n =
      added_cong i (λ j. request (machine_of ms j) s n) (λ j. request (machine_of ms j) (s % hyperperiod ms) n)
      (λ j b. request_remainder (machine_of ms j) (hyperperiod ms) (sizes_repeat j) s n)
