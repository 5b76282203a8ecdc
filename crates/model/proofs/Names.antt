-- The laws of the names that stand for a rule of the exchange: Instant, MayBegin, cost, divisor, hyperperiod.
-- No other law looks behind these names or the tests of the first two; only Numbers, with P1 to P12, and Worked compute
-- with them.
use Prim.Native.Nat.{ℕ, ◌+◌, ◌-◌, ◌/◌, ◌%◌, ◌≤◌, ◌<◌, ◌∣◌}
use mathlib.Core.Path.{◌≡◌}
use mathlib.Core.Bool.{true, false}
use mathlib.Core.Logic.Iff
use mathlib.Core.Logic.{◌↔◌, ⊎_elim}
use native.Mathlib.Omega.{arith}
use native.Mathlib.Nat.{div-add-mod', dvd-mul_left, mod-eq-zero_of_dvd, dvd_of_mod-eq-zero}
use native.Mathlib.Nat.{dvd-add_iff_left, dvd-sub, dvd_trans, le_of_dvd}
use lib.Dec.{eqb}
use borrow.Author.Tests.{eq-eqb, eqb-true, lt-ltb, ltb-true}
use Rattle.number.proofs.Divide.{gcd_of_is}
use Rattle.model.specs.Machine.{Machine, count, action_of, periods, divisor}
use Rattle.model.specs.Legal.{Instant, MayBegin, cost}
use Rattle.model.specs.Reckon.{is_instant, may_begin}
use Rattle.model.specs.Inside.{Repeats, Closed, Separate}
use Rattle.model.proofs.Tests.{true_or_false}
use Rattle.model.proofs.Periods.{periods_each}

-- what is read of a sheet to tell a cost, and whether there is an instant
pub cost_read : {time : ℕ} (m : Machine) (k : ℕ) → time ≡ (action_of m k).time → time ≡ cost m k
unfolding cost
cost_read m k e = e

pub instant_read : {period : ℕ} (m : Machine) (k t : ℕ) → period ≡ (action_of m k).period
    → eqb (t % period) 0 ≡ is_instant m k t
unfolding is_instant
instant_read m k t e = rw e

-- an instant is a multiple of the period
pub instant_divides : (m : Machine) (k t : ℕ) → Instant m k t ↔ ((action_of m k).period ∣ t)
unfolding Instant
instant_divides m k t = (
  λ (n, e). rw e (dvd-mul_left T n),
  λ d. (t / T, omega (arith, div-add-mod' t T, mod-eq-zero_of_dvd T d)),
)
  where
    T : ℕ
    T = (action_of m k).period

-- the tests say what the names say
pub is_instant_law : (m : Machine) (k t : ℕ) → (is_instant m k t ≡ true) ↔ Instant m k t
unfolding is_instant
is_instant_law m k t = (
  λ e. (instant_divides m k t).1 (dvd_of_mod-eq-zero (action_of m k).period (eqb-true _ 0 e)),
  λ i. eq-eqb _ 0 (mod-eq-zero_of_dvd (action_of m k).period ((instant_divides m k t).0 i)),
)

pub is_instant_false : (m : Machine) (k t : ℕ) → (Instant m k t → ⊥) → is_instant m k t ≡ false
is_instant_false m k t h =
    ⊎_elim (λ e. absurd (h ((is_instant_law m k t).0 e))) (λ e. e) (true_or_false (is_instant m k t))

pub may_begin_law : (m : Machine) (q : ℕ) → (may_begin m q ≡ true) ↔ MayBegin m q
unfolding may_begin MayBegin
may_begin_law m q = (ltb-true q m.states, lt-ltb q m.states)

-- instants come again after a multiple of each period
pub multiple_repeats : (m : Machine) (h : ℕ) → ((k : ℕ) → k < count m → (action_of m k).period ∣ h) → Repeats m h
multiple_repeats m h d k l t =
    Iff.trans (instant_divides m k (t + h))
    (Iff.trans (Iff.symm (dvd-add_iff_left (action_of m k).period (d k l))) (Iff.symm (instant_divides m k t)))

-- sinks that are states keep a sequence among the states
pub sinks_closed : (m : Machine) → ((k : ℕ) → k < count m → (action_of m k).sink < m.states) → Closed m
unfolding MayBegin
sinks_closed m h = record { inside = λ q l. l; onward = λ k l a. h k l }

-- instants are a common divisor of the periods apart, or a multiple of it, and no deadline exceeds the divisor
pub divisor_separates : (m : Machine) (g : ℕ) → ((k : ℕ) → k < count m → g ∣ (action_of m k).period)
    → ((k : ℕ) → k < count m → (0 < (action_of m k).deadline) × ((action_of m k).deadline ≤ g)) → Separate m
divisor_separates m g d h =
    record {
      positive = λ k l. (h k l).0;
      gap = λ k j u v a b x y l.
          let apart : g ≤ v - u = le_of_dvd (omega arith) (dvd-sub g (multiple j v b y) (multiple k u a x)) in
          omega (arith, (h k a).1);
    }
  where
    multiple : (k t : ℕ) → k < count m → Instant m k t → g ∣ t
    multiple k t l i = dvd_trans g (d k l) ((instant_divides m k t).0 i)

-- the divisor of Machine.antt divides each period
pub divisor_divides : (m : Machine) (k : ℕ) → k < count m → divisor m ∣ (action_of m k).period
unfolding divisor
divisor_divides m = (periods_each (λ a. divisor m ∣ a) m).0 (gcd_of_is (periods m)).divides

-- so there is no instant but at its multiples
pub off_divisor : (m : Machine) (k t : ℕ) → k < count m → (t % divisor m ≡ 0 → ⊥) → is_instant m k t ≡ false
off_divisor m k t l h =
    is_instant_false m k t (λ i.
    h (mod-eq-zero_of_dvd (divisor m) (dvd_trans (divisor m) (divisor_divides m k l) ((instant_divides m k t).0 i))))

-- what Closed says, of the tests
pub closed_inside : {m : Machine} → Closed m → (q : ℕ) → may_begin m q ≡ true → q < m.states
closed_inside {m} c q e = c.inside q ((may_begin_law m q).0 e)

pub closed_onward : {m : Machine} → Closed m → (k : ℕ) → k < count m → may_begin m (action_of m k).source ≡ true
    → may_begin m (action_of m k).sink ≡ true
closed_onward {m} c k l e = (may_begin_law m _).1 (c.onward k l ((may_begin_law m _).0 e))

-- a first pair may leave each state
pub state_begins : (m : Machine) (q : ℕ) → q < m.states → may_begin m q ≡ true
unfolding may_begin
state_begins m q l = lt-ltb q m.states l
