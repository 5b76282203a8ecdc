-- What an action, a state and a machine ask: the steps of the reckoning, and that its figures stay small.
use Prim.Native.Nat.{ℕ, zero, suc, ◌+◌, ◌-◌, ◌*◌, ◌≤◌, ◌<◌, ◌^◌, max}
use mathlib.Core.Path.{◌≡◌, refl, sym, ◌∙◌, ap, ap₂}
use mathlib.Core.Bool.{cond}
use Rattle.std.specs.Prelude.{None, Some}
use native.Mathlib.Omega.{arith}
use native.Mathlib.Numerals.{add-one}
use lib.Dec.{eqb}
use borrow.Author.Tests.{eq-eqb, ne_eqb}
use Rattle.model.specs.Limits.{longest_window}
use Rattle.model.specs.declared.Action.{Action}
use Rattle.model.specs.Machine.{Machine, count, action_of}
use Rattle.model.specs.Legal.{requested, cost}
use Rattle.model.specs.Sizes.{MachineSizes}
use Rattle.model.specs.Reckon.{may_begin, most, best, request}
use Rattle.model.specs.Inside.{largest_cost, InRange, at_first, asks_from}
use Rattle.model.proofs.Names.{state_begins, closed_inside}
use Rattle.model.proofs.Accepted.{sizes_cost, sizes_closed}
use Rattle.model.proofs.Best.{best_limit}
use Rattle.model.proofs.Back.{best_states}
use Rattle.model.proofs.Most.{most_cong}
use Rattle.model.proofs.Plain.{asks_best, at_first_none, at_first_is}
use Rattle.plain.specs.Inside.{FirstInstant}

module _ (m : Machine) (k t n : ℕ) where
  -- an action without an instant in [t, t + n) asks nothing
  pub asks_none : FirstInstant m k t n None → 0 ≡ at_first m (requested m) t n k
  asks_none none = sym (at_first_none m (requested m) k t n none)

  -- else, at the first one, its cost and what its sink asks of the rest of the window
  module _ (sizes : MachineSizes m) (known : k < count m) (u : ℕ) (first : FirstInstant m k t n (Some u))
      {own sink v : ℕ} (costs : own ≡ cost m k) (leads : sink ≡ (action_of m k).sink)
      (rest : v ≡ best m (requested m) (u + 1) (t + n - (u + 1)) (eqb sink)) where
    -- they are small, and so fit a word
    pub action_small : InRange t (t + n) → own + v ≤ largest_cost + longest_window * largest_cost
    action_small span =
        let cost_limit : (j : ℕ) → j < count m → cost m j ≤ largest_cost = λ j l. (sizes_cost m sizes j l).1 in
        omega (
          arith,
          cost_limit k known,
          best_limit m (requested m) largest_cost (λ p. cost_limit p.action) (u + 1) (t + n - (u + 1)) (eqb sink),
          span.short,
          first.0,
        )

    pub asks_fits : InRange t (t + n) → own + v < 2 ^ 32
    asks_fits span = omega (arith, action_small span)

    pub asks_first : own + v ≡ at_first m (requested m) t n k
    asks_first =
        let (from, before, now, none) = first in
        ap₂ ◌+◌ costs (rw (leads, add-one) at rest)
        ∙ sym (at_first_is m (requested m) k t n u (t + n - suc u) (omega arith) from now none)

-- the last of several figures beside the others
most_last : (left : ℕ) (g : ℕ → ℕ) → (left ≡ 0 → ⊥) → most left g ≡ max (most (left - 1) g) (g (left - 1))
unfolding most
most_last zero g h = absurd (h refl)
most_last (suc k) g h = let e : suc k - 1 ≡ k = omega arith in rw e refl

-- a state, by the actions that are left to ask, the last of which is `a`
module _ (m : Machine) (t n state left : ℕ) {rest : ℕ} {a : Action} (some : left ≡ 0 → ⊥)
    (others : rest ≡ most (left - 1) (asks_from m (requested m) t n (eqb state)))
    (read : a ≡ action_of m (left - 1)) where
  source_is : a.source ≡ (action_of m (left - 1)).source
  source_is = ap (λ (x : Action). x.source) read

  last : most left (asks_from m (requested m) t n (eqb state))
      ≡ max rest (asks_from m (requested m) t n (eqb state) (left - 1))
  last = rw others (most_last left (asks_from m (requested m) t n (eqb state)) some)

  -- an action of another state is not asked
  pub state_other : (a.source ≡ state → ⊥) → rest ≡ most left (asks_from m (requested m) t n (eqb state))
  state_other h =
      let other = ne_eqb state (action_of m (left - 1)).source (λ e. h (source_is ∙ sym e)) in
      sym (last ∙ rw other (omega arith))

  -- its own is, beside the others
  pub state_own : {own v : ℕ} → a.source ≡ state → own ≡ at_first m (requested m) t n (left - 1) → v ≡ max rest own
      → v ≡ most left (asks_from m (requested m) t n (eqb state))
  state_own e h l =
      let same = eq-eqb state (action_of m (left - 1)).source (sym e ∙ source_is) in
      l ∙ sym (last ∙ rw (same, sym h) refl)

-- a state asks all the actions of its machine
pub actions_ask : (m : Machine) (t n q : ℕ) {v left : ℕ} → left ≡ count m
    → v ≡ most left (asks_from m (requested m) t n (eqb q)) → v ≡ best m (requested m) t n (eqb q)
actions_ask m t n q all asked = rw all at asked ∙ asks_best m (requested m) (λ k t u. refl) t n (eqb q)

-- a machine asks all its states: a first pair may leave each of them
pub states_ask : (m : Machine) (s n : ℕ) → MachineSizes m
    → most m.states (λ q. best m (requested m) s n (eqb q)) ≡ request m s n
unfolding request
states_ask m s n sizes =
    most_cong m.states _ _ (λ q l. ap (λ b. cond b (best m (requested m) s n (eqb q)) 0) (sym (state_begins m q l)))
    ∙ best_states m (requested m) s n (may_begin m) m.states (closed_inside (sizes_closed m sizes))
