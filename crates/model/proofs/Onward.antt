-- Legal sequences in the form in which the reckoning takes them: from a state of a set, from a tick on.
use Prim.Native.Nat.{ℕ, suc, ◌≤◌, ◌<◌}
use mathlib.Core.Path.{◌≡◌, refl}
use mathlib.Core.Bool.{Bool, true}
use mathlib.Core.List.{List, [], ◌∷◌}
use native.Mathlib.Omega.{arith}
use lib.Dec.{eqb}
use borrow.Author.Tests.{eq-eqb, eqb-true}
use Rattle.model.specs.Machine.{Machine, count, action_of}
use Rattle.model.specs.Legal.{Pair, Chain, Legal, Each}
use Rattle.model.specs.Reckon.{may_begin, is_open, after}
use Rattle.model.proofs.Tests.{both_true}
use Rattle.model.proofs.Names.{is_instant_law, may_begin_law}

-- σ leaves a state of `from` at t or later, and each of its pairs is `ok`
abbrev pub Onward : Machine → (Pair → Type 0) → (ℕ → Bool) → ℕ → List Pair → Type 0
Onward m ok from t [] = Unit
Onward m ok from t (p ∷ σ) =
    (p.action < count m)
    × (is_open m from p ≡ true)
    × (t ≤ p.instant)
    × ok p
    × Onward m ok (after m p.action) (suc p.instant) σ

module _ (m : Machine) (ok : Pair → Type 0) where
  -- what leaves later may be taken for what leaves earlier
  pub onward_sooner : (from : ℕ → Bool) (t : ℕ) (σ : List Pair) → Onward m ok from (suc t) σ → Onward m ok from t σ
  onward_sooner from t [] h = tt
  onward_sooner from t (p ∷ σ) (i, o, a, k, r) = (i, o, omega arith, k, r)

  -- what leaves a state of a set leaves the set, and what leaves a set leaves the source of its first pair
  pub onward_wider : (from : ℕ → Bool) (q t : ℕ) (σ : List Pair) → from q ≡ true → Onward m ok (eqb q) t σ
      → Onward m ok from t σ
  onward_wider from q t [] h r = tt
  onward_wider from q t (p ∷ σ) h (i, o, a, k, r) =
      let (x, y) = both_true _ _ o in (i, rw (← (eqb-true q _ x), h, y) refl, a, k, r)

  pub onward_source : (from : ℕ → Bool) (t : ℕ) (p : Pair) (σ : List Pair) → Onward m ok from t (p ∷ σ)
      → Onward m ok (eqb (action_of m p.action).source) t (p ∷ σ)
  onward_source from t p σ (i, o, a, k, r) =
      let q = (action_of m p.action).source in
      let (x, y) = both_true (from q) _ o in (i, rw (eq-eqb q q refl, y) refl, a, k, r)

  chain_onward : (from : ℕ → Bool) (t : ℕ) (p : Pair) (σ : List Pair) → from (action_of m p.action).source ≡ true
      → t ≤ p.instant → Chain m p σ → Each ok (p ∷ σ) → Onward m ok from t (p ∷ σ)
  chain_onward from t p [] e l (i, a) (k, ks) = (i, rw (e, (is_instant_law _ _ _).1 a) refl, l, k, tt)
  chain_onward from t p (r ∷ σ) e l ((i, a), j, b, c) (k, ks) = (
    i,
    rw (e, (is_instant_law _ _ _).1 a) refl,
    l,
    k,
    chain_onward (after m p.action) (suc p.instant) r σ (eq-eqb _ _ j) b c ks,
  )

  onward_chain : (from : ℕ → Bool) (t : ℕ) (p : Pair) (σ : List Pair) → Onward m ok from t (p ∷ σ)
      → (from (action_of m p.action).source ≡ true) × Chain m p σ × Each ok (p ∷ σ) × (t ≤ p.instant)
  onward_chain from t p [] (i, o, l, k, r) =
      let (e, a) = both_true _ _ o in (e, (i, (is_instant_law _ _ _).0 a), (k, tt), l)
  onward_chain from t p (q ∷ σ) (i, o, l, k, r) =
      let (e, a) = both_true _ _ o in
      let (j, c, ks, b) = onward_chain (after m p.action) (suc p.instant) q σ r in
      (e, ((i, (is_instant_law _ _ _).0 a), eqb-true _ _ j, b, c), (k, ks), l)

  -- a legal sequence from s on leaves a state that a first pair may leave; and the other way round
  pub legal_onward : (s : ℕ) → ((p : Pair) → ok p → s ≤ p.instant) → (σ : List Pair) → Legal m σ → Each ok σ
      → Onward m ok (may_begin m) s σ
  legal_onward s from [] h k = tt
  legal_onward s from (p ∷ σ) (a, c) k = chain_onward (may_begin m) s p σ ((may_begin_law m _).1 a) (from p k.0) c k

  pub onward_legal : (s : ℕ) (σ : List Pair) → Onward m ok (may_begin m) s σ → Legal m σ × Each ok σ
  onward_legal s [] h = (tt, tt)
  onward_legal s (p ∷ σ) h =
      let (e, c, k, l) = onward_chain (may_begin m) s p σ h in (((may_begin_law m _).0 e, c), k)
