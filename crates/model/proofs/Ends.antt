-- The bounds from the front: the most that ends in any state is the bound.
use Prim.Native.Nat.{ℕ, zero, suc, ◌+◌, ◌*◌, ◌≤◌, ◌<◌, max}
use mathlib.Core.Path.{◌≡◌, refl, sym, ◌∙◌, ap, ap₂, subst}
use mathlib.Core.Bool.{true, false, false≢true}
use mathlib.Core.List.{List, [], ◌∷◌}
use mathlib.Core.Logic.{◌⊎◌, inl, inr, ⊎_elim}
use native.Mathlib.Omega.{arith}
use native.Mathlib.Decide.{dec_le}
use native.Mathlib.Nat.{le_antisymm, eq-or-lt_of_le, suc-mul, add-zero}
use lib.Dec.{eqb}
use borrow.Author.Tests.{eq-eqb, eqb-true}
use Rattle.model.specs.declared.Way.{Way}
use Rattle.model.specs.declared.Way.TheVariants.{On}
use Rattle.model.specs.Machine.{Machine, count, action_of}
use Rattle.model.specs.Legal.{Pair, total}
use Rattle.model.specs.Reckon.{is_instant, may_begin, most, pair, is_open, after, best}
use Rattle.model.specs.Inside.{Closed, may_trigger, behind, ahead, leads_into, brings, moved, ends}
use Rattle.model.proofs.Tests.{true_or_false, both_true, cond_cases, cond_cong}
use Rattle.model.proofs.Most.{most_above, most_below, most_at, most_cong}
use Rattle.model.proofs.Names.{closed_inside, closed_onward}
use Rattle.model.proofs.Onward.{Onward, onward_sooner, onward_wider, onward_source}
use Rattle.model.proofs.Best.{onward_idle, best_upper, best_lower}

pub brings_cases : (way : Way) (m : Machine) (w : Pair → ℕ) (t : ℕ) (row : ℕ → ℕ) (q k : ℕ)
    → (brings way m w t row q k ≡ 0)
    ⊎ ((may_trigger m t k ≡ true)
    × (ahead way (action_of m k) ≡ q)
    × (brings way m w t row q k ≡ row (behind way (action_of m k)) + w (pair k t)))
brings_cases way m w t row q k =
    ⊎_elim (λ z. inl z) (λ (o, g). let (a, b) = both_true _ _ o in inr (a, eqb-true _ _ b, g))
    (cond_cases (leads_into way m t q k) (row (behind way (action_of m k)) + w (pair k t)))

-- a step depends only on the figures of states and on the weights at the tick
pub moved_cong : (m : Machine) (w v : Pair → ℕ) (t : ℕ) (row col : ℕ → ℕ)
    → ((k : ℕ) → k < count m → is_instant m k t ≡ true → w (pair k t) ≡ v (pair k t))
    → ((q : ℕ) → may_begin m q ≡ true → row q ≡ col q)
    → (q : ℕ) → row q ≡ col q → moved On m w t row q ≡ moved On m v t col q
moved_cong m w v t row col h g q e =
    ap₂ max e
    (most_cong (count m) _ _ (λ k l.
    cond_cong (leads_into On m t q k) _ _ (λ z.
    let (o, x) = both_true (is_open m (may_begin m) (pair k t)) _ z in
    let (b, i) = both_true (may_begin m (action_of m k).source) _ o in
    ap₂ ◌+◌ (g (action_of m k).source b) (h k l i))))

module _ (m : Machine) (ok : Pair → Type 0) (w : Pair → ℕ) (s : ℕ) where
  -- what ends in q before a tick, with a sequence that goes on from there, is no more than the whole
  ends_covers : Closed m → (f : ℕ) → ((p : Pair) → ok p → s + f ≤ p.instant → w p ≡ 0) → (j n q : ℕ) (σ : List Pair)
      → j + n ≡ f → may_begin m q ≡ true → Onward m ok (eqb q) (s + j) σ
      → ends m w s j q + total w σ ≤ most m.states (ends m w s f)
  unfolding ends
  ends_covers c f idle j zero q σ e h r =
      omega (
        arith,
        onward_idle m ok w (s + f) (λ p i. idle p) (eqb q) (s + j) σ (omega arith) r,
        ap (λ x. ends m w s x q) (let z : j ≡ f = omega arith in z),
        most_above m.states (ends m w s f) q (closed_inside c q h),
      )
  ends_covers c f idle j (suc n) q [] e h r = omega (arith, ends_covers c f idle (suc j) n q [] (omega arith) h tt)
  ends_covers c f idle j (suc n) q (p ∷ σ) e h (i, o, a, b, r) =
      ⊎_elim
      (λ z.
      let k = p.action in
      let (x, y) = both_true _ _ o in
      let j' : q ≡ (action_of m k).source = eqb-true _ _ x in
      let u : may_begin m (action_of m k).source ≡ true = rw (← j') h in
      let y' : is_instant m k (s + j) ≡ true = rw z y in
      let v : leads_into On m (s + j) (action_of m k).sink k ≡ true =
      rw (u, y', eq-eqb (action_of m k).sink _ refl) refl in
      omega (
        arith,
        ap (ends m w s j) j',
        ap (λ t. w (pair k t)) z,
        rw v at (most_above (count m) (brings On m w (s + j) (ends m w s j) (action_of m k).sink) k i),
        ends_covers c f idle (suc j) n (action_of m k).sink σ (omega arith) (closed_onward c k i u)
            (subst (λ (t : ℕ). Onward m ok (after m k) t σ) (omega arith) r),
      ))
      (λ l. omega (arith, ends_covers c f idle (suc j) n q (p ∷ σ) (omega arith) h (i, o, omega arith, b, r)))
      (eq-or-lt_of_le a)

  -- a sequence that goes on from q is the end of one that has q's figure besides
  ends_reached : (f : ℕ) → ((p : Pair) → s ≤ p.instant → p.instant < s + f → ok p) → (n q : ℕ) (τ : List Pair) → n ≤ f
      → may_begin m q ≡ true → Onward m ok (eqb q) (s + n) τ
      → (σ : List Pair) × Onward m ok (may_begin m) s σ × (total w σ ≡ ends m w s n q + total w τ)
  unfolding ends
  ends_reached f fits zero q τ l h r =
      let r' : Onward m ok (eqb q) s τ = subst (λ (t : ℕ). Onward m ok (eqb q) t τ) (omega arith) r in
      (τ, onward_wider m ok (may_begin m) q s τ h r', omega arith)
  ends_reached f fits (suc n) q τ l h r =
      let r' : Onward m ok (eqb q) (suc (s + n)) τ = subst (λ (t : ℕ). Onward m ok (eqb q) t τ) (omega arith) r in
      elim (dec_le (most (count m) (brings On m w (s + n) (ends m w s n) q)) (ends m w s n q)) [
        | yes d ↦ (let sooner = onward_sooner m ok (eqb q) (s + n) τ r' in
            let (σ, x, e) = ends_reached f fits n q τ (omega arith) h sooner in
            (σ, x, omega arith))
        | no d ↦
            ⊎_elim (λ z. absurd (omega arith))
            (λ (k, a, e).
            ⊎_elim (λ z. absurd (omega arith))
            (λ (o, j, g).
            let (u, y) = both_true _ _ o in
            let (σ, x, b) =
            ends_reached f fits n (action_of m k).source (pair k (s + n) ∷ τ) (omega arith) u (
              a,
              rw (eq-eqb (action_of m k).source _ refl, y) refl,
              omega arith,
              fits (pair k (s + n)) (omega arith) (omega arith),
              rw j r',
            ) in
            (σ, x, omega arith))
            (brings_cases On m w (s + n) (ends m w s n) q k))
            (most_at (count m) (brings On m w (s + n) (ends m w s n) q))
      ]

-- nothing ends in a state in which no sequence may begin
ends_none : (m : Machine) (w : Pair → ℕ) → Closed m → (s n q : ℕ) → may_begin m q ≡ false → ends m w s n q ≡ 0
unfolding ends
ends_none m w c s zero q h = refl
ends_none m w c s (suc n) q h =
    omega (
      arith,
      ends_none m w c s n q h,
      most_below (count m) (brings On m w (s + n) (ends m w s n) q) 0 (λ k l.
          ⊎_elim (λ z. omega arith)
          (λ (o, j, g).
          absurd (false≢true (sym h ∙ ap (may_begin m) (sym j) ∙ closed_onward c k l (both_true _ _ o).0)))
          (brings_cases On m w (s + n) (ends m w s n) q k)),
    )

-- the front and the back come to the same
pub ends_best : (m : Machine) (w : Pair → ℕ) → Closed m → (s n : ℕ)
    → most m.states (ends m w s n) ≡ best m w s n (may_begin m)
ends_best m w c s n = le_antisymm above below
  where
    ok : Pair → Type 0
    ok p = p.instant < s + n

    above : most m.states (ends m w s n) ≤ best m w s n (may_begin m)
    above =
        most_below m.states (ends m w s n) (best m w s n (may_begin m)) (λ q l.
        ⊎_elim
        (λ h. let (σ, r, e) = ends_reached m ok w s n (λ p a b. b) n q [] (omega arith) h tt in
        omega (arith, best_upper m ok w (s + n) (λ p i a b. absurd (omega arith)) s n (may_begin m) σ (omega arith) r))
        (λ h. omega (arith, ends_none m w c s n q h))
        (true_or_false (may_begin m q)))

    covered : (σ : List Pair) → Onward m ok (may_begin m) s σ → total w σ ≤ most m.states (ends m w s n)
    covered [] r = omega arith
    covered (p ∷ σ) r =
        let q = (action_of m p.action).source in
        let goes : Onward m ok (eqb q) (s + 0) (p ∷ σ) = rw add-zero (onward_source m ok (may_begin m) s p σ r) in
        omega (
          arith,
          ends_covers m ok w s c n (λ p a b. absurd (omega arith)) 0 n q (p ∷ σ) (omega arith)
              (both_true (may_begin m q) _ r.1).0 goes,
        )

    below : best m w s n (may_begin m) ≤ most m.states (ends m w s n)
    below =
        let (σ, r, e) = best_lower m ok w s (s + n) (λ p a b. b) s n (may_begin m) (omega arith) (omega arith) in
        omega (arith, covered σ r)

-- at most c for each tick, where no action weighs more than c
pub ends_limit : (m : Machine) (w : Pair → ℕ) (c : ℕ) → ((p : Pair) → p.action < count m → w p ≤ c) → (s n q : ℕ)
    → ends m w s n q ≤ n * c
unfolding ends
ends_limit m w c h s zero q = omega arith
ends_limit m w c h s (suc n) q =
    omega (
      arith,
      ends_limit m w c h s n q,
      suc-mul n c,
      most_below (count m) (brings On m w (s + n) (ends m w s n) q) (n * c + c) (λ k l.
          ⊎_elim (λ z. omega arith)
          (λ (o, j, g). omega (arith, h (pair k (s + n)) l, ends_limit m w c h s n (action_of m k).source))
          (brings_cases On m w (s + n) (ends m w s n) q k)),
    )
