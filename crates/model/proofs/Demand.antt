-- The demand bound from the front: where each deadline ends no later than the machine's next instant, only what is
-- triggered at the last instant of a window can be undue, and one row of request figures tells the demand.
use Prim.Native.Nat.{ℕ, zero, suc, ◌+◌, ◌-◌, ◌≤◌, ◌<◌, max}
use mathlib.Core.Path.{◌≡◌, refl, sym, ◌∙◌, ap, ap₂, fun_ext}
use mathlib.Core.Bool.{Bool, true, false, cond, ◌&&◌}
use mathlib.Core.List.{List}
use mathlib.Core.Logic.{◌⊎◌, inl, inr, ⊎_elim}
use native.Mathlib.Omega.{arith}
use native.Mathlib.Nat.{le_antisymm, eq-or-lt_of_le, max-le}
use lib.Dec.{leb}
use borrow.Author.Tests.{eq-eqb}
use Rattle.model.specs.declared.Way.TheVariants.{On}
use Rattle.model.specs.Machine.{Machine, count, action_of}
use Rattle.model.specs.Legal.{Pair, requested, demanded}
use Rattle.model.specs.Reckon.{is_instant, may_begin, most, pair, demand}
use Rattle.model.specs.Inside.{Closed, Separate, may_trigger, leads_into, brings, ends}
use Rattle.model.specs.Inside.{figure, IsRow, LastInstant, due_then}
use Rattle.model.proofs.Tests.{both_true, cond_cases, cond_cong}
use Rattle.model.proofs.Most.{most_above, most_below, most_cong, most_max}
use Rattle.model.proofs.Names.{is_instant_law, closed_inside, closed_onward}
use Rattle.model.proofs.Bounds.{asked_by_late, asked_by_due}
use Rattle.model.proofs.Ends.{brings_cases, moved_cong, ends_best}

-- weights that agree at the instants of [s, s + n) give the same figures
ends_cong : (m : Machine) (w v : Pair → ℕ) (s n : ℕ)
    → ((k u : ℕ) → k < count m → u < n → is_instant m k (s + u) ≡ true → w (pair k (s + u)) ≡ v (pair k (s + u)))
    → (q : ℕ) → ends m w s n q ≡ ends m v s n q
unfolding ends
ends_cong m w v s zero h q = refl
ends_cong m w v s (suc n) h q =
    let same : (q : ℕ) → ends m w s n q ≡ ends m v s n q = ends_cong m w v s n (λ k u l b. h k u l (omega arith)) in
    moved_cong m w v (s + n) (ends m w s n) (ends m v s n) (λ k l i. h k n l (omega arith) i) (λ p b. same p) q (same q)

-- what action k brings at t, whatever its sink
abbrev pushes : Machine → (Pair → ℕ) → ℕ → (ℕ → ℕ) → ℕ → ℕ
pushes m w t row k = cond (may_trigger m t k) (row (action_of m k).source + w (pair k t)) 0

pushes_cases : (m : Machine) (w : Pair → ℕ) (t : ℕ) (row : ℕ → ℕ) (k : ℕ)
    → (pushes m w t row k ≡ 0)
    ⊎ ((may_begin m (action_of m k).source ≡ true)
    × (may_trigger m t k ≡ true)
    × (pushes m w t row k ≡ row (action_of m k).source + w (pair k t)))
pushes_cases m w t row k =
    ⊎_elim (λ z. inl z) (λ (o, g). inr ((both_true _ _ o).0, o, g))
    (cond_cases (may_trigger m t k) (row (action_of m k).source + w (pair k t)))

module _ (m : Machine) (w : Pair → ℕ) (c : Closed m) (s : ℕ) where
  -- the largest figure
  abbrev top : ℕ → ℕ
  top n = most m.states (ends m w s n)

  -- what a tick makes of it
  top_moved : (n : ℕ) → top (suc n) ≡ max (top n) (most (count m) (pushes m w (s + n) (ends m w s n)))
  unfolding ends
  top_moved n =
      le_antisymm
      (most_below m.states _ _ (λ q l.
      omega (
        arith,
        most_above m.states (ends m w s n) q l,
        most_below (count m) (brings On m w (s + n) (ends m w s n) q)
            (most (count m) (pushes m w (s + n) (ends m w s n))) (λ k b.
            ⊎_elim (λ z. omega arith)
            (λ (o, j, g). omega (arith, rw o at (most_above (count m) (pushes m w (s + n) (ends m w s n)) k b)))
            (brings_cases On m w (s + n) (ends m w s n) q k)),
      )))
      (max-le
      (most_below m.states (ends m w s n) _ (λ q l. omega (arith, most_above m.states (ends m w s (suc n)) q l)))
      (most_below (count m) (pushes m w (s + n) (ends m w s n)) _ (λ k l.
      ⊎_elim (λ z. omega arith)
      (λ (x, y, g).
      let q = (action_of m k).sink in
      let v : leads_into On m (s + n) q k ≡ true = rw (y, eq-eqb q _ refl) refl in
      omega (
        arith,
        rw v at (most_above (count m) (brings On m w (s + n) (ends m w s n) q) k l),
        most_above m.states (ends m w s (suc n)) q (closed_inside c q (closed_onward c k l x)),
      ))
      (pushes_cases m w (s + n) (ends m w s n) k))))

  -- ticks at which nothing that may be triggered weighs anything leave it as it is
  top_idle : (k j n : ℕ) → k + j ≡ n
      → ((i u : ℕ) → i < count m → k ≤ u → u < n → may_trigger m (s + u) i ≡ true → w (pair i (s + u)) ≡ 0)
      → top n ≡ top k
  top_idle k zero n e h = ap top (omega arith)
  top_idle k (suc j) n e h =
      let u : ℕ = k + j in
      omega (
        arith,
        ap top (let z : n ≡ suc u = omega arith in z),
        top_moved u,
        top_idle k j u refl (λ i v l a b. h i v l a (omega arith)),
        most_below (count m) (pushes m w (s + u) (ends m w s u)) (top u) (λ i l.
            ⊎_elim (λ z. omega arith)
            (λ (x, y, g).
            omega (
              arith,
              h i u l (omega arith) (omega arith) y,
              most_above m.states (ends m w s u) (action_of m i).source (closed_inside c _ x),
            ))
            (pushes_cases m w (s + u) (ends m w s u) i)),
      )

-- beside the largest figure an action that is not due counts for nothing
late_idle : (taken due : Bool) (v u top : ℕ) → (taken ≡ true → v ≤ top)
    → max top (cond taken (v + cond due u 0) 0) ≡ max top (cond (taken && due) (v + u) 0)
late_idle true true v u top h = refl
late_idle true false v u top h = omega (arith, h refl)
late_idle false due v u top h = refl

pushes_due : (m : Machine) → Closed m → (t end : ℕ) (row : ℕ → ℕ) (k : ℕ)
    → max (most m.states row) (pushes m (demanded m end) t row k)
    ≡ max (most m.states row) (due_then m t end row k)
pushes_due m c t end row k =
    let q = (action_of m k).source in
    late_idle (may_trigger m t k) (leb (t + (action_of m k).deadline) end) (row q) (requested m (pair k t)) _
    (λ o. most_above m.states row q (closed_inside c q (both_true (may_begin m q) _ o).0))

module _ (m : Machine) (c : Closed m) (apart : Separate m) where
  module _ (s n k : ℕ) (last : LastInstant m s n k) where
    -- all that is triggered before the last instant is due by the end, and nothing that is triggered after it
    due_before : (i u : ℕ) → i < count m → u < k → is_instant m i (s + u) ≡ true
        → demanded m (s + n) (pair i (s + u)) ≡ requested m (pair i (s + u))
    due_before i u l b y =
        asked_by_due m (s + n) (pair i (s + u))
        (⊎_elim (λ z. absurd (omega arith))
        (λ (j, d, z).
        let there = (is_instant_law m j (s + k)).0 (both_true (may_begin m (action_of m j).source) _ z).1 in
        let here = (is_instant_law m i (s + u)).0 y in
        omega (arith, last.early, apart.gap i j (s + u) (s + k) l d here there (omega arith)))
        last.some)

    due_after : (i u : ℕ) → i < count m → k < u → u ≤ n → may_trigger m (s + u) i ≡ true
        → demanded m (s + n) (pair i (s + u)) ≡ 0
    due_after i u l a b y =
        ⊎_elim (λ e. asked_by_late m (s + n) (pair i (s + u)) (omega (arith, apart.positive i l)))
        (λ d. absurd (last.none i u l a d y)) (eq-or-lt_of_le b)

  -- the demand bound from the figures at the last instant
  demand_ends : (s n k : ℕ) → LastInstant m s n k → let row = ends m (requested m) s k in
      demand m s n ≡ max (most m.states row) (most (count m) (due_then m (s + k) (s + n) row))
  unfolding demand
  demand_ends s n k last =
      sym (ends_best m w c s (suc n))
      ∙ top_idle m w c s (suc k) (n - k) (suc n) (omega (arith, last.early))
      (λ i u l a b. due_after s n k last i u l a (omega arith))
      ∙ top_moved m w c s k
      ∙ ap (λ row. max (most m.states row) (most (count m) (pushes m w (s + k) row)))
      (fun_ext (ends_cong m w (requested m) s k (due_before s n k last)))
      ∙ most_max (count m) _ _ _ (λ i l. pushes_due m c (s + k) (s + n) (ends m (requested m) s k) i)
    where
      w : Pair → ℕ
      w = demanded m (s + n)

  -- the same of a row in memory
  pub demand_front : (s n k : ℕ) (row : List ℕ) → LastInstant m s n k → IsRow m (requested m) s k row
      → demand m s n ≡ max (most m.states (figure row)) (most (count m) (due_then m (s + k) (s + n) (figure row)))
  demand_front s n k row last h =
      demand_ends s n k last
      ∙ sym
      (ap₂ max (most_cong m.states _ _ h.at)
      (most_cong (count m) _ _ (λ i l.
      cond_cong (may_trigger m (s + k) i && leb (s + k + (action_of m i).deadline) (s + n)) _ _ (λ e.
      let (o, d) = both_true (may_trigger m (s + k) i) _ e in
      let (b, x) = both_true (may_begin m (action_of m i).source) _ o in
      ap (λ v. v + requested m (pair i (s + k))) (h.at (action_of m i).source (closed_inside c _ b))))))

-- the last instant, as a loop over the lengths keeps it
pub last_start : (m : Machine) (s : ℕ) → LastInstant m s 0 0
last_start m s = record { early = omega arith; some = inl refl; none = λ j u l a b. absurd (omega arith) }

pub last_here : (m : Machine) (s n j : ℕ) → j < count m → may_trigger m (s + n) j ≡ true → LastInstant m s (n + 1) n
last_here m s n j l i =
    record { early = omega arith; some = inr (j, l, i); none = λ j u l a b. absurd (omega arith) }

pub last_stays : (m : Machine) (s n k : ℕ) → LastInstant m s n k
    → ((j : ℕ) → j < count m → may_trigger m (s + n) j ≡ true → ⊥)
    → LastInstant m s (n + 1) k
last_stays m s n k h quiet =
    record {
      early = omega (arith, h.early);
      some = h.some;
      none = λ j u l a b i.
          ⊎_elim (λ e. quiet j l (rw e at i)) (λ d. h.none j u l a d i)
          (eq-or-lt_of_le (let z : u ≤ n = omega arith in z));
    }
