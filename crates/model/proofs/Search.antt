-- The search: what it finds is the first, and where it finds nothing there is nothing.
use Prim.Native.Nat.{ℕ, zero, suc, ◌+◌, ◌-◌, ◌≤◌, ◌<◌}
use mathlib.Core.Path.{◌≡◌, refl, sym, ap, ◌∙◌}
use mathlib.Core.Bool.{Bool, true, false, cond, true≢false}
use Rattle.std.specs.Prelude.{Option, None, Some}
use mathlib.Core.Logic.{◌⊎◌, inl, inr, ⊎_elim}
use native.Mathlib.Omega.{arith}
use native.Mathlib.Nat.{eq-or-lt_of_le}
use native.Mathlib.Decide.{dec_le}
use borrow.Author.Count.{below_more}
use Rattle.model.specs.Search.{first_of, smallest}
use Rattle.model.proofs.Tests.{true_or_false}

pub none_or_some : {A : Type 0} (o : Option A) → (o ≡ None) ⊎ ((a : A) × (o ≡ Some a))
none_or_some None = inl refl
none_or_some (Some a) = inr (a, refl)

pub some_none : {A : Type 0} {a : A} → Some a ≡ None → ⊥
some_none e = let z : ◌≡◌ {A = ℕ} 0 1 = cc in omega arith

module _ {A : Type 0} (answer : ℕ → Option A) where
  -- no number from low on and below high has an answer
  abbrev pub NoneBelow : ℕ → ℕ → Type 0
  NoneBelow low high = (k : ℕ) → low ≤ k → k < high → answer k ≡ None

  pub first_of_next : (low n : ℕ) → answer low ≡ None → first_of answer low (suc n) ≡ first_of answer (suc low) n
  unfolding first_of
  first_of_next low n e = rw (e, first_of)

  pub first_of_found : (low n : ℕ) {a : A} → answer low ≡ Some a → first_of answer low (suc n) ≡ Some a
  unfolding first_of
  first_of_found low n e = rw (e, first_of)

  none_below_next : (low high : ℕ) → answer low ≡ None → NoneBelow (suc low) high → NoneBelow low high
  none_below_next low high e h k a b = ⊎_elim (λ q. rw q at e) (λ l. h k l b) (eq-or-lt_of_le a)

  pub first_of_none : (low n : ℕ) → first_of answer low n ≡ None → NoneBelow low (low + n)
  first_of_none low zero e = λ k a b. absurd (omega arith)
  first_of_none low (suc n) e = elim (none_or_some (answer low)) [
    | inl z ↦ none_below_next low (low + suc n) z (λ k a b.
        first_of_none (suc low) n (sym (first_of_next low n z) ∙ e) k a (omega arith))
    | inr x ↦ absurd (some_none (sym (first_of_found low n x.1) ∙ e))
  ]

  pub first_of_some : (low n : ℕ) (a : A) → first_of answer low n ≡ Some a
      → (k : ℕ) × (low ≤ k) × (k < low + n) × (answer k ≡ Some a) × NoneBelow low k
  unfolding first_of
  first_of_some low zero a e = absurd (some_none (sym e))
  first_of_some low (suc n) a e = elim (none_or_some (answer low)) [
    | inl z ↦
        let (k, l, h, f, b) = first_of_some (suc low) n a (sym (first_of_next low n z) ∙ e) in
        (k, omega arith, omega arith, f, none_below_next low k z b)
    | inr x ↦
        let f : answer low ≡ Some a = x.1 ∙ sym (first_of_found low n x.1) ∙ e in
        (low, omega arith, omega arith, f, λ k c d. absurd (omega arith))
  ]

  pub first_of_absent : (low n : ℕ) → NoneBelow low (low + n) → first_of answer low n ≡ None
  first_of_absent low n h = elim (none_or_some (first_of answer low n)) [
    | inl z ↦ z
    | inr x ↦ let (k, l, u, f, b) = first_of_some low n x.0 x.1 in absurd (some_none (sym f ∙ h k l u))
  ]

pub first_none : {A : Type 0} (answer : ℕ → Option A) (n : ℕ) → first_of answer 0 n ≡ None
    → (k : ℕ) → k < n → answer k ≡ None
first_none answer n e k l = first_of_none answer 0 n e k (omega arith) (omega arith)

-- a loop over 0, 1 and so on that has come to k: none of the numbers before k has an answer
pub record Clear {A : Type 0} (answer : ℕ → Option A) (k : ℕ) : Type 0 where
  pub before : (j : ℕ) → j < k → answer j ≡ None

module _ {A : Type 0} {answer : ℕ → Option A} where
  pub clear_begin : Clear answer 0
  clear_begin = record { before = λ j l. absurd (omega arith) }

  pub clear_more : {k : ℕ} → Clear answer k → answer k ≡ None → Clear answer (k + 1)
  clear_more {k} h e = record { before = below_more (λ (j : ℕ). answer j ≡ None) k h.before e }

  pub clear_end : {k : ℕ} (n : ℕ) → Clear answer k → n ≤ k → first_of answer 0 n ≡ None
  clear_end n h l = first_of_absent answer 0 n (λ j a b. h.before j (omega arith))

  pub clear_found : {k : ℕ} (n : ℕ) {a : A} → Clear answer k → k < n → answer k ≡ Some a → first_of answer 0 n ≡ Some a
  clear_found {k} n h l e =
      elim (none_or_some (first_of answer 0 n)) [
        | inl z ↦ absurd (some_none (sym e ∙ first_of_none answer 0 n z k (omega arith) (omega arith)))
        | inr (x, f) ↦
            let (j, low, high, g, b) = first_of_some answer 0 n x f in
            elim (dec_le j k) [
              | yes p ↦
                  ⊎_elim (λ q. f ∙ sym g ∙ ap answer q ∙ e) (λ q. absurd (some_none (sym g ∙ h.before j q)))
                  (eq-or-lt_of_le p)
              | no p ↦ absurd (some_none (sym e ∙ b k (omega arith) (omega arith)))
            ]
      ]

-- c is the smallest number from low to high that passes the test
pub record Smallest (low high : ℕ) (test : ℕ → Bool) (c : ℕ) : Type 0 where
  pub least : low ≤ c
  pub most : c ≤ high
  pub passes : test c ≡ true
  pub earlier : (k : ℕ) → low ≤ k → k < c → test k ≡ false

module _ (test : ℕ → Bool) where
  abbrev picked : ℕ → Option ℕ
  picked k = cond (test k) (Some k) None

  picked_none : (k : ℕ) → picked k ≡ None → test k ≡ false
  picked_none k e = ⊎_elim (λ z. absurd (some_none (rw z at e))) (λ z. z) (true_or_false (test k))

  picked_some : (k c : ℕ) → picked k ≡ Some c → (test k ≡ true) × (k ≡ c)
  picked_some k c e =
      ⊎_elim
      (λ z. (z, let q : Some k ≡ Some c = rw z at e in cc))
      (λ z. absurd (some_none (sym (rw z at e))))
      (true_or_false (test k))

module _ (low high : ℕ) (test : ℕ → Bool) where
  pub smallest_none : smallest low high test ≡ None → (k : ℕ) → low ≤ k → k ≤ high → test k ≡ false
  smallest_none e k a b =
      picked_none test k (first_of_none (picked test) low (suc high - low) e k a (omega arith))

  pub smallest_some : (c : ℕ) → smallest low high test ≡ Some c → Smallest low high test c
  smallest_some c e =
      let (k, l, h, f, b) = first_of_some (picked test) low (suc high - low) c e in
      let (t, q) = picked_some test k c f in
      record {
        least = omega arith;
        most = omega arith;
        passes = rw q at t;
        earlier = λ j u v. picked_none test j (b j u (omega arith));
      }

  pub smallest_absent : ((k : ℕ) → low ≤ k → k ≤ high → test k ≡ false) → smallest low high test ≡ None
  smallest_absent h =
      first_of_absent (picked test) low (suc high - low) (λ k a b. rw (h k a (omega arith)) refl)

  -- where one number passes, one at most that is found
  pub smallest_below_lem : (k : ℕ) → low ≤ k → k ≤ high → test k ≡ true
      → (c : ℕ) × (smallest low high test ≡ Some c) × (c ≤ k)
  smallest_below_lem k a b e = elim (none_or_some (smallest low high test)) [
    | inl z ↦ absurd (true≢false (sym e ∙ smallest_none z k a b))
    | inr x ↦ (
      x.0,
      x.1,
      elim (dec_le x.0 k) [
        | yes l ↦ l
        | no l ↦ absurd (true≢false (sym e ∙ (smallest_some x.0 x.1).earlier k a (omega arith)))
      ],
    )
  ]

  -- one number of the range at a time
  pub smallest_found : low ≤ high → test low ≡ true → smallest low high test ≡ Some low
  smallest_found l e =
      ap (first_of (picked test) low) (omega arith) ∙ first_of_found (picked test) low (high - low) (rw e refl)

  pub smallest_next : low ≤ high → test low ≡ false → smallest low high test ≡ smallest (suc low) high test
  smallest_next l e =
      ap (first_of (picked test) low) (omega arith) ∙ first_of_next (picked test) low (suc high - suc low) (rw e refl)

  pub smallest_past : high < low → smallest low high test ≡ None
  smallest_past l = smallest_absent (λ k a b. absurd (omega arith))
