-- The binary digits of a mask, and a loop that puts them on one by one.
use Prim.Native.Nat.{ℕ, zero, suc, ◌+◌, ◌-◌, ◌*◌, ◌/◌, ◌^◌, ◌≤◌, ◌<◌}
use mathlib.Core.Path.{◌≡◌, refl, sym, ◌∙◌, ap, ap₂}
use mathlib.Core.Bool.{Bool, true, false}
use mathlib.Core.Logic.{⊎_elim}
use native.Mathlib.Omega.{arith}
use native.Mathlib.Nat.{pow-suc}
use lib.Pow.{pow_mono}
use Rattle.std.specs.Int.{bit_at}
use Rattle.std.proofs.lemmas.Nat.Bits.{bit_at-zero, bit_at_lowest, bit_at-suc}
use Rattle.model.proofs.Tests.{true_or_false}
use Rattle.walk.specs.Inside.{bit, binary}

pub bit_limit : (b : Bool) → bit b < 2
unfolding bit
bit_limit true = omega arith
bit_limit false = omega arith

pub bit_true : (b : Bool) → bit b ≡ 1 → b ≡ true
unfolding bit
bit_true true e = refl
bit_true false e = absurd (omega arith)

pub bit_false : (b : Bool) → bit b ≡ 0 → b ≡ false
unfolding bit
bit_false true e = absurd (omega arith)
bit_false false e = refl

module _ (f : ℕ → Bool) where
  pub binary_limit : (j n : ℕ) → binary f j n < 2 ^ n
  unfolding binary
  binary_limit j zero = omega arith
  binary_limit j (suc n) =
      omega (arith, bit_limit (f j), binary_limit (suc j) n, pow-suc 2 n)

  -- its digits are the tests
  pub binary_digit : (j n i : ℕ) → i < n → bit_at (binary f j n) i ≡ bit (f (j + i))
  unfolding binary
  binary_digit j zero i l = absurd (omega arith)
  binary_digit j (suc n) zero l =
      let e : j + 0 ≡ j = omega arith in
      bit_at_lowest (binary f j (suc n)) ∙ rw e (omega (arith, bit_limit (f j)))
  binary_digit j (suc n) (suc i) l =
      let half : binary f j (suc n) / 2 ≡ binary f (suc j) n = omega (arith, bit_limit (f j)) in
      let e : j + suc i ≡ suc j + i = omega arith in
      bit_at-suc (binary f j (suc n)) i
      ∙ ap (λ x. bit_at x i) half
      ∙ rw e (binary_digit (suc j) n i (omega arith))

  -- where it is 0, none of them holds
  pub binary_zero : (j n k : ℕ) → binary f j n ≡ 0 → j ≤ k → k < j + n → f k ≡ false
  binary_zero j n k e a b =
      let here : j + (k - j) ≡ k = omega arith in
      let digit : bit_at (binary f j n) (k - j) ≡ bit (f k) = rw here at (binary_digit j n (k - j) (omega arith)) in
      bit_false (f k) (sym digit ∙ rw e (bit_at-zero (k - j)))

  pub binary_cong : (g : ℕ → Bool) (j n : ℕ) → ((k : ℕ) → k < j + n → f k ≡ g k) → binary f j n ≡ binary g j n
  unfolding binary
  binary_cong g j zero h = refl
  binary_cong g j (suc n) h =
      ap₂ (λ a b. bit a + 2 * b) (h j (omega arith)) (binary_cong g (suc j) n (λ k l. h k (omega arith)))

  pub binary_none : (j n : ℕ) → ((k : ℕ) → k < j + n → f k ≡ false) → binary f j n ≡ 0
  unfolding binary bit
  binary_none j zero h = refl
  binary_none j (suc n) h =
      rw (h j (omega arith)) (omega (arith, binary_none (suc j) n (λ k l. h k (omega arith))))

  pub binary_some : (j n : ℕ) → (binary f j n ≡ 0 → ⊥) → (k : ℕ) × (k < j + n) × (f k ≡ true)
  unfolding binary bit
  binary_some j zero h = absurd (h refl)
  binary_some j (suc n) h =
      ⊎_elim (λ e. (j, omega arith, e))
      (λ e. let (k, l, g) = binary_some (suc j) n (λ z. h (omega (arith, ap bit e))) in (k, omega arith, g))
      (true_or_false (f j))

-- the digits from j to n - 1 are `left`
pub record Left (f : ℕ → Bool) (n j left : ℕ) : Type 0 where
  pub early : j ≤ n
  pub is : left ≡ binary f j (n - j)

module _ {f : ℕ → Bool} {n : ℕ} where
  -- there is room for one more of 32
  pub left_room : {j left : ℕ} → n ≤ 32 → 0 < j → Left f n j left → left < 2 ^ 31
  left_room {j} {left} few p h =
      omega (arith, h.is, binary_limit f j (n - j), pow_mono (let z : n - j ≤ 31 = omega arith in z))

  -- none, and one more on
  pub left_end : Left f n n 0
  unfolding binary
  left_end = record { early = omega arith; is = rw (let z : n - n ≡ 0 = omega arith in z) refl }

  pub left_back : {j left : ℕ} (d : ℕ) → Left f n j left → 0 < j → d ≡ bit (f (j - 1)) → Left f n (j - 1) (2 * left + d)
  unfolding binary
  left_back {j} {left} d h p e =
      let one : n - (j - 1) ≡ suc (n - j) = omega (arith, h.early) in
      let next : suc (j - 1) ≡ j = omega arith in
      record { early = omega (arith, h.early); is = rw (one, next) (omega (arith, h.is)) }

  pub left_whole : {j left : ℕ} → Left f n j left → j ≤ 0 → left ≡ binary f 0 n
  left_whole {j} {left} h l =
      let whole : n - 0 ≡ n = omega arith in
      rw (let z : j ≡ 0 = omega arith in z, whole) at h.is
