-- Tests: what a test that holds says, and when two tests say the same.
use Prim.Native.Nat.{ℕ, ◌≤◌}
use mathlib.Core.Path.{◌≡◌, refl, sym}
use mathlib.Core.Bool.{Bool, true, false, cond, ◌&&◌, false≢true}
use mathlib.Core.Logic.{◌⊎◌, inl, inr, ◌↔◌}
use lib.Dec.{leb}
use borrow.Author.Tests.{le-leb, leb-true}

pub true_or_false : (b : Bool) → (b ≡ true) ⊎ (b ≡ false)
true_or_false true = inl refl
true_or_false false = inr refl

pub both_true : (a b : Bool) → (a && b) ≡ true → (a ≡ true) × (b ≡ true)
both_true true b e = (refl, e)
both_true false b e = absurd (false≢true e)

-- a figure that counts only where a test holds is 0, or the test holds
pub cond_cases : (b : Bool) (v : ℕ) → (cond b v 0 ≡ 0) ⊎ ((b ≡ true) × (cond b v 0 ≡ v))
cond_cases true v = inr (refl, refl)
cond_cases false v = inl refl

pub cond_cong : (b : Bool) (v u : ℕ) → (b ≡ true → v ≡ u) → cond b v 0 ≡ cond b u 0
cond_cong true v u h = h refl
cond_cong false v u h = refl

-- two tests that hold of the same are the same
pub test_same : (a b : Bool) → ((a ≡ true) ↔ (b ≡ true)) → a ≡ b
test_same true b (f, g) = sym (f refl)
test_same false true (f, g) = g refl
test_same false false e = refl

pub leb_same : (a b c d : ℕ) → (a ≤ b ↔ c ≤ d) → leb a b ≡ leb c d
leb_same a b c d (f, g) =
    test_same (leb a b) (leb c d) (λ e. le-leb c d (f (leb-true a b e)), λ e. le-leb a b (g (leb-true c d e)))
