-- The smallest number that passes a test: what it is to be that number, and that there is no second.
use Prim.Native.Nat.{ℕ, ◌<◌}
use mathlib.Core.Path.{◌≡◌, refl, sym, ◌∙◌, ap}
use mathlib.Core.Bool.{Bool, true, false, cond, false≢true}
use Rattle.std.specs.Prelude.{Option, None, Some}
use native.Mathlib.Omega.{arith}
use native.Mathlib.Decide.{dec_lt}
use Rattle.model.specs.Search.{smallest_below}
use Rattle.model.proofs.Search.{some_none, first_of_none, first_of_some}

-- what `smallest_below` tells
abbrev pub Smallest : ℕ → (ℕ → Bool) → Option ℕ → Type 0
Smallest n f None = (j : ℕ) → j < n → f j ≡ false
Smallest n f (Some i) = (i < n) × (f i ≡ true) × ((j : ℕ) → j < i → f j ≡ false)

pub smallest_is : (n : ℕ) (f : ℕ → Bool) → Smallest n f (smallest_below n f)
unfolding smallest_below
smallest_is n f = tells (smallest_below n f) refl
  where
    answer : ℕ → Option ℕ
    answer k = cond (f k) (Some k) None

    passed : (k : ℕ) (b : Bool) → f k ≡ b → {i : ℕ} → cond b (Some k) None ≡ Some i → (k ≡ i) × (f k ≡ true)
    passed k true e q = (cc, e)
    passed k false e q = absurd (some_none (sym q))

    failed : (k : ℕ) (b : Bool) → f k ≡ b → cond b (Some k) None ≡ None → f k ≡ false
    failed k true e q = absurd (some_none q)
    failed k false e q = e

    tells : (o : Option ℕ) → smallest_below n f ≡ o → Smallest n f o
    tells None e = λ j l. failed j (f j) refl (first_of_none answer 0 n e j (omega arith) (omega arith))
    tells (Some i) e =
        let (k, low, high, found, before) = first_of_some answer 0 n i e in
        let (same, pass) = passed k (f k) refl found in
        (omega arith, ap f (sym same) ∙ pass, λ j l. failed j (f j) refl (before j (omega arith) (omega arith)))

-- and nothing else is the smallest
pub smallest_unique : (n : ℕ) (f : ℕ → Bool) (o r : Option ℕ) → Smallest n f o → Smallest n f r → o ≡ r
smallest_unique n f None None a b = refl
smallest_unique n f None (Some j) a b = absurd (false≢true (sym (a j b.0) ∙ b.1))
smallest_unique n f (Some i) None a b = absurd (false≢true (sym (b i a.0) ∙ a.1))
smallest_unique n f (Some i) (Some j) a b =
    elim (dec_lt i j) [
      | yes l ↦ absurd (false≢true (sym (b.2 i l) ∙ a.1))
      | no l ↦
          elim (dec_lt j i) [
            | yes h ↦ absurd (false≢true (sym (a.2 j h) ∙ b.1))
            | no h ↦ ap Some (omega arith)
          ]
    ]
