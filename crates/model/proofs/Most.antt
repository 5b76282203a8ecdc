-- The largest of the first n figures: it is above each, at most whatever is above each, and 0 or one of them.
use Prim.Native.Nat.{ℕ, zero, suc, ◌≤◌, ◌<◌, max}
use mathlib.Core.Path.{◌≡◌, refl, sym, ◌∙◌, ap, ap₂}
use mathlib.Core.Logic.{◌⊎◌, inl, inr, ⊎_elim}
use native.Mathlib.Omega.{arith}
use native.Mathlib.Decide.{dec_le}
use native.Mathlib.Nat.{eq-or-lt_of_le, le_of_suc-le-suc}
use Rattle.model.specs.Reckon.{most}

pub most_above : (n : ℕ) (f : ℕ → ℕ) (i : ℕ) → i < n → f i ≤ most n f
unfolding most
most_above zero f i h = omega arith
most_above (suc n) f i h =
    ⊎_elim (λ e. rw e (omega arith)) (λ l. omega (arith, most_above n f i l)) (eq-or-lt_of_le (le_of_suc-le-suc h))

pub most_below : (n : ℕ) (f : ℕ → ℕ) (v : ℕ) → ((i : ℕ) → i < n → f i ≤ v) → most n f ≤ v
unfolding most
most_below zero f v h = omega arith
most_below (suc n) f v h = omega (arith, h n (omega arith), most_below n f v (λ i l. h i (omega arith)))

pub most_at : (n : ℕ) (f : ℕ → ℕ) → (most n f ≡ 0) ⊎ ((i : ℕ) × (i < n) × (most n f ≡ f i))
unfolding most
most_at zero f = inl refl
most_at (suc n) f =
    elim (dec_le (f n) (most n f)) [
      | yes h ↦ ⊎_elim (λ z. inl (omega arith)) (λ (i, l, e). inr (i, omega arith, omega arith)) (most_at n f)
      | no h ↦ inr (n, omega arith, omega arith)
    ]

pub most_cong : (n : ℕ) (f g : ℕ → ℕ) → ((i : ℕ) → i < n → f i ≡ g i) → most n f ≡ most n g
unfolding most
most_cong zero f g h = refl
most_cong (suc n) f g h = ap₂ max (most_cong n f g (λ i l. h i (omega arith))) (h n (omega arith))

max_spread : (v a b : ℕ) → max v (max a b) ≡ max (max v a) (max v b)
max_spread v a b = omega arith

-- figures that differ only where v is above both
pub most_max : (n : ℕ) (v : ℕ) (f g : ℕ → ℕ) → ((i : ℕ) → i < n → max v (f i) ≡ max v (g i))
    → max v (most n f) ≡ max v (most n g)
unfolding most
most_max zero v f g h = refl
most_max (suc n) v f g h =
    max_spread v (most n f) (f n)
    ∙ ap₂ max (most_max n v f g (λ i l. h i (omega arith))) (h n (omega arith))
    ∙ sym (max_spread v (most n g) (g n))

max_swap : (a b c d : ℕ) → max (max a b) (max c d) ≡ max (max a c) (max b d)
max_swap a b c d = omega arith

pub most_both : (n : ℕ) (f g : ℕ → ℕ) → most n (λ i. max (f i) (g i)) ≡ max (most n f) (most n g)
unfolding most
most_both zero f g = refl
most_both (suc n) f g =
    ap (λ v. max v (max (f n) (g n))) (most_both n f g) ∙ max_swap (most n f) (most n g) (f n) (g n)
