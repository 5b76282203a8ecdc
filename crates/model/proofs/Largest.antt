-- The largest total of some sequences: there is one such number, and it grows with the sequences and with the weights.
use Prim.Native.Nat.{ℕ, ◌≤◌}
use mathlib.Core.Path.{◌≡◌, sym, ◌∙◌}
use mathlib.Core.List.{List, [], ◌∷◌}
use mathlib.Core.Logic.{◌↔◌}
use native.Mathlib.Omega.{arith}
use Rattle.model.specs.Legal.{Pair, total, IsLargest}

pub total_below : (w v : Pair → ℕ) → ((p : Pair) → w p ≤ v p) → (σ : List Pair) → total w σ ≤ total v σ
total_below w v h [] = omega arith
total_below w v h (p ∷ σ) = omega (arith, h p, total_below w v h σ)

pub largest_below : {P Q : List Pair → Type 0} {w v : Pair → ℕ} {a b : ℕ} → ((σ : List Pair) → P σ → Q σ)
    → ((p : Pair) → w p ≤ v p) → IsLargest P w a → IsLargest Q v b → a ≤ b
largest_below {w = w} {v = v} f g x y =
    omega (arith, total_below w v g x.sequence, y.limit x.sequence (f x.sequence x.holds), x.reached)

pub largest_unique : {P : List Pair → Type 0} {w : Pair → ℕ} {a b : ℕ} → IsLargest P w a → IsLargest P w b → a ≡ b
largest_unique x y = omega (arith, x.limit y.sequence y.holds, y.limit x.sequence x.holds)

-- where the largest is the same, the same numbers are the largest
pub largest_same : {P Q : List Pair → Type 0} {w v : Pair → ℕ} {a b : ℕ} → IsLargest P w a → IsLargest Q v b → a ≡ b
    → (u : ℕ) → IsLargest P w u ↔ IsLargest Q v u
largest_same x y e u = (λ z. rw (largest_unique z x ∙ e) y, λ z. rw (largest_unique z y ∙ sym e) x)
