-- Refusals one after another: laws of `unless`, `or_else` and `otherwise`.
use Prim.Native.Nat.{ℕ, ◌≤◌}
use mathlib.Core.Path.{◌≡◌, refl, sym, ◌∙◌, ap}
use mathlib.Core.Bool.{Bool, true, false, not}
use Rattle.std.specs.Prelude.{Option, None, Some}
use lib.Dec.{eqb}
use borrow.Author.Tests.{not-true, not-false, eq-eqb, ne_eqb, leb-true}
use Rattle.reply.specs.declared.Refusal.{Refusal}
use Rattle.reply.specs.Reply.{Reply, refused, unless, ◌or_else◌, ◌otherwise◌}
use Rattle.reply.specs.Lent.{rule12}

-- what the code's test t says of a rule's test
pub broken_here : (t : Bool) {test : Bool} (r : Refusal) → t ≡ test → not t ≡ true → unless test r ≡ Some r
broken_here t {test} r e n = ap (λ x. unless x r) (sym e ∙ not-true t n)

-- and where it holds
pub kept_here : (t : Bool) {test : Bool} (r : Refusal) → t ≡ test → not t ≡ false → unless test r ≡ None
kept_here t {test} r e n = ap (λ x. unless x r) (sym e ∙ not-false t n)

pub unless_none : (test : Bool) (r : Refusal) → unless test r ≡ None → test ≡ true
unless_none true r e = refl
unless_none false r e = cc

-- the same of a test that two numbers are equal
pub equal_broken : (x y : ℕ) (r : Refusal) → (x ≡ y → ⊥) → unless (eqb x y) r ≡ Some r
equal_broken x y r n = ap (λ t. unless t r) (ne_eqb x y n)

pub equal_kept : (x y : ℕ) (r : Refusal) → x ≡ y → unless (eqb x y) r ≡ None
equal_kept x y r e = ap (λ t. unless t r) (eq-eqb x y e)

-- and of rule 12: the lent words are enough
pub enough : (needed lent : ℕ) → rule12 needed lent ≡ None → needed ≤ lent
enough needed lent e = leb-true needed lent (unless_none _ _ e)

pub or_else_refused : {a : Option Refusal} (b : Option Refusal) {r : Refusal} → a ≡ Some r → a or_else b ≡ Some r
or_else_refused b e = ap (λ x. x or_else b) e

pub or_else_clear : {a : Option Refusal} (b : Option Refusal) → a ≡ None → a or_else b ≡ b
or_else_clear b e = ap (λ x. x or_else b) e

pub or_else_none : (a b : Option Refusal) → a or_else b ≡ None → (a ≡ None) × (b ≡ None)
or_else_none None b e = (refl, e)
or_else_none (Some r) b e = cc

-- of three, whichever two come together first
pub or_else_assoc : (a b c : Option Refusal) → (a or_else b) or_else c ≡ a or_else (b or_else c)
or_else_assoc None b c = refl
or_else_assoc (Some r) b c = refl

-- the refusal, or the answer where there is none
pub otherwise_refused : {x : Option Refusal} {r : Refusal} (reply : Reply) → x ≡ Some r → refused r ≡ x otherwise reply
otherwise_refused reply e = sym (ap (λ y. y otherwise reply) e)

pub otherwise_answered : {x : Option Refusal} (reply : Reply) → x ≡ None → reply ≡ x otherwise reply
otherwise_answered reply e = sym (ap (λ y. y otherwise reply) e)
