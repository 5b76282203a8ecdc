-- The greatest common divisor and the least common multiple, of two numbers and of a list.
-- That they are what their names say is proved in proofs/Divide.antt.
use Rattle.std.specs.Prelude.{ℕ, zero, suc, ◌*◌, ◌/◌, ◌%◌, List, [], ◌∷◌}
use Rattle.std.specs.Int.{◌∣◌}

-- Euclid's rule, at most `calls` deep
unfoldable pub euclid : ℕ → ℕ → ℕ → ℕ
euclid zero a b = a
euclid (suc calls) a zero = a
euclid (suc calls) a (suc b) = euclid calls (suc b) (a % suc b)

-- the second number falls at each call, so that b + 1 calls are enough
unfoldable pub gcd : ℕ → ℕ → ℕ
gcd a b = euclid (suc b) a b

-- the least common multiple: divided first, so that nothing larger than it comes up
unfoldable pub lcm : ℕ → ℕ → ℕ
lcm a b = a / gcd a b * b

-- a list taken in from the front
unfoldable pub fold : (ℕ → ℕ → ℕ) → ℕ → List ℕ → ℕ
fold f x [] = x
fold f x (a ∷ l) = fold f (f x a) l

-- of a list: every number divides 0, and 1 divides every number
abbrev pub gcd_of : List ℕ → ℕ
gcd_of = fold gcd 0

abbrev pub lcm_of : List ℕ → ℕ
lcm_of = fold lcm 1

-- P holds of each number of the list
abbrev pub Each : (ℕ → Type 0) → List ℕ → Type 0
Each P [] = Unit
Each P (a ∷ l) = P a × Each P l

-- g divides each number of l, and whatever divides each of them divides g
pub record IsGcd (l : List ℕ) (g : ℕ) : Type 0 where
  pub divides : Each (λ a. g ∣ a) l
  pub greatest : (d : ℕ) → Each (λ a. d ∣ a) l → d ∣ g

-- each number of l divides h, and h divides whatever each of them divides
pub record IsLcm (l : List ℕ) (h : ℕ) : Type 0 where
  pub multiple : Each (λ a. a ∣ h) l
  pub least : (m : ℕ) → Each (λ a. a ∣ m) l → h ∣ m
