-- Laws of texts, and of decimal digits.
use Prim.Native.Nat.{ℕ, ◌+◌, ◌/◌, ◌%◌, ◌^◌, ◌≤◌, ◌<◌}
use mathlib.Core.Path.{◌≡◌, refl, ◌∙◌, ap}
use mathlib.Core.List.{List, [], ◌∷◌, ◌++◌, append-nil}
use native.Mathlib.Omega.{arith}
use lib.ListN.{length, length-append}
use Rattle.std.specs.Prelude.{None, decimal}
use Rattle.std.proofs.lemmas.Fmt.{decimal_step_wide, length-decimal-le}
use Rattle.text.specs.Text.{spaced, read_number}

-- a number has its last digit behind those of its tenth, and a word has at most 10: the kit's digits are right below
-- 10 ^ 64
pub decimal_more : (n : ℕ) → 10 ≤ n → n < 10 ^ 64 → decimal n ≡ decimal (n / 10) ++ ((48 + n % 10) ∷ [])
decimal_more = decimal_step_wide

pub decimal_length : (n : ℕ) → 10 ≤ n → n < 10 ^ 64 → length (decimal n) ≡ length (decimal (n / 10)) + 1
decimal_length n l h = ap length (decimal_more n l h) ∙ length-append (decimal (n / 10)) ((48 + n % 10) ∷ [])

pub word_digits : (n : ℕ) → n < 2 ^ 32 → length (decimal n) ≤ 10
word_digits n h = length-decimal-le 10 n (omega arith) (omega arith) (omega arith)

-- an empty word says no number
pub empty_none : (word : List ℕ) → length word ≡ 0 → None ≡ read_number word
empty_none [] e = refl
empty_none (c ∷ word) e = absurd (omega arith)

-- where no number is to be said, nothing is put
pub put_nothing : (text : List ℕ) → text ++ spaced [] ≡ text
put_nothing text = append-nil text
