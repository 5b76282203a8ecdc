-- A refusal in words, from its pieces, and that no second line satisfies the contract.
use Prim.Native.Nat.{ℕ, ◌+◌, ◌≤◌, ◌<◌}
use mathlib.Core.Path.{◌≡◌, refl}
use mathlib.Core.List.{List, [], ◌∷◌, ◌++◌, append_assoc, append-nil}
use native.Mathlib.Omega.{arith}
use borrow.Author.Tests.{ne_eqb, lt-ltb, le-ltb}
use lib.ListN.{length}
use Rattle.std.specs.Prelude.{codes, ◌≢◌}
use Rattle.reply.specs.declared.Refusal.{Refusal}
use Rattle.reply.specs.Printed.{printed_length, printed}
use Rattle.reply.proofs.Printing.{printed_unique}
use Rattle.text.specs.Text.{spaced}
use Rattle.explain.specs.Words.{reason, place, explanation}

-- a number that no refusal has gives no reason
pub no_reason : (n : ℕ) → n ≢ 1 → n ≢ 2 → n ≢ 3 → n ≢ 4 → n ≢ 5 → n ≢ 6 → n ≢ 7 → n ≢ 8 → n ≢ 9 → n ≢ 10 → n ≢ 11
    → n ≢ 12 → n ≢ 14 → reason n ≡ []
no_reason n a b c d e f g h i j k l m =
    rw (
      ne_eqb n 1 a,
      ne_eqb n 2 b,
      ne_eqb n 3 c,
      ne_eqb n 4 d,
      ne_eqb n 5 e,
      ne_eqb n 6 f,
      ne_eqb n 7 g,
      ne_eqb n 8 h,
      ne_eqb n 9 i,
      ne_eqb n 10 j,
      ne_eqb n 11 k,
      ne_eqb n 12 l,
      ne_eqb n 14 m,
    ) refl

-- as one of a sheet's refusals, and as one of a question's
pub no_sheet_reason : (n : ℕ) → n < 10 → n ≢ 1 → n ≢ 2 → n ≢ 3 → n ≢ 4 → n ≢ 5 → n ≢ 6 → n ≢ 7 → n ≢ 8 → n ≢ 9
    → reason n ≡ []
no_sheet_reason n below a b c d e f g h i =
    no_reason n a b c d e f g h i (λ z. omega arith) (λ z. omega arith) (λ z. omega arith) (λ z. omega arith)

pub no_question_reason : (n : ℕ) → 10 ≤ n → n ≢ 10 → n ≢ 11 → n ≢ 12 → n ≢ 14 → reason n ≡ []
no_question_reason n above =
    no_reason n (λ z. omega arith) (λ z. omega arith) (λ z. omega arith) (λ z. omega arith) (λ z. omega arith)
    (λ z. omega arith) (λ z. omega arith) (λ z. omega arith) (λ z. omega arith)

-- the place, by the number: none below 5 and above 8
module _ (r : Refusal) where
  pub no_place_below : r.number < 5 → place r ≡ []
  unfolding place
  no_place_below l = rw (lt-ltb r.number 5 l)

  pub no_place_above : 8 < r.number → place r ≡ []
  unfolding place
  no_place_above l = rw (le-ltb r.number 5 (omega arith), lt-ltb 8 r.number l)

-- pieces put one after another
two_pieces : (text a b : List ℕ) → (text ++ a) ++ b ≡ text ++ (a ++ b ++ [])
two_pieces text a b = simp (append_assoc, append-nil)

four_pieces : (text a b c d : List ℕ) → (((text ++ a) ++ b) ++ c) ++ d ≡ text ++ (a ++ b ++ (c ++ d))
four_pieces text a b c d = simp append_assoc

-- a text with the place of a refusal behind, by the number
module _ (r : Refusal) (text : List ℕ) where
  pub place_machine : 5 ≤ r.number → r.number < 7
      → (text ++ codes ", at machine") ++ spaced (r.first ∷ []) ≡ text ++ place r
  unfolding place
  place_machine l h =
      rw (le-ltb r.number 5 l, le-ltb 8 r.number (omega arith), lt-ltb r.number 7 h)
      (two_pieces text (codes ", at machine") (spaced (r.first ∷ [])))

  pub place_action : 7 ≤ r.number → r.number ≤ 8
      → (((text ++ codes ", at machine") ++ spaced (r.first ∷ [])) ++ codes ", action") ++ spaced (r.second ∷ [])
      ≡ text ++ place r
  unfolding place
  place_action l h =
      rw (le-ltb r.number 5 (omega arith), le-ltb 8 r.number h, le-ltb r.number 7 l)
      (four_pieces text (codes ", at machine") (spaced (r.first ∷ [])) (codes ", action") (spaced (r.second ∷ [])))

-- no second result and no second memory satisfy the contract of `explain`
pub explain_unique : (program : List ℕ) (x : Refusal) (before : List ℕ) (r q : ℕ) (after other : List ℕ)
    → r ≡ printed_length (length program + 256) (explanation program x) before
    → after ≡ printed (length program + 256) (explanation program x) before
    → q ≡ printed_length (length program + 256) (explanation program x) before
    → other ≡ printed (length program + 256) (explanation program x) before → (r ≡ q) × (after ≡ other)
explain_unique program x = printed_unique (length program + 256) (explanation program x)
