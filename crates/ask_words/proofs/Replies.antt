-- What five words ask, and that no second answer satisfies the contract of `asked_by`.
use Prim.Native.Nat.{ℕ}
use mathlib.Core.Path.{◌≡◌, refl, sym, ◌∙◌}
use mathlib.Core.Bool.{Bool, true}
use mathlib.Core.List.{List}
use Rattle.std.specs.Prelude.{Option}
use Rattle.std.specs.Bool.{one_answer}
use Rattle.std.specs.Str.{bytes_eq}
use Rattle.std.proofs.lemmas.Slice.Eq.{bytes_eq-Decides}
use Rattle.reply.specs.declared.Kind.{Kind}
use Rattle.reply.specs.declared.Question.{Question}
use Rattle.text.specs.Text.{read_number}
use Rattle.ask_words.specs.Asks.{kind_of, asks_of, asks}

-- the name of a question, as it is compared
pub compared : (xs ys : List ℕ) (r : Bool) {t : Bool} → (r ≡ true → xs ≡ ys) × (xs ≡ ys → r ≡ true) → r ≡ t
    → bytes_eq xs ys ≡ t
compared xs ys r says e = one_answer (bytes_eq xs ys) r (bytes_eq-Decides xs ys) says ∙ e

-- what five words ask, by what each of them says
pub five_words : (words : ℕ) (name machine from to : List ℕ) → words ≡ 5 → {k : Option Kind} {i s f : Option ℕ}
    → k ≡ kind_of name → i ≡ read_number machine → s ≡ read_number from → f ≡ read_number to
    → asks_of k i s f ≡ asks words name machine from to
five_words words name machine from to h k i s f = rw (h, k, i, s, f) refl

-- no second result satisfies the contract of `asked_by`
pub asked_by_unique : (words : ℕ) (name machine from to : List ℕ) (r q : Option Question)
    → r ≡ asks words name machine from to → q ≡ asks words name machine from to → r ≡ q
asked_by_unique words name machine from to r q e p = e ∙ sym p
