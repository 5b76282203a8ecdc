-- What the words of a table are, what the contracts say case by case, and that no second result and no second memory
-- satisfies one.
use Prim.Native.Nat.{ℕ, ◌+◌, ◌-◌, ◌≤◌, ◌<◌}
use mathlib.Core.Path.{◌≡◌, refl, sym, ◌∙◌, ap}
use mathlib.Core.List.{List}
use native.Mathlib.Omega.{arith}
use lib.ListN.{drop, length}
use borrow.Author.Tests.{le-leb, lt-leb}
use Rattle.std.specs.Prelude.{None, Some, Result, Ok, Err, OnOk, ⊤}
use Rattle.std.proofs.lemmas.List.FromFn.{length-map-range_with_len}
use Rattle.model.specs.Machine.{Machine, machine_of}
use Rattle.model.specs.Legal.{IsRequestBound, IsDemandBound}
use Rattle.model.specs.Reckon.{request, demand}
use Rattle.model.specs.Inside.{InRange}
use Rattle.model.proofs.Bounds.{request_is, demand_is}
use Rattle.reply.specs.declared.Reason.{Reason}
use Rattle.reply.specs.Answer.{paper}
use Rattle.reply.specs.declared.Refusal.{Refusal}
use Rattle.reply.specs.Lent.{in_front, unless_refused}
use Rattle.reply.specs.Reply.{refusal, refusal_for, unless}
use Rattle.reply.specs.Tabled.{paper as table_paper}
use Rattle.reply.proofs.Refusals.{or_else_refused, or_else_clear, otherwise_refused, otherwise_answered}
use Rattle.reply.proofs.Unique.{answer_unique, tabled_unique}
use Rattle.sheet.specs.Format.{machine_count, decode}
use Rattle.sheet.specs.Inside.{Accepted}
use Rattle.window.specs.Window.{question_refusal}
use Rattle.window.proofs.Replies.{proper, question_forward}
use Rattle.bounds.specs.Bounds.{request_reply, demand_reply}
use Rattle.bounds.specs.Table.{request_table, table_refusal, table_reply, with_table, table_words, HoldsBounds}
use Rattle.bounds.proofs.Filling.{listed_first}

-- the request table has a word for each length, and each is the request bound
pub table_length : (m : Machine) (s n : ℕ) → length (request_table m s n) ≡ n + 1
table_length m s n = length-map-range_with_len _ 0 (n + 1)

pub table_bounds : (m : Machine) (s n : ℕ) (old : List ℕ) {words : List ℕ} → words ≡ in_front (request_table m s n) old
    → HoldsBounds m s n words
table_bounds m s n old e k l =
    let rest = drop (length (request_table m s n)) old in
    let word = listed_first (request m s) (n + 1) rest k (omega arith) in
    rw (e, word) (request_is m s k (s + k) refl)

-- the refusal of a table, where the question is refused
pub refusal_question : (b : List ℕ) (i s n lent : ℕ) {r : Refusal} → question_refusal b i s (s + n) ≡ Some r
    → table_refusal b i s n lent ≡ Some r
unfolding table_refusal
refusal_question b i s n lent e = or_else_refused _ e

-- and where it is not, by the words that are lent
module _ (b : List ℕ) (i s n lent : ℕ) (kept : question_refusal b i s (s + n) ≡ None) where
  pub refusal_short : lent ≤ n → table_refusal b i s n lent ≡ Some (refusal 12 0 0)
  unfolding table_refusal
  refusal_short l = or_else_clear _ kept ∙ ap (λ t. unless t (refusal 12 0 0)) (lt-leb (n + 1) lent (omega arith))

  pub refusal_none : n < lent → table_refusal b i s n lent ≡ None
  unfolding table_refusal
  refusal_none l = or_else_clear _ kept ∙ ap (λ t. unless t (refusal 12 0 0)) (le-leb (n + 1) lent (omega arith))

-- the window of a question that is not refused, by its ticks, and its request bound
module _ (b : List ℕ) (i s f : ℕ) (kept : question_refusal b i s f ≡ None) where
  between : s + (f - s) ≡ f
  between = omega (arith, question_forward b i s f kept)

  pub window_proper : Accepted b × (i < machine_count b) × InRange s (s + (f - s))
  window_proper = rw between (proper b i s f kept)

  pub request_answer : {v : ℕ} → v ≡ request (machine_of (decode b) i) s (f - s)
      → (paper (Ok v) ≡ request_reply b i s f) × IsRequestBound (machine_of (decode b) i) s f v
  request_answer e = rw e (otherwise_answered _ kept, request_is (machine_of (decode b) i) s (f - s) f between)

-- the demand bound, where the question is not refused
pub demand_answer : (b : List ℕ) (i s f : ℕ) → question_refusal b i s f ≡ None
    → {v : ℕ} → v ≡ demand (machine_of (decode b) i) s (f - s)
    → (paper (Ok v) ≡ demand_reply b i s f) × IsDemandBound (machine_of (decode b) i) s f v
demand_answer b i s f kept e =
    rw e (
      otherwise_answered _ kept,
      demand_is (machine_of (decode b) i) s (f - s) f (omega (arith, question_forward b i s f kept)),
    )

-- what `table` promises: the reply, the lent words, and that they hold the bounds
abbrev Meets : List ℕ → ℕ → ℕ → ℕ → List ℕ → List ℕ → Result ⊤ Reason → Type 0
Meets b i s n words after r =
    (table_paper r ≡ table_reply b i s n words)
    × ((after ≡ table_words b i s n words) × OnOk r (HoldsBounds (machine_of (decode b) i) s n after))

-- by the refusal of the table
module _ (b : List ℕ) (i s n : ℕ) (words : List ℕ) where
  pub table_refused : (r : Reason) → table_refusal b i s n (length words) ≡ Some (refusal_for r)
      → Meets b i s n words words (Err r)
  table_refused r e =
      (otherwise_refused _ e, (sym (ap (λ x. unless_refused x (with_table b i s n words) words) e), tt))

  pub table_filled : (after : List ℕ) → table_refusal b i s n (length words) ≡ None → after ≡ with_table b i s n words
      → Meets b i s n words after (Ok tt)
  table_filled after e written =
      (otherwise_answered _ e, (rw e written, table_bounds (machine_of (decode b) i) s n words written))

-- no second result
module _ (b : List ℕ) (i s f : ℕ) (r q : Result ℕ Reason) where
  pub request_unique : paper r ≡ request_reply b i s f → paper q ≡ request_reply b i s f → r ≡ q
  request_unique = answer_unique r q

  pub demand_unique : paper r ≡ demand_reply b i s f → paper q ≡ demand_reply b i s f → r ≡ q
  demand_unique = answer_unique r q

-- and no second memory
pub table_unique : (b : List ℕ) (i s n : ℕ) (words : List ℕ) (r q : Result ⊤ Reason) (after other : List ℕ)
    → table_paper r ≡ table_reply b i s n words → table_paper q ≡ table_reply b i s n words
    → after ≡ table_words b i s n words → other ≡ table_words b i s n words → (r ≡ q) × (after ≡ other)
table_unique b i s n words r q after other e g h k = (tabled_unique r q e g, h ∙ sym k)
