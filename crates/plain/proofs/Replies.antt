-- The reply of `plain`: what it is where the call is refused and where the window is taken, that it agrees with the
-- table method on each window that it takes, and that no second result satisfies the contract.
use Prim.Native.Nat.{ℕ, ◌+◌, ◌-◌, ◌≤◌, ◌<◌}
use mathlib.Core.Path.{◌≡◌, refl, ◌∙◌, ap}
use mathlib.Core.List.{List, [], ◌∷◌}
use Rattle.std.specs.Prelude.{Option, None, Some, Result, Ok, Err, IfOk}
use native.Mathlib.Omega.{arith}
use lib.Dec.{leb}
use lib.ListN.{get_or}
use borrow.Author.Tests.{le-leb, lt-leb}
use Rattle.model.specs.Machine.{Machine, machine_of}
use Rattle.model.specs.Legal.{IsRequestBound, requested}
use Rattle.model.specs.Reckon.{most, request}
use Rattle.model.specs.Inside.{Closed, figure, IsRow}
use Rattle.model.proofs.Largest.{largest_unique}
use Rattle.model.proofs.Bounds.{request_is}
use Rattle.model.proofs.Row.{row_request}
use Rattle.reply.specs.declared.Refusal.{Refusal}
use Rattle.reply.specs.declared.Reason.{Reason}
use Rattle.reply.specs.declared.Reason.TheVariants.{ManyInstants}
use Rattle.reply.specs.Reply.{answer, refusal, refusal_for, unless, ◌or_else◌, ◌otherwise◌}
use Rattle.reply.specs.Answer.{paper}
use Rattle.reply.proofs.Refusals.{or_else_refused, or_else_clear, otherwise_refused, otherwise_answered}
use Rattle.reply.proofs.Unique.{answer_unique}
use Rattle.sheet.specs.Format.{decode}
use Rattle.window.specs.Window.{question_refusal}
use Rattle.window.proofs.Replies.{question_forward}
use Rattle.plain.specs.Plain.{instants, plain_refusal, plain_reply}

-- the refusal of a call, where the question is refused
pub refusal_question : (b : List ℕ) (i s f : ℕ) {r : Refusal} → question_refusal b i s f ≡ Some r
    → plain_refusal b i s f ≡ Some r
unfolding plain_refusal
refusal_question b i s f e = or_else_refused _ e

-- what the contract says: the reply, and that a figure is the request bound
abbrev Meets : List ℕ → ℕ → ℕ → ℕ → Result ℕ Reason → Type 0
Meets b i s f r = (paper r ≡ plain_reply b i s f) × IfOk r (IsRequestBound (machine_of (decode b) i) s f)

module _ (b : List ℕ) (i s f : ℕ) where
  -- a refusal of the question is passed on
  pub plain_refused : (r : Reason) → question_refusal b i s f ≡ Some (refusal_for r) → Meets b i s f (Err r)
  plain_refused r e = (otherwise_refused _ (refusal_question b i s f e), tt)

  -- by the number of instants of the machine
  module _ (kept : question_refusal b i s f ≡ None) {n : ℕ}
      (counted : n ≡ instants (machine_of (decode b) i) s (f - s)) where
    tested : plain_refusal b i s f ≡ unless (leb n 6) (refusal 14 0 0)
    unfolding plain_refusal
    tested = rw counted (or_else_clear _ kept)

    pub plain_many : 6 < n → Meets b i s f (Err ManyInstants)
    plain_many l = (otherwise_refused _ (tested ∙ ap (λ t. unless t (refusal 14 0 0)) (lt-leb n 6 l)), tt)

    -- each window with at most 6 instants is taken
    pub plain_taken : {v : ℕ} → n ≤ 6 → v ≡ request (machine_of (decode b) i) s (f - s) → Meets b i s f (Ok v)
    plain_taken l g =
        let clear = tested ∙ ap (λ t. unless t (refusal 14 0 0)) (le-leb n 6 l) in
        let window : s + (f - s) ≡ f = omega (arith, question_forward b i s f kept) in
        rw g (otherwise_answered _ clear, request_is (machine_of (decode b) i) s (f - s) f window)

or_else_nothing : (x : Option Refusal) → x or_else None ≡ x
or_else_nothing None = refl
or_else_nothing (Some r) = refl

-- on each window that it takes it agrees with the table method: with `request`, with a row of figures, and with a word
-- of the request table
pub plain_agrees_request : (b : List ℕ) (i s f : ℕ) (r q : Result ℕ Reason)
    → instants (machine_of (decode b) i) s (f - s) ≤ 6 → paper r ≡ plain_reply b i s f
    → paper q ≡ (question_refusal b i s f otherwise answer 0 (request (machine_of (decode b) i) s (f - s) ∷ [])) → r ≡ q
unfolding plain_refusal
plain_agrees_request b i s f r q l e g =
    let few = le-leb (instants (machine_of (decode b) i) s (f - s)) 6 l in
    let same : plain_refusal b i s f ≡ question_refusal b i s f = rw (few, or_else_nothing _) refl in
    answer_unique r q (rw same at e) g

module _ (m : Machine) {s f v : ℕ} (bound : IsRequestBound m s f v) where
  pub plain_agrees_row : {n : ℕ} {row : List ℕ} → s + n ≡ f → Closed m → IsRow m (requested m) s n row
      → v ≡ most m.states (figure row)
  plain_agrees_row {n} {row} e closed h =
      largest_unique bound (rw (row_request m s n row h closed) (request_is m s n f e))

  pub plain_agrees_table : {n k : ℕ} (words : List ℕ) → s + k ≡ f → k ≤ n
      → ((j : ℕ) → j ≤ n → IsRequestBound m s (s + j) (get_or words j 0)) → v ≡ get_or words k 0
  plain_agrees_table {k = k} words e l h = largest_unique bound (rw e at (h k l))

-- no second result
pub plain_unique : (b : List ℕ) (i s f : ℕ) (r q : Result ℕ Reason) → paper r ≡ plain_reply b i s f
    → paper q ≡ plain_reply b i s f → r ≡ q
plain_unique b i s f = answer_unique
