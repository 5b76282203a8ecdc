-- The reply of `critical` and the lent words afterwards: what they are where the call is refused and where the sequence
-- is found, and that no second result and no second memory satisfies the contract.
use Prim.Native.Nat.{ℕ, ◌-◌, ◌*◌, ◌≤◌, ◌<◌}
use mathlib.Core.Path.{◌≡◌, refl, sym, ◌∙◌, ap, ap₂, subst}
use mathlib.Core.List.{List, [], ◌∷◌, ◌++◌}
use Rattle.std.specs.Prelude.{None, Some, Result, Ok, Err, IfOk}
use Rattle.std.specs.List.{flat_map}
use native.Mathlib.Omega.{arith}
use lib.ListN.{length, length-map, take, drop}
use borrow.Author.Tests.{le-leb, lt-leb}
use Rattle.model.specs.Machine.{machine_of}
use Rattle.model.specs.Sizes.{MachineSizes}
use Rattle.model.specs.Critical.{IsCritical, critical}
use Rattle.model.proofs.Accepted.{sizes_cost}
use Rattle.model.proofs.Critical.{critical_is}
use Rattle.reply.specs.declared.Refusal.{Refusal}
use Rattle.reply.specs.declared.Reason.{Reason}
use Rattle.reply.specs.declared.Reason.TheVariants.{ShortOutput}
use Rattle.reply.specs.Reply.{answer, refusal, refusal_for, unless}
use Rattle.reply.specs.Lent.{in_front, unless_refused}
use Rattle.reply.specs.Answer.{paper}
use Rattle.reply.proofs.Refusals.{or_else_refused, or_else_clear, otherwise_refused, otherwise_answered}
use Rattle.reply.proofs.Unique.{answer_unique}
use Rattle.sheet.specs.Format.{decode}
use Rattle.sheet.specs.Meant.{meant}
use Rattle.sheet.proofs.Entries.{machine_sizes, meant_sizes}
use Rattle.window.specs.declared.machine_window.MachineWindow.{MachineWindow}
use Rattle.window.specs.Window.{question_refusal}
use Rattle.window.specs.Inside.{IsWindowOf}
use Rattle.window.proofs.Replies.{proper}
use Rattle.critical.specs.Critical.{sequence_of, words_of, critical_refusal, critical_reply, critical_words}
use Rattle.critical.specs.Critical.{pairs_in, HoldsCritical}
use Rattle.critical.specs.Inside.{arrays_of}
use Rattle.critical.proofs.Words.{words_length, arrays_words, words_pairs}

module _ (b : List ℕ) (i s f lent : ℕ) where
  pub refusal_question : {r : Refusal} → question_refusal b i s f ≡ Some r → critical_refusal b i s f lent ≡ Some r
  unfolding critical_refusal
  refusal_question e = or_else_refused _ e

  module _ (kept : question_refusal b i s f ≡ None) where
    pub refusal_short : lent < 2 * length (sequence_of b i s f) → critical_refusal b i s f lent ≡ Some (refusal 12 0 0)
    unfolding critical_refusal
    refusal_short l = or_else_clear _ kept ∙ ap (λ t. unless t (refusal 12 0 0)) (lt-leb _ lent l)

    -- so an empty sequence never gives 12
    pub refusal_none : 2 * length (sequence_of b i s f) ≤ lent → critical_refusal b i s f lent ≡ None
    unfolding critical_refusal
    refusal_none l = or_else_clear _ kept ∙ ap (λ t. unless t (refusal 12 0 0)) (le-leb _ lent l)

-- what is found in a window of a machine is the sequence that is asked for
module _ {b : List ℕ} {i s f : ℕ} {w : MachineWindow} (is : IsWindowOf b i s f w) where
  pub window_sequence : critical (meant w.machine) w.from w.length ≡ sequence_of b i s f
  unfolding sequence_of
  window_sequence = rw (is.machine, is.from, is.length) refl

  -- and it is critical: a cost is at least 1
  sequence_is : IsCritical (machine_of (decode b) i) s f (sequence_of b i s f)
  unfolding sequence_of
  sequence_is =
      let sizes : MachineSizes (machine_of (decode b) i) = subst MachineSizes is.machine (meant_sizes w.machine) in
      critical_is (machine_of (decode b) i) (λ k l. (sizes_cost _ sizes k l).0) s (f - s) f (rw is.length at is.to)

-- so is the sequence of any question that is not refused
proper_is : (b : List ℕ) (i s f : ℕ) → question_refusal b i s f ≡ None
    → IsCritical (machine_of (decode b) i) s f (sequence_of b i s f)
unfolding sequence_of
proper_is b i s f kept =
    let (accepted, known, window) = proper b i s f kept in
    let m = machine_of (decode b) i in
    let sizes : MachineSizes m = machine_sizes accepted i known in
    critical_is m (λ k l. (sizes_cost m sizes k l).0) s (f - s) f (omega (arith, window.forward))

-- what the contract says: the reply, the words afterwards, and that they hold the critical sequence
abbrev Meets : List ℕ → ℕ → ℕ → ℕ → List ℕ → List ℕ → Result ℕ Reason → Type 0
Meets b i s f words after r =
    (paper r ≡ critical_reply b i s f words)
    × ((after ≡ critical_words b i s f words) × IfOk r (HoldsCritical (machine_of (decode b) i) s f after))

module _ (b : List ℕ) (i s f : ℕ) (words : List ℕ) where
  -- a refusal leaves the words as they were
  pub critical_refused : (r : Reason) → critical_refusal b i s f (length words) ≡ Some (refusal_for r)
      → Meets b i s f words words (Err r)
  critical_refused r e = (
    otherwise_refused _ e,
    (sym (ap (λ x. unless_refused x (in_front (words_of (sequence_of b i s f)) words) words) e), tt),
  )

  pub question_refused : (r : Reason) → Some (refusal_for r) ≡ question_refusal b i s f
      → Meets b i s f words words (Err r)
  question_refused r e = critical_refused r (refusal_question b i s f (length words) (sym e))

  -- words that begin with the sequence are copied to the front
  pub critical_found : {n : ℕ} (pairs : List ℕ) {copied : List ℕ} → question_refusal b i s f ≡ None
      → n ≡ length (sequence_of b i s f) → take (2 * n) pairs ≡ words_of (sequence_of b i s f)
      → 2 * n ≤ length words → copied ≡ take (2 * n) pairs
      → Meets b i s f words (copied ++ drop (2 * n) words) (Ok n)
  critical_found {n} pairs {copied} kept number holds room e =
      let σ = sequence_of b i s f in
      let clear = refusal_none b i s f (length words) kept (omega (arith, number)) in
      let long : 2 * n ≡ length (words_of σ) = omega (arith, number, words_length σ) in
      let written : copied ++ drop (2 * n) words ≡ in_front (words_of σ) words =
      ap₂ ◌++◌ (e ∙ holds) (ap (λ k. drop k words) long) in
      let read : pairs_in n (copied ++ drop (2 * n) words) ≡ σ = ap₂ pairs_in number written ∙ words_pairs σ _ in (
        ap (λ v. answer 0 (v ∷ [])) number ∙ otherwise_answered _ clear,
        (rw clear written, rw read (proper_is b i s f kept)),
      )

  -- where the question is proper, and these are the sequence's arrays, and the same end to end
  module _ {w : MachineWindow} {pairs : List (List ℕ)} {found : List ℕ} (kept : None ≡ question_refusal b i s f)
      (is : IsWindowOf b i s f w) (traced : pairs ≡ arrays_of (critical (meant w.machine) w.from w.length))
      (flat : found ≡ flat_map (λ p. p) pairs) where
    pairs_are : pairs ≡ arrays_of (sequence_of b i s f)
    pairs_are = traced ∙ ap arrays_of (window_sequence is)

    words_are : found ≡ words_of (sequence_of b i s f)
    words_are = flat ∙ ap (flat_map (λ p. p)) pairs_are ∙ arrays_words (sequence_of b i s f)

    twice : length found ≡ 2 * length (sequence_of b i s f)
    twice = ap length words_are ∙ words_length (sequence_of b i s f)

    pub sequence_short : length words < length found → Meets b i s f words words (Err ShortOutput)
    sequence_short l =
        critical_refused ShortOutput (refusal_short b i s f (length words) (sym kept) (omega (arith, twice)))

    -- they are copied to the front
    pub sequence_found : {number : ℕ} {copied : List ℕ} → number ≡ length pairs → copied ≡ found
        → length found ≤ length words → Meets b i s f words (copied ++ drop (length found) words) (Ok number)
    sequence_found {number} {copied} counted e room =
        let all : number ≡ length (sequence_of b i s f) = counted ∙ ap length pairs_are ∙ length-map _ _ in
        let clear = refusal_none b i s f (length words) (sym kept) (omega (arith, twice)) in
        let written : copied ++ drop (length found) words ≡ in_front (words_of (sequence_of b i s f)) words =
        rw (e, words_are) refl in
        let read : pairs_in number (copied ++ drop (length found) words) ≡ sequence_of b i s f =
        ap₂ pairs_in all written ∙ words_pairs (sequence_of b i s f) _ in (
          ap (λ v. answer 0 (v ∷ [])) all ∙ otherwise_answered _ clear,
          (rw clear written, rw read (sequence_is is)),
        )

-- no second result, and no second memory
pub critical_unique : (b : List ℕ) (i s f : ℕ) (words : List ℕ) (r q : Result ℕ Reason) (after other : List ℕ)
    → paper r ≡ critical_reply b i s f words → paper q ≡ critical_reply b i s f words
    → after ≡ critical_words b i s f words → other ≡ critical_words b i s f words → (r ≡ q) × (after ≡ other)
critical_unique b i s f words r q after other e g h k = (answer_unique r q e g, h ∙ sym k)
