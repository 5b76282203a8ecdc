-- The refusal of a question, by what has been found out on the way, and what one that is not refused gives.
use Prim.Native.Nat.{ℕ, ◌+◌, ◌-◌, ◌≤◌, ◌<◌}
use mathlib.Core.Path.{◌≡◌, sym, ◌∙◌, ap}
use mathlib.Core.Bool.{true, false, ◌&&◌}
use mathlib.Core.List.{List}
use native.Mathlib.Omega.{arith}
use lib.Dec.{leb}
use Rattle.std.specs.Prelude.{None, Some}
use borrow.Author.Tests.{leb-true, lt-ltb, le-ltb, ltb-true}
use Rattle.model.specs.Limits.{longest_window, last_tick}
use Rattle.model.specs.Inside.{InRange}
use Rattle.model.proofs.Tests.{both_true}
use Rattle.reply.specs.declared.Refusal.{Refusal}
use Rattle.reply.specs.Reply.{refusal, unless}
use Rattle.reply.proofs.Refusals.{unless_none, or_else_none, or_else_refused, or_else_clear}
use Rattle.sheet.specs.Format.{machine_count}
use Rattle.sheet.specs.Inside.{Accepted}
use Rattle.rules.specs.Check.{refusal_of}
use Rattle.rules.proofs.Replies.{not_refused}
use Rattle.rules.proofs.Stages.{passed_on}
use Rattle.window.specs.Window.{window_in_range, rule10, rule11, question_refusal}

module _ (b : List ℕ) (i s f : ℕ) where
  pub question_sheet : {r : Refusal} → Some r ≡ refusal_of b → Some r ≡ question_refusal b i s f
  unfolding question_refusal
  question_sheet e = sym (or_else_refused _ (sym e))

  pub question_machine : None ≡ refusal_of b → machine_count b ≤ i → Some (refusal 10 0 0) ≡ question_refusal b i s f
  unfolding question_refusal
  question_machine e l =
      sym (or_else_clear _ (sym e)
      ∙ or_else_refused _ (ap (λ t. unless t (refusal 10 0 0)) (le-ltb i (machine_count b) l)))

  in_sheet : None ≡ refusal_of b → i < machine_count b → rule11 s f ≡ question_refusal b i s f
  unfolding question_refusal
  in_sheet e l =
      sym (or_else_clear _ (sym e)
      ∙ or_else_clear _ (ap (λ t. unless t (refusal 10 0 0)) (lt-ltb i (machine_count b) l)))

  pub question_window : None ≡ refusal_of b → i < machine_count b → false ≡ window_in_range s f
      → Some (refusal 11 0 0) ≡ question_refusal b i s f
  question_window e l w = ap (λ t. unless t (refusal 11 0 0)) w ∙ in_sheet e l

  pub question_kept : None ≡ refusal_of b → i < machine_count b → true ≡ window_in_range s f
      → None ≡ question_refusal b i s f
  question_kept e l w = ap (λ t. unless t (refusal 11 0 0)) w ∙ in_sheet e l

-- a question that is not refused has a sheet that is accepted, a machine that is in it, and a window in range
pub proper : (b : List ℕ) (i s f : ℕ) → question_refusal b i s f ≡ None
    → Accepted b × (i < machine_count b) × InRange s f
unfolding question_refusal
proper b i s f e =
    let (sheet, rest) = or_else_none (refusal_of b) _ e in
    let (machine, window) = or_else_none (rule10 b i) (rule11 s f) rest in
    let (two, near) = both_true (leb s f && leb f (s + longest_window)) _ (unless_none _ (refusal 11 0 0) window) in
    let (forward, short) = both_true (leb s f) _ two in (
      not_refused b sheet,
      ltb-true i (machine_count b) (unless_none _ (refusal 10 0 0) machine),
      record {
        forward = leb-true s f forward;
        short = leb-true f (s + longest_window) short;
        near = leb-true f last_tick near;
      },
    )

-- and so a window that runs forward
pub question_forward : (b : List ℕ) (i s f : ℕ) → question_refusal b i s f ≡ None → s ≤ f
unfolding question_refusal
question_forward b i s f e =
    let (sheet, rest) = or_else_none (refusal_of b) _ e in
    let (machine, window) = or_else_none (rule10 b i) (rule11 s f) rest in
    let (two, near) = both_true (leb s f && leb f (s + longest_window)) _ (unless_none _ (refusal 11 0 0) window) in
    leb-true s f (both_true (leb s f) _ two).0

-- a window by its start and its number of ticks
pub window_ticks : {s f n : ℕ} → InRange s f → f - s ≡ n → InRange s (s + n)
window_ticks {s} {f} {n} h e = let z : s + n ≡ f = omega (arith, h.forward) in rw z h

pub ruleset questions = (passed_on, question_sheet, question_machine, question_window, question_kept)
