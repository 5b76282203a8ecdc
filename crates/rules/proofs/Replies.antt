-- The reply of `check`: what it is where the rules are kept or broken, what acceptance gives, and that no
-- second result satisfies the contract.
use Prim.Native.Nat.{ℕ, ◌≤◌, ◌<◌}
use mathlib.Core.Path.{◌≡◌, refl, sym, ◌∙◌, ap}
use mathlib.Core.List.{List, [], ◌∷◌}
use Rattle.std.specs.Prelude.{Option, None, Some, Result, Ok, Err}
use borrow.Author.Tests.{le-leb, lt-leb}
use Rattle.model.specs.Limits.{longest_hyperperiod}
use Rattle.model.specs.Machine.{hyperperiod}
use Rattle.reply.specs.declared.Accepted.{Accepted}
use Rattle.reply.specs.declared.Reason.{Reason}
use Rattle.reply.specs.declared.Refusal.{Refusal}
use Rattle.reply.specs.Reply.{answer, refusal, refusal_for, refused, unless, ◌or_else◌, ◌otherwise◌}
use Rattle.reply.specs.Checked.{paper}
use Rattle.reply.proofs.Refusals.{or_else_assoc, or_else_none, or_else_refused, or_else_clear}
use Rattle.reply.proofs.Unique.{checked_unique}
use Rattle.sheet.specs.Format.{machine_count, decode}
use Rattle.sheet.specs.Inside.{PeriodsKept, Counted, Accepted as IsAccepted}
use Rattle.rules.specs.Rules.{rule5, rule6, rule7, rule8, rule9}
use Rattle.rules.specs.Check.{refusal_of, check_reply}
use Rattle.rules.specs.Inside.{trailer_rules}
use Rattle.rules.proofs.Stages.{by_trailer, periods_kept, all_kept}

-- the refusal under rules 1 to 8, if there is one
abbrev pub first_rules : List ℕ → Option Refusal
first_rules b = trailer_rules b or_else rule5 b or_else rule6 b or_else rule7 b or_else rule8 b

module _ (b : List ℕ) where
  -- a sheet that keeps them has its periods in range
  pub first_rules_so : first_rules b ≡ None → PeriodsKept b
  first_rules_so e =
      let (trailer, from5) = or_else_none (trailer_rules b) _ e in
      let (five, from6) = or_else_none (rule5 b) _ from5 in
      let (six, from7) = or_else_none (rule6 b) _ from6 in
      let (seven, eight) = or_else_none (rule7 b) _ from7 in
      periods_kept b (sym trailer) (sym five) (sym six) (sym seven)

  refusal_last : refusal_of b ≡ first_rules b or_else rule9 b
  refusal_last =
      let from5 = rule5 b or_else rule6 b or_else rule7 b or_else rule8 b in
      sym (or_else_assoc (trailer_rules b) from5 (rule9 b)
      ∙ ap (λ x. trailer_rules b or_else x)
      (or_else_assoc (rule5 b) (rule6 b or_else rule7 b or_else rule8 b) (rule9 b)
      ∙ ap (λ x. rule5 b or_else x) (or_else_assoc (rule6 b) (rule7 b or_else rule8 b) (rule9 b)
      ∙ ap (λ x. rule6 b or_else x) (or_else_assoc (rule7 b) (rule8 b) (rule9 b))))
      ∙ by_trailer b)

  reply_by : (x : Option Refusal) → refusal_of b ≡ x
      → check_reply b ≡ x otherwise answer 0 (machine_count b ∷ hyperperiod (decode b) ∷ [])
  reply_by x e = ap (λ y. y otherwise answer 0 (machine_count b ∷ hyperperiod (decode b) ∷ [])) e

  -- one that breaks them is refused so
  pub check_broken : {r : Refusal} → first_rules b ≡ Some r → check_reply b ≡ refused r
  check_broken e = reply_by _ (refusal_last ∙ or_else_refused (rule9 b) e)

  -- rule 9 is tried after them
  pub check_nine : first_rules b ≡ None → longest_hyperperiod < hyperperiod (decode b)
      → check_reply b ≡ refused (refusal 9 0 0)
  check_nine e l =
      reply_by _ (refusal_last ∙ or_else_clear (rule9 b) e
      ∙ ap (λ t. unless t (refusal 9 0 0)) (lt-leb (hyperperiod (decode b)) longest_hyperperiod l))

  -- and one that breaks none of the nine is accepted
  pub check_accepts : first_rules b ≡ None → hyperperiod (decode b) ≤ longest_hyperperiod
      → check_reply b ≡ answer 0 (machine_count b ∷ hyperperiod (decode b) ∷ [])
  check_accepts e l =
      reply_by _ (refusal_last ∙ or_else_clear (rule9 b) e
      ∙ ap (λ t. unless t (refusal 9 0 0)) (le-leb (hyperperiod (decode b)) longest_hyperperiod l))

-- a sheet that no rule refuses is accepted, with all that this gives
pub not_refused : (b : List ℕ) → refusal_of b ≡ None → IsAccepted b
not_refused b e =
    let (trailer, from5) = or_else_none (trailer_rules b) _ (by_trailer b ∙ e) in
    let (five, from6) = or_else_none (rule5 b) _ from5 in
    let (six, from7) = or_else_none (rule6 b) _ from6 in
    let (seven, from8) = or_else_none (rule7 b) _ from7 in
    let (eight, nine) = or_else_none (rule8 b) (rule9 b) from8 in
    all_kept b (sym trailer) (sym five) (sym six) (sym seven) (sym eight) (sym nine)

-- what an answer of `check` tells
module _ (b : List ℕ) where
  -- that a sheet is refused: it has that refusal, the first of the rules that it breaks
  pub refused_so : {r : Result Accepted Reason} {x : Reason} → paper r ≡ check_reply b → r ≡ Err x
      → refusal_of b ≡ Some (refusal_for x)
  refused_so {r} {x} p e = cases (refusal_of b) refl
    where
      cases : (y : Option Refusal) → refusal_of b ≡ y → refusal_of b ≡ Some (refusal_for x)
      cases None q =
          let d : refused (refusal_for x) ≡ answer 0 (machine_count b ∷ hyperperiod (decode b) ∷ []) =
          sym (ap paper e) ∙ p ∙ reply_by b None q in
          absurd cc
      cases (Some y) q =
          let d : refused (refusal_for x) ≡ refused y = sym (ap paper e) ∙ p ∙ reply_by b (Some y) q in
          let z : y ≡ refusal_for x = cc in
          q ∙ ap Some z

  -- that it is accepted: no rule refuses it, and it has that count and that hyperperiod
  pub accepted_so : {r : Result Accepted Reason} {a : Accepted} → paper r ≡ check_reply b → r ≡ Ok a
      → (refusal_of b ≡ None) × Counted b a.machines a.hyperperiod
  accepted_so {r} {a} p e = cases (refusal_of b) refl
    where
      cases : (y : Option Refusal) → refusal_of b ≡ y → (refusal_of b ≡ None) × Counted b a.machines a.hyperperiod
      cases None q =
          let d : answer 0 (a.machines ∷ a.hyperperiod ∷ []) ≡
          answer 0 (machine_count b ∷ hyperperiod (decode b) ∷ []) =
          sym (ap paper e) ∙ p ∙ ap (λ y. y otherwise answer 0 (machine_count b ∷ hyperperiod (decode b) ∷ [])) q in
          (q, record { accepted = not_refused b q; count = cc; period = cc })
      cases (Some y) q =
          let d : answer 0 (a.machines ∷ a.hyperperiod ∷ []) ≡ refused y =
          sym (ap paper e) ∙ p ∙ ap (λ y. y otherwise answer 0 (machine_count b ∷ hyperperiod (decode b) ∷ [])) q in
          absurd cc

-- no second result satisfies the contract of `check`
pub check_unique : (b : List ℕ) (r s : Result Accepted Reason) → paper r ≡ check_reply b → paper s ≡ check_reply b
    → r ≡ s
check_unique b = checked_unique
