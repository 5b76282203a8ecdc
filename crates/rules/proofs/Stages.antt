-- The rules one after another: what is known at each, where those before it refuse nothing, and that a refusal is the
-- sheet's.
use Prim.Native.Nat.{ℕ}
use mathlib.Core.Path.{◌≡◌, refl, sym, ◌∙◌, ap}
use mathlib.Core.List.{List}
use Rattle.std.specs.Prelude.{Option, None, Some, Result, Ok, Err, IsErrAnd}
use borrow.Author.Tests.{le-leb, lt-leb}
use Rattle.model.specs.Limits.{longest_hyperperiod}
use Rattle.model.specs.Machine.{hyperperiod}
use Rattle.reply.specs.declared.Reason.{Reason}
use Rattle.reply.specs.declared.Refusal.{Refusal}
use Rattle.reply.specs.Reply.{refusal, refusal_for, unless, ◌or_else◌}
use Rattle.reply.specs.Inside.{refused_by}
use Rattle.reply.proofs.Refusals.{or_else_none, or_else_refused, or_else_clear}
use Rattle.sheet.specs.Format.{machine_count, decode}
use Rattle.sheet.specs.Inside.{TrailerKept, EntriesKept, OffsetsKept, PeriodsKept, Counted, Accepted as IsAccepted}
use Rattle.rules.specs.Rules.{rule1, rule2, rule3, rule4, rule5, rule6, rule7, rule8, rule9}
use Rattle.rules.specs.Check.{refusal_of}
use Rattle.rules.specs.Inside.{trailer_rules, limited}
use Rattle.rules.proofs.Limited.{limited_some, limited_none}
use Rattle.rules.proofs.Accepted.{trailer_so, entries_so, offsets_so, periods_so, accepted}

four_first : (a b c d e : Option Refusal)
    → (a or_else b or_else c or_else d) or_else e ≡ a or_else b or_else c or_else d or_else e
four_first (Some r) b c d e = refl
four_first None (Some r) c d e = refl
four_first None None (Some r) d e = refl
four_first None None None d e = refl

-- `?` passes on what refuses
pub passed_on : {A : Type 0} (r : Result A Reason) (e : Reason) (x : Option Refusal) → IsErrAnd r (λ y. y ≡ e)
    → Some (refusal_for e) ≡ x → refused_by r ≡ x
passed_on (Ok a) e x h refused = absurd h
passed_on (Err y) e x h refused = ap (λ e. Some (refusal_for e)) h ∙ refused

module _ (b : List ℕ) where
  pub trailer_rules_so : None ≡ trailer_rules b → TrailerKept b
  trailer_rules_so e =
      let (one, rest) = or_else_none (rule1 b) _ (sym e) in
      let (two, more) = or_else_none (rule2 b) _ rest in
      let (three, four) = or_else_none (rule3 b) _ more in
      trailer_so b one three four

  pub by_trailer : trailer_rules b or_else rule5 b or_else rule6 b or_else rule7 b or_else rule8 b or_else rule9 b
      ≡ refusal_of b
  unfolding refusal_of
  by_trailer = four_first (rule1 b) (rule2 b) (rule3 b) (rule4 b) _

  pub trailer_refuses : {r : Refusal} → Some r ≡ trailer_rules b → Some r ≡ refusal_of b
  trailer_refuses e = sym (or_else_refused _ (sym e)) ∙ by_trailer

module _ (b : List ℕ) (trailer : None ≡ trailer_rules b) where
  from_five : rule5 b or_else rule6 b or_else rule7 b or_else rule8 b or_else rule9 b ≡ refusal_of b
  from_five = sym (or_else_clear _ (sym trailer)) ∙ by_trailer b

  pub five_refuses : {r : Refusal} → Some r ≡ rule5 b → Some r ≡ refusal_of b
  five_refuses e = sym (or_else_refused _ (sym e)) ∙ from_five

  module _ (five : None ≡ rule5 b) where
    from_six : rule6 b or_else rule7 b or_else rule8 b or_else rule9 b ≡ refusal_of b
    from_six = sym (or_else_clear _ (sym five)) ∙ from_five

    pub six_refuses : {r : Refusal} → Some r ≡ rule6 b → Some r ≡ refusal_of b
    six_refuses e = sym (or_else_refused _ (sym e)) ∙ from_six

    pub entries_kept : EntriesKept b
    entries_kept = entries_so b (trailer_rules_so b trailer) (sym five)

    module _ (six : None ≡ rule6 b) where
      from_seven : rule7 b or_else rule8 b or_else rule9 b ≡ refusal_of b
      from_seven = sym (or_else_clear _ (sym six)) ∙ from_six

      pub seven_refuses : {r : Refusal} → Some r ≡ rule7 b → Some r ≡ refusal_of b
      seven_refuses e = sym (or_else_refused _ (sym e)) ∙ from_seven

      pub offsets_kept : OffsetsKept b
      offsets_kept = offsets_so b entries_kept (sym six)

      module _ (seven : None ≡ rule7 b) where
        from_eight : rule8 b or_else rule9 b ≡ refusal_of b
        from_eight = sym (or_else_clear _ (sym seven)) ∙ from_seven

        pub eight_refuses : {r : Refusal} → Some r ≡ rule8 b → Some r ≡ refusal_of b
        eight_refuses e = sym (or_else_refused _ (sym e)) ∙ from_eight

        pub periods_kept : PeriodsKept b
        periods_kept = periods_so b offsets_kept (sym seven)

        module _ (eight : None ≡ rule8 b) where
          nine_decides : rule9 b ≡ refusal_of b
          nine_decides = sym (or_else_clear _ (sym eight)) ∙ from_eight

          pub nine_refuses : None ≡ limited (hyperperiod (decode b)) → Some (refusal 9 0 0) ≡ refusal_of b
          nine_refuses e =
              let above = limited_none (hyperperiod (decode b)) e in
              sym (ap (λ t. unless t (refusal 9 0 0)) (lt-leb _ longest_hyperperiod above)) ∙ nine_decides

          pub all_kept : None ≡ rule9 b → IsAccepted b
          all_kept nine = accepted b periods_kept (sym seven) (sym eight) (sym nine)

          module _ (h : ℕ) (limit : Some h ≡ limited (hyperperiod (decode b))) where
            nine : None ≡ rule9 b
            nine =
                let (same, within) = limited_some (hyperperiod (decode b)) limit in
                sym (ap (λ t. unless t (refusal 9 0 0)) (le-leb _ longest_hyperperiod (rw same at within)))

            pub none_refuses : None ≡ refusal_of b
            none_refuses = nine ∙ nine_decides

            pub all_counted : (machines : ℕ) → machines ≡ machine_count b → Counted b machines h
            all_counted machines e =
                record {
                  accepted = all_kept nine;
                  count = e;
                  period = (limited_some (hyperperiod (decode b)) limit).0;
                }

pub ruleset stages = (passed_on, trailer_refuses, five_refuses, nine_refuses, entries_kept, offsets_kept, periods_kept)
