-- The tests of rules 1 to 8, as the code reckons them and as facts.
use Prim.Native.Nat.{ℕ, ◌+◌, ◌-◌, ◌*◌, ◌≤◌, ◌<◌}
use mathlib.Core.Path.{◌≡◌, refl, sym, ◌∙◌, ap, ap₂}
use mathlib.Core.Bool.{Bool, true, ◌&&◌, false≢true}
use mathlib.Core.List.{List, [], ◌∷◌}
use Rattle.std.specs.Prelude.{None, Some}
use native.Mathlib.Omega.{arith}
use native.Mathlib.Numerals.{add-one}
use lib.Dec.{leb, ltb, eqb}
use lib.ListN.{length, take, drop, length-drop}
use lib.Pointwise.{pointwise}
use lib.Seq.{take_all}
use borrow.Author.Tests.{leb-true, eqb-true, eq-eqb}
use Rattle.model.specs.Machine.{Machine, count, machine_of}
use Rattle.model.specs.Sizes.{Between}
use Rattle.model.proofs.Tests.{both_true, test_same}
use Rattle.sheet.specs.declared.fields.EntryBytes.{EntryBytes}
use Rattle.reply.specs.Reply.{refusal}
use Rattle.reply.proofs.Refusals.{equal_broken, equal_kept}
use Rattle.sheet.specs.Format.{actions_before, action_size, entry}
use Rattle.sheet.specs.Format.{trailer_offset, machine_count, last_four, sfs1, decode}
use Rattle.sheet.proofs.Decode.{decode_machine, decode_actions}
use Rattle.rules.specs.Rules.{between, same, entry_in_range, offset_refusal, end_refusal}

pub between_true : (low high n : ℕ) → between low high n ≡ true → Between low high n
between_true low high n e =
    let (a, b) = both_true (leb low n) (leb n high) e in
    (leb-true low n a, leb-true n high b)

eqb_comm : (x y : ℕ) → eqb x y ≡ eqb y x
eqb_comm x y =
    test_same (eqb x y) (eqb y x)
    (λ e. eq-eqb y x (sym (eqb-true x y e)), λ e. eq-eqb x y (sym (eqb-true y x e)))

-- as std compares slices
pub same_pointwise : (xs ys : List ℕ) → pointwise eqb ys xs ≡ same xs ys
unfolding same
same_pointwise [] [] = refl
same_pointwise [] (y ∷ ys) = refl
same_pointwise (x ∷ xs) [] = refl
same_pointwise (x ∷ xs) (y ∷ ys) = ap₂ ◌&&◌ (eqb_comm y x) (same_pointwise xs ys)

same_equal : (xs ys : List ℕ) → same xs ys ≡ true → xs ≡ ys
unfolding same
same_equal [] [] e = refl
same_equal [] (y ∷ ys) e = absurd (false≢true e)
same_equal (x ∷ xs) [] e = absurd (false≢true e)
same_equal (x ∷ xs) (y ∷ ys) e =
    let (a, b) = both_true (eqb x y) (same xs ys) e in
    ap₂ ◌∷◌ (eqb-true x y a) (same_equal xs ys b)

same_self : (xs : List ℕ) → same xs xs ≡ true
unfolding same
same_self [] = refl
same_self (x ∷ xs) = ap₂ ◌&&◌ (eq-eqb x x refl) (same_self xs)

-- whatever tells whether two lists are equal
pub same_test : (xs ys : List ℕ) (r : Bool) → (r ≡ true → xs ≡ ys) × (xs ≡ ys → r ≡ true) → r ≡ same xs ys
same_test xs ys r (there, back) =
    test_same r (same xs ys) (λ e. rw (there e) (same_self ys), λ e. back (same_equal xs ys e))

-- the last four bytes, taken as a part to the very end
pub sfs1_same : (b : List ℕ) (r : Bool) → 4 ≤ length b
    → (r ≡ true → take (length b - (length b - 4)) (drop (length b - 4) b) ≡ sfs1)
    × (take (length b - (length b - 4)) (drop (length b - 4) b) ≡ sfs1 → r ≡ true)
    → r ≡ same (last_four b) sfs1
sfs1_same b r l h =
    let rest = length b - (length b - 4) in
    let whole : take rest (last_four b) ≡ last_four b = take_all rest (last_four b) (simp length-drop (omega arith)) in
    rw whole at (same_test (take rest (last_four b)) sfs1 r h)

-- an entry's test, by the fields that are read of it
pub entry_test : (b : List ℕ) (k : ℕ) → k < machine_count b → (s i a z : ℕ) (p q : Bool)
    → s ≡ (machine_of (decode b) k).states → i ≡ (machine_of (decode b) k).initial
    → a ≡ count (machine_of (decode b) k) → z ≡ (entry b k).zero_byte → p ≡ between 1 16 s → q ≡ between 1 32 a
    → p && ltb i s && q && eqb z 0 ≡ entry_in_range (entry b k)
entry_test b k known s i a z p q es ei ea ez ep eq =
    let fs : s ≡ (entry b k).states = es ∙ ap (λ (m : Machine). m.states) (decode_machine b k known) in
    let fi : i ≡ (entry b k).initial = ei ∙ ap (λ (m : Machine). m.initial) (decode_machine b k known) in
    let fa : a ≡ (entry b k).actions = ea ∙ decode_actions b k known in
    ap₂ ◌&&◌ (ap₂ ◌&&◌ (ap₂ ◌&&◌ (ep ∙ ap (between 1 16) fs) (ap₂ ltb fi fs)) (eq ∙ ap (between 1 32) fa))
    (ap (λ (x : ℕ). eqb x 0) ez)

-- rule 6 at an entry, by the place where its actions should begin, and where those of the next begin
module _ (b : List ℕ) (k : ℕ) {begin : ℕ} {bytes : EntryBytes} (begins : begin ≡ action_size * actions_before b k)
    (read : bytes ≡ entry b k) where
  offset : bytes.offset ≡ (entry b k).offset
  offset = ap (λ (x : EntryBytes). x.offset) read

  pub offset_broken : (bytes.offset ≡ begin → ⊥) → offset_refusal b k ≡ Some (refusal 6 k 0)
  offset_broken n = equal_broken _ _ _ (λ e. n (offset ∙ e ∙ sym begins))

  pub offset_kept : bytes.offset ≡ begin → offset_refusal b k ≡ None
  offset_kept e = equal_kept _ _ _ (sym offset ∙ e ∙ begins)

  pub begin_next : begin + action_size * bytes.actions ≡ action_size * actions_before b (k + 1)
  unfolding actions_before
  begin_next = rw add-one (omega (arith, ap (λ (x : EntryBytes). x.actions) read))

-- after the last machine the actions end, at t or not
module _ (b : List ℕ) {machines k begin t : ℕ} (counted : machines ≡ machine_count b) (last : k ≡ machines)
    (ends : begin ≡ action_size * actions_before b k) (trailer : t ≡ trailer_offset b) where
  at_end : begin ≡ action_size * actions_before b (machine_count b)
  at_end = ends ∙ ap (λ i. action_size * actions_before b i) (last ∙ counted)

  pub end_broken : (begin ≡ t → ⊥) → end_refusal b (machine_count b) ≡ Some (refusal 6 machines 0)
  end_broken n =
      equal_broken _ _ _ (λ e. n (at_end ∙ sym e ∙ sym trailer)) ∙ ap (λ i. Some (refusal 6 i 0)) (sym counted)

  pub end_kept : begin ≡ t → end_refusal b (machine_count b) ≡ None
  end_kept e = equal_kept _ _ _ (sym trailer ∙ sym e ∙ at_end)
