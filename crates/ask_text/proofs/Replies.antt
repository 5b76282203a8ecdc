-- The text of `ask`, from the answers of the calls that it prints.
use Prim.Native.Nat.{ℕ, zero, suc, ◌+◌, ◌*◌, ◌≤◌}
use mathlib.Core.Path.{◌≡◌, refl, sym, ◌∙◌, ap, ap₂}
use mathlib.Core.List.{List, [], ◌∷◌, ◌++◌, append_assoc, append-nil}
use native.Mathlib.Omega.{arith}
use lib.ListN.{length, take, drop}
use lib.Seq.{take_at}
use Rattle.std.specs.Simd.{first_chunks}
use Rattle.std.proofs.lemmas.List.FromFn.{length-map-range_with_len}
use Rattle.std.specs.Prelude.{Option, None, Some, Result, Ok, Err, ⊤}
use Rattle.reply.specs.declared.Kind.{Kind}
use Rattle.reply.specs.declared.Kind.TheVariants.{Table, Critical}
use Rattle.model.specs.Legal.{Pair}
use Rattle.model.specs.Machine.{machine_of}
use Rattle.reply.specs.declared.Printed.{Printed}
use Rattle.reply.specs.declared.Question.{Question}
use Rattle.reply.specs.declared.Reason.{Reason}
use Rattle.reply.specs.declared.Refusal.{Refusal}
use Rattle.reply.specs.Answer.{paper}
use Rattle.reply.specs.Inside.{refused_by}
use Rattle.reply.specs.Lent.{in_front, unless_refused}
use Rattle.reply.specs.Reply.{Reply, answer, refused, refusal_for, ◌otherwise◌}
use Rattle.reply.specs.Tabled.{paper as tabled_paper}
use Rattle.reply.proofs.Printing.{Promised, promised_unique}
use Rattle.reply.proofs.Refusals.{or_else_none, enough}
use Rattle.sheet.specs.Format.{decode}
use Rattle.window.specs.Window.{question_refusal}
use Rattle.bounds.specs.Table.{request_table, table_refusal, table_reply, table_words}
use Rattle.critical.specs.Critical.{sequence_of, words_of, pairs_in}
use Rattle.critical.specs.Critical.{critical_refusal, critical_reply, critical_words}
use Rattle.critical.proofs.Words.{words_pairs}
use Rattle.text.specs.Text.{number_line, refused_line}
use Rattle.ask_text.specs.Inside.{array_lines}
use Rattle.ask_text.specs.Ask.{number_lines, pair_lines, reply_text, refusal_in, lent}
use Rattle.ask_text.specs.Ask.{answer_reply, written, answer_text, answer_refusal, ask_text, ask_refusal}

-- one number is a line, and none is nothing
pub number_alone : (n : ℕ) → number_lines (n ∷ []) ≡ number_line n []
number_alone n = append-nil (number_line n [])

pub no_numbers : number_lines [] ≡ []
no_numbers = refl

-- the refusal of an answer
pub answer_refused : (r : Result ℕ Reason) → refusal_in (paper r) ≡ refused_by r
answer_refused (Ok v) = refl
answer_refused (Err r) = refl

pub tabled_refused : (r : Result ⊤ Reason) → refusal_in (tabled_paper r) ≡ refused_by r
tabled_refused (Ok _) = refl
tabled_refused (Err r) = refl

pub ruleset refusals = (answer_refused, tabled_refused)

-- an answer has no refusal behind it
answered : {n : ℕ} {figures : List ℕ} (m : ℕ) (others : List ℕ) (x : Option Refusal)
    → answer n figures ≡ x otherwise answer m others → (x ≡ None) × (figures ≡ others)
answered m others None e = (refl, cc)
answered m others (Some r) e = absurd (let z : ◌≡◌ {A = ℕ} 0 1 = cc in omega arith)

-- a reply that refuses prints its refusal and hands it back
pub refused_text : (more : List ℕ) {reply : Reply} {x : Refusal} → reply ≡ refused x
    → (reply_text reply more ≡ refused_line x) × (refusal_in reply ≡ Some x)
refused_text more e = rw e (refl, refl)

-- a figure, as the text of its answer
pub figure_put : (v : ℕ) → number_line v [] ≡ reply_text (paper (Ok v)) []
figure_put v = sym (append-nil (number_lines (v ∷ [])) ∙ number_alone v)

-- what `table` and `critical` reply, by what they answer
pub table_reply_lem : (b : List ℕ) (i s n : ℕ) (r : Result ⊤ Reason) → tabled_paper r ≡ table_reply b i s n lent
    → {x : Result ⊤ Reason} → r ≡ x → answer_reply Table b i s n ≡ tabled_paper x
table_reply_lem b i s n r says e = sym says ∙ ap tabled_paper e

pub critical_reply_lem : (b : List ℕ) (i s f : ℕ) (r : Result ℕ Reason) → paper r ≡ critical_reply b i s f lent
    → {x : Result ℕ Reason} → r ≡ x → answer_reply Critical b i s f ≡ paper x
critical_reply_lem b i s f r says e = sym says ∙ ap paper e

-- a reply that answers, as it is put into an empty text
pub answered_text : (more : List ℕ) {reply : Reply} {n : ℕ} {figures before after : List ℕ} → answer n figures ≡ reply
    → before ≡ [] → after ≡ before ++ (number_lines figures ++ more) → after ≡ reply_text reply more
answered_text more {figures = figures} e empty put =
    put ∙ ap (λ text. text ++ (number_lines figures ++ more)) empty ∙ ap (λ r. reply_text r more) e

module _ (b : List ℕ) (i s n : ℕ) (words : List ℕ) (says : answer 0 [] ≡ table_reply b i s n words) where
  table_kept : table_refusal b i s n (length words) ≡ None
  table_kept = (answered 0 [] _ says).0

  -- where `table` answers, the words have room for the table
  pub table_room : n + 1 ≤ length words
  unfolding table_refusal
  table_room = enough (n + 1) _ (or_else_none (question_refusal b i s (s + n)) _ table_kept).1

  -- and begin with it
  table_begins : {after : List ℕ} → after ≡ table_words b i s n words
      → take (n + 1) after ≡ request_table (machine_of (decode b) i) s n
  table_begins writes =
      let table = request_table (machine_of (decode b) i) s n in
      ap (take (n + 1)) (writes ∙ ap (λ x. unless_refused x (in_front table words) words) table_kept)
      ∙ take_at table (drop (length table) words) (n + 1) (length-map-range_with_len _ 0 (n + 1))

  -- all of it, and its lines are what is written
  pub table_taken : {after : List ℕ} → after ≡ table_words b i s n words → n + 1 ≡ length (take (n + 1) after)
  table_taken writes = sym (ap length (table_begins writes) ∙ length-map-range_with_len _ 0 (n + 1))

  pub lines : {after : List ℕ} → after ≡ table_words b i s n words
      → number_lines (take (n + 1) after) ≡ number_lines [] ++ written Table b i s n
  lines writes = ap number_lines (table_begins writes)

-- which makes the text
pub table_text : (b : List ℕ) (i s n : ℕ) {kind : Kind} {words before after : List ℕ} → kind ≡ Table
    → answer 0 [] ≡ table_reply b i s n lent → words ≡ table_words b i s n lent
    → before ≡ [] → after ≡ before ++ number_lines (take (n + 1) words) → after ≡ answer_text kind b i s n
table_text b i s n {before = before} k says writes empty put =
    rw k (answered_text (number_lines (request_table (machine_of (decode b) i) s n)) says empty
    (put ∙ ap (λ table. before ++ number_lines table) (table_begins b i s n lent says writes)))

-- the table's text and the refusal that it prints, by the answer
module _ (b : List ℕ) (i s n : ℕ) (r : Result ⊤ Reason) (says : tabled_paper r ≡ table_reply b i s n lent) where
  pub table_refused : {x : Reason} → r ≡ Err x
      → (answer_text Table b i s n ≡ refused_line (refusal_for x))
      × (answer_refusal Table b i s n ≡ Some (refusal_for x))
  table_refused e = refused_text (written Table b i s n) (table_reply_lem b i s n r says e)

  pub table_filled : {words : List ℕ} → r ≡ Ok tt → words ≡ table_words b i s n lent
      → (number_lines (take (n + 1) words) ≡ answer_text Table b i s n) × (answer_refusal Table b i s n ≡ None)
  table_filled e writes =
      let reply = table_reply_lem b i s n r says e in (
        lines b i s n lent (sym (ap tabled_paper e) ∙ says) writes
            ∙ sym (ap (λ y. reply_text y (written Table b i s n)) reply),
        ap refusal_in reply,
      )

-- the lines of a sequence's words, two by two
sequence_lines : (σ : List Pair) (rest : List ℕ) (k : ℕ) → length σ ≤ k
    → array_lines (take (length σ) (first_chunks 2 k (words_of σ ++ rest))) ≡ pair_lines σ
unfolding words_of
sequence_lines [] rest k l = refl
sequence_lines (p ∷ σ) rest zero l = absurd (omega arith)
sequence_lines (p ∷ σ) rest (suc k) l =
    ap (λ lines. number_line p.action (p.instant ∷ []) ++ lines) (sequence_lines σ rest k (omega arith))

module _ (b : List ℕ) (i s f : ℕ) (words : List ℕ) {number : ℕ}
    (says : answer 0 (number ∷ []) ≡ critical_reply b i s f words) where
  critical_found : (critical_refusal b i s f (length words) ≡ None) × (number ∷ [] ≡ length (sequence_of b i s f) ∷ [])
  critical_found = answered 0 _ _ says

  critical_counted : number ≡ length (sequence_of b i s f)
  critical_counted = let q = critical_found.1 in cc

  -- where `critical` answers, the words have room for the sequence
  pub critical_room : 2 * number ≤ length words
  unfolding critical_refusal
  critical_room =
      rw critical_counted (enough _ _ (or_else_none (question_refusal b i s f) _ critical_found.0).1)

  -- and begin with it
  critical_begins : {after : List ℕ} {k : ℕ} → after ≡ critical_words b i s f words → number ≤ k
      → array_lines (take number (first_chunks 2 k after)) ≡ pair_lines (sequence_of b i s f)
  critical_begins {after} writes l =
      let σ = sequence_of b i s f in
      let rest = drop (length (words_of σ)) words in
      let begins : after ≡ words_of σ ++ rest =
      writes ∙ ap (λ x. unless_refused x (in_front (words_of σ) words) words) critical_found.0 in
      rw (begins, critical_counted) (sequence_lines σ rest _ (omega (arith, critical_counted)))

  -- or, read as pairs
  critical_pairs : {after : List ℕ} → after ≡ critical_words b i s f words → pairs_in number after ≡ sequence_of b i s f
  critical_pairs writes =
      let σ = sequence_of b i s f in
      ap₂ pairs_in critical_counted
      (writes ∙ ap (λ x. unless_refused x (in_front (words_of σ) words) words) critical_found.0)
      ∙ words_pairs σ (drop (length (words_of σ)) words)

-- which makes the text
pub critical_text : (b : List ℕ) (i s f : ℕ) {number k : ℕ} {kind : Kind} {words before first after : List ℕ}
    {pairs : List (List ℕ)} → kind ≡ Critical
    → answer 0 (number ∷ []) ≡ critical_reply b i s f lent → words ≡ critical_words b i s f lent
    → before ≡ [] → first ≡ before ++ number_line number [] → pairs ≡ first_chunks 2 k words → number ≤ k
    → after ≡ first ++ array_lines (take number pairs) → after ≡ answer_text kind b i s f
critical_text b i s f {number} {before = before} {pairs = pairs} k says writes empty figure chunks room put =
    let σ = sequence_of b i s f in
    let lines : array_lines (take number pairs) ≡ pair_lines σ =
    rw chunks (critical_begins b i s f lent says writes room) in
    rw k (answered_text (pair_lines σ) says empty (put ∙ ap₂ ◌++◌ figure lines
    ∙ append_assoc before (number_line number []) (pair_lines σ)
    ∙ ap (λ line. before ++ (line ++ pair_lines σ)) (sym (append-nil (number_line number [])))))

-- its text and the refusal that it prints, by the answer
module _ (b : List ℕ) (i s f : ℕ) (r : Result ℕ Reason) (says : paper r ≡ critical_reply b i s f lent) where
  pub critical_refused : {x : Reason} → r ≡ Err x
      → (answer_text Critical b i s f ≡ refused_line (refusal_for x))
      × (answer_refusal Critical b i s f ≡ Some (refusal_for x))
  critical_refused e = refused_text (written Critical b i s f) (critical_reply_lem b i s f r says e)

  pub critical_filled : {number : ℕ} (words : List ℕ) → r ≡ Ok number → words ≡ critical_words b i s f lent
      → (number_line number [] ++ pair_lines (pairs_in number words) ≡ answer_text Critical b i s f)
      × (answer_refusal Critical b i s f ≡ None)
  critical_filled {number} words e writes =
      let reply = critical_reply_lem b i s f r says e in (
        ap₂ ◌++◌ (sym (number_alone number))
            (ap pair_lines (critical_pairs b i s f lent (sym (ap paper e) ∙ says) writes))
            ∙ sym (ap (λ y. reply_text y (written Critical b i s f)) reply),
        ap refusal_in reply,
      )

-- no second result and no second memory satisfy the contract of `ask`
pub ask_unique : (b : List ℕ) (asked : Question) (before : List ℕ) (r q : Printed) (after other : List ℕ)
    → Promised 65536 (ask_text b asked) (ask_refusal b asked) before r after
    → Promised 65536 (ask_text b asked) (ask_refusal b asked) before q other → (r ≡ q) × (after ≡ other)
ask_unique b asked = promised_unique 65536 (ask_text b asked) (ask_refusal b asked)
