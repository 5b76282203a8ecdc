-- Document 01, "The critical sequence of a window" and "Numbered replies": what `critical` replies, and the lent words
-- afterwards.
use Rattle.std.specs.Prelude.{ℕ, zero, suc, ◌-◌, ◌*◌, List, [], ◌∷◌, length, get_or, drop}
use Rattle.std.specs.Prelude.{Option}
use Rattle.model.specs.Limits.{longest_window}
use Rattle.model.specs.Machine.{Machine, machine_of}
use Rattle.model.specs.Legal.{Pair}
use Rattle.model.specs.Reckon.{pair}
use Rattle.model.specs.Critical.{IsCritical, critical}
use Rattle.reply.specs.declared.Refusal.{Refusal}
use Rattle.reply.specs.Reply.{Reply, answer, ◌or_else◌, ◌otherwise◌}
use Rattle.reply.specs.Lent.{rule12, in_front, unless_refused}
use Rattle.sheet.specs.Format.{decode}
use Rattle.window.specs.Window.{question_refusal}

-- the critical sequence of [s, f) of machine i of sheet b
unfoldable pub sequence_of : List ℕ → ℕ → ℕ → ℕ → List Pair
sequence_of b i s f = critical (machine_of (decode b) i) s (f - s)

-- two words a pair (action, instant)
unfoldable pub words_of : List Pair → List ℕ
words_of [] = []
words_of (p ∷ σ) = p.action ∷ p.instant ∷ words_of σ

-- the words of the longest sequence: at most one pair for each tick
abbrev pub longest_words : ℕ
longest_words = 2 * longest_window

-- the refusal of a question about machine i of sheet b and [s, f), if there is one: two words a pair are needed
unfoldable pub critical_refusal : List ℕ → ℕ → ℕ → ℕ → ℕ → Option Refusal
critical_refusal b i s f lent = question_refusal b i s f or_else rule12 (2 * length (sequence_of b i s f)) lent

-- where `words` are lent: the number of pairs
abbrev pub critical_reply : List ℕ → ℕ → ℕ → ℕ → List ℕ → Reply
critical_reply b i s f words =
    critical_refusal b i s f (length words) otherwise answer 0 (length (sequence_of b i s f) ∷ [])

-- the lent words afterwards: the pairs, and words beyond as they were; a refused call writes nothing
abbrev pub critical_words : List ℕ → ℕ → ℕ → ℕ → List ℕ → List ℕ
critical_words b i s f words =
    unless_refused (critical_refusal b i s f (length words)) (in_front (words_of (sequence_of b i s f)) words) words

-- the n pairs with which words begin
unfoldable pub pairs_in : ℕ → List ℕ → List Pair
pairs_in zero words = []
pairs_in (suc n) words = pair (get_or words 0 0) (get_or words 1 0) ∷ pairs_in n (drop 2 words)

-- the words begin with n pairs, and these are the critical sequence
abbrev pub HoldsCritical : Machine → ℕ → ℕ → List ℕ → ℕ → Type 0
HoldsCritical m s f words n = IsCritical m s f (pairs_in n words)
