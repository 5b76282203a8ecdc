-- Document 01, "Numbered replies": lent words, too few of them, and what they hold afterwards.
use Rattle.std.specs.Prelude.{ℕ, List, ◌++◌, leb, length, drop}
use Rattle.std.specs.Prelude.{Option, None, Some}
use Rattle.reply.specs.declared.Refusal.{Refusal}
use Rattle.reply.specs.Reply.{refusal, unless}

-- 12: lent output too short
abbrev pub rule12 : ℕ → ℕ → Option Refusal
rule12 needed lent = unless (leb needed lent) (refusal 12 0 0)

-- the lent words with others in front: words beyond stay as they were
abbrev pub in_front : List ℕ → List ℕ → List ℕ
in_front written words = written ++ drop (length written) words

-- the lent words afterwards: a refused call writes nothing
abbrev pub unless_refused : Option Refusal → List ℕ → List ℕ → List ℕ
unless_refused None after words = after
unless_refused (Some r) after words = words
