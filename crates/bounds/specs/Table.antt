-- Document 01, "The request table for s and N" and "Numbered replies": what `table` replies, and the lent words
-- afterwards.
use Rattle.std.specs.Prelude.{ℕ, ◌+◌, ◌≤◌, List, [], map, length, get_or, Option}
use Rattle.std.specs.List.{range_with_len}
use Rattle.model.specs.Machine.{Machine, machine_of}
use Rattle.model.specs.Legal.{IsRequestBound}
use Rattle.model.specs.Reckon.{request}
use Rattle.reply.specs.declared.Refusal.{Refusal}
use Rattle.reply.specs.Reply.{Reply, answer, ◌or_else◌, ◌otherwise◌}
use Rattle.reply.specs.Lent.{rule12, in_front, unless_refused}
use Rattle.sheet.specs.Format.{decode}
use Rattle.window.specs.Window.{question_refusal}

-- the request table for s and n: the request bound of [s, s + k) for k from 0 to n
abbrev pub request_table : Machine → ℕ → ℕ → List ℕ
request_table m s n = map (request m s) (range_with_len 0 (n + 1))

-- the refusal of a question about machine i of sheet b and [s, s + n], if there is one: a table needs n + 1 words
unfoldable pub table_refusal : List ℕ → ℕ → ℕ → ℕ → ℕ → Option Refusal
table_refusal b i s n lent = question_refusal b i s (s + n) or_else rule12 (n + 1) lent

-- where `words` are lent
abbrev pub table_reply : List ℕ → ℕ → ℕ → ℕ → List ℕ → Reply
table_reply b i s n words = table_refusal b i s n (length words) otherwise answer 0 []

-- the lent words with the table of machine i of sheet b
abbrev pub with_table : List ℕ → ℕ → ℕ → ℕ → List ℕ → List ℕ
with_table b i s n words = in_front (request_table (machine_of (decode b) i) s n) words

-- the lent words afterwards, by the refusal of the call
abbrev pub table_words : List ℕ → ℕ → ℕ → ℕ → List ℕ → List ℕ
table_words b i s n words = unless_refused (table_refusal b i s n (length words)) (with_table b i s n words) words

-- word k is the request bound of [s, s + k), for k from 0 to n
abbrev pub HoldsBounds : Machine → ℕ → ℕ → List ℕ → Type 0
HoldsBounds m s n words = (k : ℕ) → k ≤ n → IsRequestBound m s (s + k) (get_or words k 0)
