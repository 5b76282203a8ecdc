-- The program `ask`: the text of the answer to a question.
use Rattle.std.specs.Prelude.{ℕ, List, [], ◌∷◌, ◌++◌, replicate}
use Rattle.std.specs.Prelude.{Option, None, Some}
use Rattle.std.specs.List.{flat_map}
use Rattle.model.specs.Machine.{machine_of}
use Rattle.model.specs.Legal.{Pair}
use Rattle.reply.specs.declared.Refusal.{Refusal}
use Rattle.reply.specs.declared.Kind.{Kind}
use Rattle.reply.specs.declared.Kind.TheVariants.{Request, Demand, Table, Critical, Plain}
use Rattle.reply.specs.declared.Question.{Question}
use Rattle.reply.specs.Reply.{Reply, answer, refused}
use Rattle.sheet.specs.Format.{decode}
use Rattle.bounds.specs.Bounds.{request_reply, demand_reply}
use Rattle.bounds.specs.Table.{request_table, table_reply}
use Rattle.plain.specs.Plain.{plain_reply}
use Rattle.critical.specs.Critical.{longest_words, sequence_of, critical_reply}
use Rattle.text.specs.Text.{number_line, refused_line}

-- numbers, one a line
abbrev pub number_lines : List ℕ → List ℕ
number_lines ns = flat_map (λ n. number_line n []) ns

-- a line `action instant` for each pair
abbrev pub pair_lines : List Pair → List ℕ
pair_lines σ = flat_map (λ p. number_line p.action (p.instant ∷ [])) σ

-- a refusal prints as in `fit`; an answer prints its figures, one a line, and what goes with them
abbrev pub reply_text : Reply → List ℕ → List ℕ
reply_text (refused r) more = refused_line r
reply_text (answer number figures) more = number_lines figures ++ more

-- the refusal that a reply is, if it is one
abbrev pub refusal_in : Reply → Option Refusal
refusal_in (refused r) = Some r
refusal_in (answer number figures) = None

-- the words that `ask` lends: enough for the longest table and the longest critical sequence
abbrev pub lent : List ℕ
lent = replicate longest_words 0

-- the reply about machine i of sheet b and the window from s to f
abbrev pub answer_reply : Kind → List ℕ → ℕ → ℕ → ℕ → Reply
answer_reply Request b i s f = request_reply b i s f
answer_reply Demand b i s f = demand_reply b i s f
answer_reply Plain b i s f = plain_reply b i s f
answer_reply Table b i s n = table_reply b i s n lent
answer_reply Critical b i s f = critical_reply b i s f lent

-- what goes with its figures: the words of a table, the pairs of a critical sequence
abbrev pub written : Kind → List ℕ → ℕ → ℕ → ℕ → List ℕ
written Request b i s f = []
written Demand b i s f = []
written Plain b i s f = []
written Table b i s n = number_lines (request_table (machine_of (decode b) i) s n)
written Critical b i s f = pair_lines (sequence_of b i s f)

-- its text, and the refusal that it prints, if it prints one
abbrev pub answer_text : Kind → List ℕ → ℕ → ℕ → ℕ → List ℕ
answer_text kind b i s f = reply_text (answer_reply kind b i s f) (written kind b i s f)

abbrev pub answer_refusal : Kind → List ℕ → ℕ → ℕ → ℕ → Option Refusal
answer_refusal kind b i s f = refusal_in (answer_reply kind b i s f)

-- the same of a question
abbrev pub ask_text : List ℕ → Question → List ℕ
ask_text b q = answer_text q.kind b q.machine q.from q.to

abbrev pub ask_refusal : List ℕ → Question → Option Refusal
ask_refusal b q = answer_refusal q.kind b q.machine q.from q.to
