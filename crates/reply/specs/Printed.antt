-- Text in lent bytes: where it goes, what they then hold, and the refusal that it prints.
use Rattle.std.specs.Prelude.{ℕ, cond, List, ◌++◌, leb, length, drop, Option, None, Some}
use Rattle.reply.specs.declared.Refusal.{Refusal}
use Rattle.reply.specs.declared.Reason.{Reason}
use Rattle.reply.specs.Reply.{refusal_for}

-- a text goes to the start of the lent bytes, where there are `room` of them at least: how many it takes
abbrev pub printed_length : ℕ → List ℕ → List ℕ → ℕ
printed_length room text out = cond (leb room (length out)) (length text) 0

-- what they then hold
abbrev pub printed : ℕ → List ℕ → List ℕ → List ℕ
printed room text out = cond (leb room (length out)) (text ++ drop (length text) out) out

-- the refusal for the reason that is handed back, if one is
abbrev pub handed : Option Reason → Option Refusal
handed None = None
handed (Some r) = Some (refusal_for r)

-- the refusal that the text prints, if it prints one
abbrev pub printed_refusal : ℕ → Option Refusal → List ℕ → Option Refusal
printed_refusal room x out = cond (leb room (length out)) x None
