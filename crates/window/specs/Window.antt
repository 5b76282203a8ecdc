-- Document 01, "Windows" and "Numbered replies": what may be asked about a machine and a window.
use Rattle.std.specs.Prelude.{ℕ, ◌+◌, Bool, ◌&&◌, List, leb, ltb}
use Rattle.std.specs.Prelude.{Option}
use Rattle.model.specs.Limits.{longest_window, last_tick}
use Rattle.reply.specs.declared.Refusal.{Refusal}
use Rattle.reply.specs.Reply.{refusal, unless, ◌or_else◌}
use Rattle.sheet.specs.Format.{machine_count}
use Rattle.rules.specs.Check.{refusal_of}

-- s at most f, f minus s at most 2,048, f at most 1,000,000
abbrev pub window_in_range : ℕ → ℕ → Bool
window_in_range s f = leb s f && leb f (s + longest_window) && leb f last_tick

-- 10: machine asked for is not in the sheet
abbrev pub rule10 : List ℕ → ℕ → Option Refusal
rule10 b i = unless (ltb i (machine_count b)) (refusal 10 0 0)

-- 11: window breaks a rule
abbrev pub rule11 : ℕ → ℕ → Option Refusal
rule11 s f = unless (window_in_range s f) (refusal 11 0 0)

-- the refusal of a question about machine i of sheet b and the window from s to f, if there is one: 1 to 9, 10, 11
unfoldable pub question_refusal : List ℕ → ℕ → ℕ → ℕ → Option Refusal
question_refusal b i s f = refusal_of b or_else rule10 b i or_else rule11 s f
