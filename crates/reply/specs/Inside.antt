-- What the contracts of inner functions cite, and no reader has to believe.
use Rattle.std.specs.Prelude.{Option, None, Some, Result, Ok, Err}
use Rattle.reply.specs.declared.Refusal.{Refusal}
use Rattle.reply.specs.declared.Reason.{Reason}
use Rattle.reply.specs.Reply.{refusal_for}

-- the refusal of a result, if it is one
abbrev pub refused_by : {A : Type 0} → Result A Reason → Option Refusal
refused_by (Ok _) = None
refused_by (Err r) = Some (refusal_for r)
