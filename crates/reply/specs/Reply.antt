-- Document 01, "Numbered replies": what a call replies, and refusals in their order.
use Rattle.std.specs.Prelude.{ℕ, Bool, true, false, List, Option, None, Some}
use Rattle.reply.specs.declared.Refusal.{Refusal}
use Rattle.reply.specs.declared.Reason.{Reason}
use Rattle.reply.specs.declared.Reason.TheVariants.{Length, LastFour, MachineCount, Trailer, Entry, Offset, Action}
use Rattle.reply.specs.declared.Reason.TheVariants.{Deadline, Hyperperiod, UnknownMachine, Window, ShortOutput}
use Rattle.reply.specs.declared.Reason.TheVariants.{ManyInstants}

-- a refusal: its number in the table, and its place
abbrev pub refusal : ℕ → ℕ → ℕ → Refusal
refusal n first second = record { number = n; first = first; second = second }

-- the refusal for each reason
abbrev pub refusal_for : Reason → Refusal
refusal_for Length = refusal 1 0 0
refusal_for LastFour = refusal 2 0 0
refusal_for MachineCount = refusal 3 0 0
refusal_for Trailer = refusal 4 0 0
refusal_for (Entry machine) = refusal 5 machine 0
refusal_for (Offset machine) = refusal 6 machine 0
refusal_for (Action machine action) = refusal 7 machine action
refusal_for (Deadline machine action) = refusal 8 machine action
refusal_for Hyperperiod = refusal 9 0 0
refusal_for UnknownMachine = refusal 10 0 0
refusal_for Window = refusal 11 0 0
refusal_for ShortOutput = refusal 12 0 0
refusal_for ManyInstants = refusal 14 0 0

-- what a call replies
pub data Reply : Type 0 where
  -- a proper result: its number in the table, 0 if it has none, and its figures
  answer : (number : ℕ) (figures : List ℕ) → Reply
  refused : Refusal → Reply

-- where the test fails, the refusal
abbrev pub unless : Bool → Refusal → Option Refusal
unless true r = None
unless false r = Some r

-- the earlier refusal, if there is one, or else the later
infixr 20 ◌or_else◌
abbrev pub ◌or_else◌ : Option Refusal → Option Refusal → Option Refusal
None or_else later = later
Some r or_else later = Some r

-- the refusal, or what a call answers where there is none
infixr 10 ◌otherwise◌
abbrev pub ◌otherwise◌ : Option Refusal → Reply → Reply
None otherwise reply = reply
Some r otherwise reply = refused r
