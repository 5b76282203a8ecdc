-- Document 01, "Verdict": the closing length, the lengths that pass, and the judgement of a sheet's machines.
use Rattle.std.specs.Prelude.{ℕ, zero, suc, pred, ◌+◌, Bool, not, List, leb, length}
use Rattle.std.specs.Prelude.{Option, None, Some, unwrap_or}
use Rattle.model.specs.Limits.{longest_window}
use Rattle.model.specs.Machine.{Machine, machine_of, hyperperiod}
use Rattle.model.specs.Reckon.{request, demand}
use Rattle.model.specs.Search.{first_of, smallest, is_found}

-- f 0 to f (i - 1), added
unfoldable pub added : ℕ → (ℕ → ℕ) → ℕ
added zero f = 0
added (suc i) f = added i f + f i

-- the request bounds of [s, s + n), added over machines 0 to i - 1
abbrev pub requests : List Machine → ℕ → ℕ → ℕ → ℕ
requests ms i s n = added i (λ j. request (machine_of ms j) s n)

-- the request bounds of [s, s + n), added over machines 0 to i, are at most n
unfoldable pub closes : List Machine → ℕ → ℕ → ℕ → Bool
closes ms i s n = leb (requests ms (suc i) s n) n

-- the smallest n from 1 to 2,048 for which they are
unfoldable pub closing_length : List Machine → ℕ → ℕ → Option ℕ
closing_length ms i s = smallest 1 longest_window (closes ms i s)

-- lengths are tested up to but not including the closing length, or up to and including 2,048 if there is none
abbrev pub last_tested : Option ℕ → ℕ
last_tested None = longest_window
last_tested (Some closing) = pred closing

-- m has: the demand bound of machine i over [s, s + n], plus the request bounds over [s, s + m) of machines 0 to i - 1,
-- is at most m
unfoldable pub has_room : List Machine → ℕ → ℕ → ℕ → ℕ → Bool
has_room ms i s n m = leb (demand (machine_of ms i) s n + requests ms i s m) m

-- length n passes if some m from 0 to n has that
unfoldable pub passes : List Machine → ℕ → ℕ → ℕ → Bool
passes ms i s n = is_found (smallest 0 n (has_room ms i s n))

-- the smallest of the tested lengths that does not pass
unfoldable pub failing_length : List Machine → ℕ → ℕ → Option ℕ
failing_length ms i s = smallest 1 (last_tested (closing_length ms i s)) (λ n. not (passes ms i s n))

-- Late: machine, start, smallest failing length, and the demand bound there; Open: machine, start
pub data Judgement : Type 0 where
  Fits : Judgement
  Late : (machine start length demand : ℕ) → Judgement
  Open : (machine start : ℕ) → Judgement

-- what machine i and start s give, by their failing length and their closing length
abbrev pub given : List Machine → ℕ → ℕ → Option ℕ → Option ℕ → Option Judgement
given ms i s (Some n) closing = Some (Late i s n (demand (machine_of ms i) s n))
given ms i s None None = Some (Open i s)
given ms i s None (Some closing) = None

unfoldable pub gives : List Machine → ℕ → ℕ → Option Judgement
gives ms i s = given ms i s (failing_length ms i s) (closing_length ms i s)

-- for machine i the starts 0 to H - 1 in order
unfoldable pub machine_gives : List Machine → ℕ → Option Judgement
machine_gives ms i = first_of (gives ms i) 0 (hyperperiod ms)

-- machines in order: the first that one gives, and if nothing is given, Fits
unfoldable pub verdict : List Machine → Judgement
verdict ms = unwrap_or (first_of (machine_gives ms) 0 (length ms)) Fits
