-- Document 01, "Numbered replies": rules 1 to 9, each over the entire sheet, with the first place that breaks it.
use Rattle.std.specs.Prelude.{ℕ, ◌+◌, ◌*◌, Bool, true, false, ◌&&◌, List, [], ◌∷◌, leb, ltb, eqb, length}
use Rattle.std.specs.Prelude.{Option}
use Rattle.model.specs.Limits.{longest_period, longest_time, longest_hyperperiod}
use Rattle.model.specs.declared.Action.{Action}
use Rattle.model.specs.Machine.{Machine, count, action_of, machine_of, divisor, hyperperiod}
use Rattle.model.specs.Search.{first_of}
use Rattle.reply.specs.declared.Refusal.{Refusal}
use Rattle.reply.specs.Reply.{refusal, unless, ◌or_else◌}
use Rattle.sheet.specs.declared.fields.EntryBytes.{EntryBytes}
use Rattle.sheet.specs.Format.{action_size, entry_size, entry, actions_before}
use Rattle.sheet.specs.Format.{trailer_offset, machine_count, last_four, sfs1, decode}

-- tests: from low to high, and the same bytes in the same order
abbrev pub between : ℕ → ℕ → ℕ → Bool
between low high n = leb low n && leb n high

unfoldable pub same : List ℕ → List ℕ → Bool
same [] [] = true
same [] (y ∷ ys) = false
same (x ∷ xs) [] = false
same (x ∷ xs) (y ∷ ys) = eqb x y && same xs ys

-- 1: length below 28 or above 2,124
abbrev pub rule1 : List ℕ → Option Refusal
rule1 b = unless (between 28 2124 (length b)) (refusal 1 0 0)

-- 2: last four bytes differ
abbrev pub rule2 : List ℕ → Option Refusal
rule2 b = unless (same (last_four b) sfs1) (refusal 2 0 0)

-- 3: machine count 0 or above 8
abbrev pub rule3 : List ℕ → Option Refusal
rule3 b = unless (between 1 8 (machine_count b)) (refusal 3 0 0)

-- 4: 12 + 8M exceeds the length, or the trailer's offset is wrong
abbrev pub trailer_in_range : List ℕ → Bool
trailer_in_range b =
    let tail = 12 + entry_size * machine_count b in
    leb tail (length b) && eqb (trailer_offset b + tail) (length b)

abbrev pub rule4 : List ℕ → Option Refusal
rule4 b = unless (trailer_in_range b) (refusal 4 0 0)

-- 5: an entry has states, initial state, actions or zero byte out of range
abbrev pub entry_in_range : EntryBytes → Bool
entry_in_range e =
    between 1 16 e.states && ltb e.initial e.states && between 1 32 e.actions && eqb e.zero_byte 0

abbrev pub entry_refusal : List ℕ → ℕ → Option Refusal
entry_refusal b k = unless (entry_in_range (entry b k)) (refusal 5 k 0)

abbrev pub rule5 : List ℕ → Option Refusal
rule5 b = first_of (entry_refusal b) 0 (machine_count b)

-- 6: an entry's offset is wrong, or actions do not end at the entries
abbrev pub offset_refusal : List ℕ → ℕ → Option Refusal
offset_refusal b k = unless (eqb (entry b k).offset (action_size * actions_before b k)) (refusal 6 k 0)

abbrev pub end_refusal : List ℕ → ℕ → Option Refusal
end_refusal b k = unless (eqb (trailer_offset b) (action_size * actions_before b k)) (refusal 6 k 0)

abbrev pub rule6 : List ℕ → Option Refusal
rule6 b = first_of (offset_refusal b) 0 (machine_count b) or_else end_refusal b (machine_count b)

-- 7: an action's state, period or time out of range, or deadline 0
abbrev pub action_in_range : Machine → Action → Bool
action_in_range m a =
    ltb a.source m.states
    && ltb a.sink m.states
    && between 1 longest_period a.period
    && between 1 longest_time a.time
    && leb 1 a.deadline

-- the first refusal under number n at an action that fails a test: of machine k, and of all machines in order
abbrev pub action_refusal : (Machine → Action → Bool) → ℕ → Machine → ℕ → ℕ → Option Refusal
action_refusal test n m k j = unless (test m (action_of m j)) (refusal n k j)

abbrev pub machine_refusal : (Machine → Action → Bool) → ℕ → List ℕ → ℕ → Option Refusal
machine_refusal test n b k =
    let m = machine_of (decode b) k in
    first_of (action_refusal test n m k) 0 (count m)

abbrev pub actions_refusal : (Machine → Action → Bool) → ℕ → List ℕ → Option Refusal
actions_refusal test n b = first_of (machine_refusal test n b) 0 (machine_count b)

abbrev pub rule7 : List ℕ → Option Refusal
rule7 b = actions_refusal action_in_range 7 b

-- 8: deadline above the divisor
abbrev pub deadline_in_range : Machine → Action → Bool
deadline_in_range m a = leb a.deadline (divisor m)

abbrev pub rule8 : List ℕ → Option Refusal
rule8 b = actions_refusal deadline_in_range 8 b

-- 9: H above 1,024
abbrev pub rule9 : List ℕ → Option Refusal
rule9 b = unless (leb (hyperperiod (decode b)) longest_hyperperiod) (refusal 9 0 0)
