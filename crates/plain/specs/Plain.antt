-- Document 01, "A plain reckoner of one request bound", and reply 14.
use Rattle.std.specs.Prelude.{ℕ, ◌-◌, Bool, List, [], ◌∷◌, leb, Option, count_by}
use Rattle.std.specs.List.{list_any, range_with_len}
use Rattle.model.specs.Machine.{Machine, count, machine_of}
use Rattle.model.specs.Reckon.{is_instant, request}
use Rattle.reply.specs.declared.Refusal.{Refusal}
use Rattle.reply.specs.Reply.{Reply, answer, refusal, unless, ◌or_else◌, ◌otherwise◌}
use Rattle.sheet.specs.Format.{decode}
use Rattle.window.specs.Window.{question_refusal}

-- t is an instant of the machine: some action has one there
unfoldable pub has_instant : Machine → ℕ → Bool
has_instant m t = list_any (λ k. is_instant m k t) (range_with_len 0 (count m))

-- how many instants of the machine [s, s + n) holds, an instant counted once
unfoldable pub instants : Machine → ℕ → ℕ → ℕ
instants m s n = count_by (has_instant m) (range_with_len s n)

-- 14: plain reckoner, more than 6 instants
abbrev pub rule14 : Machine → ℕ → ℕ → Option Refusal
rule14 m s f = unless (leb (instants m s (f - s)) 6) (refusal 14 0 0)

-- the refusal of a question about machine i of sheet b and [s, f), if there is one: 1 to 11, and then 14
unfoldable pub plain_refusal : List ℕ → ℕ → ℕ → ℕ → Option Refusal
plain_refusal b i s f = question_refusal b i s f or_else rule14 (machine_of (decode b) i) s f

-- the reply of `plain`: the request bound of [s, f)
abbrev pub plain_reply : List ℕ → ℕ → ℕ → ℕ → Reply
plain_reply b i s f = plain_refusal b i s f otherwise answer 0 (request (machine_of (decode b) i) s (f - s) ∷ [])
