-- Text as a list of ASCII characters.
use Rattle.std.specs.Prelude.{ℕ, ◌+◌, ◌-◌, ◌*◌, cond, ◌&&◌, List, [], ◌∷◌, ◌++◌, leb, codes, decimal}
use Rattle.std.specs.Prelude.{Option, None, Some, option_and_then}
use Rattle.std.specs.List.{flat_map}
use Rattle.reply.specs.declared.Refusal.{Refusal}

-- numbers, each after a space
abbrev pub spaced : List ℕ → List ℕ
spaced ns = flat_map (λ n. 32 ∷ decimal n) ns

-- a word and numbers, as a line of their own
abbrev pub line : List ℕ → List ℕ → List ℕ
line word ns = word ++ (spaced ns ++ (10 ∷ []))

-- numbers, at least one, as a line of their own
abbrev pub number_line : ℕ → List ℕ → List ℕ
number_line n ns = line (decimal n) ns

-- the number v with one more decimal digit behind; none for another character, or past 32 bits
abbrev pub with_digit : ℕ → ℕ → Option ℕ
with_digit v c =
    let next = 10 * v + (c - 48) in
    cond (leb 48 c && leb c 57 && leb next 4294967295) (Some next) None

-- the number that a word of decimal digits says, the digits so far being v
abbrev pub read_from : ℕ → List ℕ → Option ℕ
read_from v [] = Some v
read_from v (c ∷ word) = option_and_then (λ next. read_from next word) (with_digit v c)

-- an empty word says none
abbrev pub read_number : List ℕ → Option ℕ
read_number [] = None
read_number (c ∷ word) = read_from 0 (c ∷ word)

-- a refusal prints only REFUSED with number and place
abbrev pub refused_line : Refusal → List ℕ
refused_line r = line (codes "REFUSED") (r.number ∷ r.first ∷ r.second ∷ [])
