-- A draft as its bytes, and what is put behind them. Numbers are little-endian.
use Rattle.std.specs.Prelude.{ℕ, ◌+◌, if◌then◌else◌, nat_le, List, [], ◌∷◌, ◌++◌, length, take, fold, codes}
use Rattle.std.specs.List.{concat}
use Rattle.std.specs.Int.{w16, w32, to_le_bytes}
use Rattle.draft.specs.declared.Draft.{Draft}

-- the bytes that a draft is
abbrev pub written : Draft → List ℕ
written draft = take draft.used draft.bytes

-- the bytes with more behind, where there is room for all of it: a draft holds 2200 at most
infixl 30 ◌followed_by◌
abbrev pub ◌followed_by◌ : List ℕ → List ℕ → List ℕ
bytes followed_by more = if nat_le (length bytes + length more) 2200 then bytes ++ more else bytes

-- the bytes with fields behind, one after the other, each where there is room for it
infixl 30 ◌followed_by_fields◌
abbrev pub ◌followed_by_fields◌ : List ℕ → List (List ℕ) → List ℕ
bytes followed_by_fields fields = fold ◌followed_by◌ bytes fields

-- the fields of an action: eight bytes
abbrev pub action : ℕ → ℕ → ℕ → ℕ → ℕ → List (List ℕ)
action source sink period time deadline =
    (source ∷ sink ∷ []) ∷ to_le_bytes w16 period ∷ to_le_bytes w16 time ∷ to_le_bytes w16 deadline ∷ []

-- the fields of a machine's entry: eight bytes
abbrev pub entry : ℕ → ℕ → ℕ → ℕ → List (List ℕ)
entry states initial actions offset = (states ∷ initial ∷ actions ∷ 0 ∷ []) ∷ to_le_bytes w32 offset ∷ []

-- the fields of a trailer: twelve bytes
abbrev pub trailer : ℕ → ℕ → List (List ℕ)
trailer offset machines = to_le_bytes w32 offset ∷ to_le_bytes w32 machines ∷ codes "SFS1" ∷ []

-- the bytes of PAIR, with this execution time in machine 0 and this deadline in machine 1's action 0
abbrev pub pair : ℕ → ℕ → List ℕ
pair time deadline =
    concat
    (action 0 0 40 time 40 ++ action 0 1 40 5 deadline ++ action 2 0 100 6 20 ++ action 1 2 40 2 20
    ++ action 1 2 100 3 20 ++ entry 1 0 1 0 ++ entry 3 0 4 8 ++ trailer 40 2)
