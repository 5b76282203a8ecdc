-- Document 01, "The sheet": what a list of bytes means. All numbers are unsigned, little-endian.
use Rattle.std.specs.Prelude.{ℕ, zero, suc, ◌+◌, ◌-◌, ◌*◌, List, [], ◌∷◌, length, get_or, drop}
use Rattle.number.specs.Little.{le16, le32}
use Rattle.model.specs.declared.Action.{Action}
use Rattle.model.specs.Machine.{Machine, action, machine}
use Rattle.sheet.specs.declared.fields.EntryBytes.{EntryBytes}

-- an action, 8 bytes: source state (1), sink state (1), period (2), execution time (2), relative deadline (2)
abbrev pub action_size : ℕ
action_size = 8

abbrev pub action_at : List ℕ → ℕ → Action
action_at b at = action (get_or b at 0) (get_or b (at + 1) 0) (le16 b (at + 2)) (le16 b (at + 4)) (le16 b (at + 6))

-- a machine entry, 8 bytes: states (1), initial state (1), actions (1), a zero byte (1), offset of its first action (4)
abbrev pub entry_size : ℕ
entry_size = 8

abbrev pub entry_at : List ℕ → ℕ → EntryBytes
entry_at b at =
    record {
      states = get_or b at 0;
      initial = get_or b (at + 1) 0;
      actions = get_or b (at + 2) 0;
      zero_byte = get_or b (at + 3) 0;
      offset = le32 b (at + 4);
    }

-- the trailer, the last 12 bytes: offset of the first machine entry (4), number of machines (4), the bytes 53 46 53 31
abbrev pub trailer_offset : List ℕ → ℕ
trailer_offset b = le32 b (length b - 12)

abbrev pub machine_count : List ℕ → ℕ
machine_count b = le32 b (length b - 8)

abbrev pub last_four : List ℕ → List ℕ
last_four b = drop (length b - 4) b

abbrev pub sfs1 : List ℕ
sfs1 = 0x53 ∷ 0x46 ∷ 0x53 ∷ 0x31 ∷ []

-- the entry of machine k
abbrev pub entry : List ℕ → ℕ → EntryBytes
entry b k = entry_at b (trailer_offset b + entry_size * k)

-- how many actions the machines before k have
unfoldable pub actions_before : List ℕ → ℕ → ℕ
actions_before b zero = 0
actions_before b (suc k) = actions_before b k + (entry b k).actions

-- the n actions that stand one after another from `at` on
unfoldable pub actions_at : List ℕ → ℕ → ℕ → List Action
actions_at b at zero = []
actions_at b at (suc n) = action_at b at ∷ actions_at b (at + action_size) n

-- the machine that an entry describes
abbrev pub described : List ℕ → EntryBytes → Machine
described b e = machine e.states e.initial (actions_at b e.offset e.actions)

-- the n machines from machine k on
unfoldable pub machines_from : List ℕ → ℕ → ℕ → List Machine
machines_from b k zero = []
machines_from b k (suc n) = described b (entry b k) ∷ machines_from b (suc k) n

-- the machines of a sheet
unfoldable pub decode : List ℕ → List Machine
decode b = machines_from b 0 (machine_count b)
