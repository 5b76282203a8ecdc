-- Numbers in bytes, unsigned and little-endian.
use Rattle.std.specs.Prelude.{ℕ, ◌+◌, ◌*◌, List, get_or}

-- the two bytes from `at` on as a number, and the four
abbrev pub le16 : List ℕ → ℕ → ℕ
le16 b at = get_or b at 0 + 256 * get_or b (at + 1) 0

abbrev pub le32 : List ℕ → ℕ → ℕ
le32 b at = le16 b at + 65536 * le16 b (at + 2)
