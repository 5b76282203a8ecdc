-- What the contracts of inner functions cite, and no reader has to believe.
use Rattle.std.specs.Prelude.{ℕ, List, [], ◌∷◌, slice_index}
use Rattle.std.specs.List.{flat_map}
use Rattle.text.specs.Text.{number_line}

-- a line `action instant` for each array of the two
abbrev pub array_lines : List (List ℕ) → List ℕ
array_lines pairs = flat_map (λ p. number_line (slice_index p 0) (slice_index p 1 ∷ [])) pairs
