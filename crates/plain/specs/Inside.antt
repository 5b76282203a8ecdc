-- What the contracts of inner functions cite, and no reader has to believe.
use Rattle.std.specs.Prelude.{ℕ, ◌+◌, ◌≤◌, ◌<◌, Option, MatchOption}
use Rattle.model.specs.Machine.{Machine}
use Rattle.model.specs.Legal.{Instant}

-- the first instant of action k in [t, t + n), or none
abbrev pub FirstInstant : Machine → ℕ → ℕ → ℕ → Option ℕ → Type 0
FirstInstant m k t n o =
    MatchOption o ((v : ℕ) → t ≤ v → v < t + n → Instant m k v → ⊥)
    (λ u. (t ≤ u) × (u < t + n) × Instant m k u × ((v : ℕ) → t ≤ v → v < u → Instant m k v → ⊥))
