-- Document 01, "Legal sequences and bounds": instants, legal sequences, and the two bounds as what they mean.
use Rattle.std.specs.Prelude.{ℕ, ◌+◌, ◌*◌, ◌≤◌, ◌<◌, ◌≡◌, cond, List, [], ◌∷◌, leb}
use Rattle.model.specs.Machine.{Machine, count, action_of}

-- t is an instant of action k: one of 0, T, 2T and so on
unfoldable pub Instant : Machine → ℕ → ℕ → Type 0
Instant m k t = (n : ℕ) × (t ≡ n * (action_of m k).period)

-- what a bound adds for action k
unfoldable pub cost : Machine → ℕ → ℕ
cost m k = (action_of m k).time

-- a first pair may have q as its source: any state of the machine
unfoldable pub MayBegin : Machine → ℕ → Type 0
MayBegin m q = q < m.states

-- a pair of a sequence: the number of an action, and the instant at which it is triggered
pub record Pair : Type 0 where
  pub action : ℕ
  pub instant : ℕ

-- p is an action of the machine at one of its instants
abbrev pub Taken : Machine → Pair → Type 0
Taken m p = (p.action < count m) × Instant m p.action p.instant

-- p and what follows it: each sink is the next pair's source, and instants strictly rise
abbrev pub Chain : Machine → Pair → List Pair → Type 0
Chain m p [] = Taken m p
Chain m p (r ∷ σ) =
    Taken m p × ((action_of m p.action).sink ≡ (action_of m r.action).source)
    × (p.instant < r.instant) × Chain m r σ

-- a legal sequence: possibly empty, and the first pair may leave any state
abbrev pub Legal : Machine → List Pair → Type 0
Legal m [] = Unit
Legal m (p ∷ σ) = MayBegin m (action_of m p.action).source × Chain m p σ

-- P holds of each pair
abbrev pub Each : (Pair → Type 0) → List Pair → Type 0
Each P [] = Unit
Each P (p ∷ σ) = P p × Each P σ

-- the total of what each pair weighs
abbrev pub total : (Pair → ℕ) → List Pair → ℕ
total w [] = 0
total w (p ∷ σ) = w p + total w σ

-- in a request each action counts; in a demand only those whose instant plus deadline is at most t
abbrev pub requested : Machine → Pair → ℕ
requested m p = cost m p.action

abbrev pub demanded : Machine → ℕ → Pair → ℕ
demanded m t p = cond (leb (p.instant + (action_of m p.action).deadline) t) (cost m p.action) 0

-- v is the largest total of the sequences that P holds of: one has it, and none has more
pub record IsLargest (P : List Pair → Type 0) (w : Pair → ℕ) (v : ℕ) : Type 0 where
  pub sequence : List Pair
  pub holds : P sequence
  pub reached : total w sequence ≡ v
  pub limit : (σ : List Pair) → P σ → total w σ ≤ v

-- the instants of [s, f)
abbrev pub Within : ℕ → ℕ → Pair → Type 0
Within s f p = (s ≤ p.instant) × (p.instant < f)

-- v is the request bound of [s, f): of legal sequences with all instants at least s and below f
abbrev pub IsRequestBound : Machine → ℕ → ℕ → ℕ → Type 0
IsRequestBound m s f = IsLargest (λ σ. Legal m σ × Each (Within s f) σ) (requested m)

-- v is the demand bound of [s, t]: of legal sequences with instants at least s
abbrev pub IsDemandBound : Machine → ℕ → ℕ → ℕ → Type 0
IsDemandBound m s t = IsLargest (λ σ. Legal m σ × Each (λ p. s ≤ p.instant) σ) (demanded m t)
