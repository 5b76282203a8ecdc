-- What only inner functions and the laws between them speak of: nothing here is needed to read a public contract.
-- In order: what the laws ask of a machine and of a window; rows of figures from the front, and the demand of each
-- length from them; rows from the back, for the critical sequence; the plain reckoner.
use Rattle.std.specs.Prelude.{ℕ, zero, suc, ◌+◌, ◌≤◌, ◌<◌, max, ◌≡◌, Bool, true, cond, ◌&&◌, List, ◌⊎◌, ◌↔◌, eqb, leb, get_or}
use Rattle.model.specs.declared.Way.{Way}
use Rattle.model.specs.declared.Way.TheVariants.{On, Back}
use Rattle.model.specs.Limits.{longest_window, last_tick, longest_time}
use Rattle.model.specs.declared.Action.{Action}
use Rattle.model.specs.Machine.{Machine, count, action_of}
use Rattle.model.specs.Legal.{Instant, MayBegin, Pair, requested}
use Rattle.model.specs.Reckon.{is_instant, may_begin, most, pair, is_open, after, best}

-- the machine's instants come again after h ticks
abbrev pub Repeats : Machine → ℕ → Type 0
Repeats m h = (k : ℕ) → k < count m → (t : ℕ) → Instant m k (t + h) ↔ Instant m k t

-- the states that a first pair may leave are states of the machine, and actions lead from them to them
pub record Closed (m : Machine) : Type 0 where
  pub inside : (q : ℕ) → MayBegin m q → q < m.states
  pub onward : (k : ℕ) → k < count m → MayBegin m (action_of m k).source → MayBegin m (action_of m k).sink

-- a deadline is at least 1, and ends no later than the machine's next instant
pub record Separate (m : Machine) : Type 0 where
  pub positive : (k : ℕ) → k < count m → 0 < (action_of m k).deadline
  pub gap : (k j u v : ℕ) → k < count m → j < count m → Instant m k u → Instant m j v → u < v
      → u + (action_of m k).deadline ≤ v

-- the most that an action of an accepted sheet costs
abbrev pub largest_cost : ℕ
largest_cost = longest_time

-- the window [s, f) is in range
pub record InRange (s f : ℕ) : Type 0 where
  pub forward : s ≤ f
  pub short : f ≤ s + longest_window
  pub near : f ≤ last_tick

-- some sequence may trigger action k at t
abbrev pub may_trigger : Machine → ℕ → ℕ → Bool
may_trigger m t k = is_open m (may_begin m) (pair k t)

-- the state of an action that a walk leaves, and the one that it comes to
abbrev pub behind : Way → Action → ℕ
behind On a = a.source
behind Back a = a.sink

abbrev pub ahead : Way → Action → ℕ
ahead On a = a.sink
ahead Back a = a.source

-- action k may be triggered at t, and a walk over it comes to q
abbrev pub leads_into : Way → Machine → ℕ → ℕ → ℕ → Bool
leads_into way m t q k = may_trigger m t k && eqb (ahead way (action_of m k)) q

-- what action k brings to q at t, where the figures before the tick are `row`; 0 where it may not, or leads elsewhere
abbrev pub brings : Way → Machine → (Pair → ℕ) → ℕ → (ℕ → ℕ) → ℕ → ℕ → ℕ
brings way m w t row q k = cond (leads_into way m t q k) (row (behind way (action_of m k)) + w (pair k t)) 0

-- the figure at q after a walk over the tick t: what it was, or the most that an action brings
abbrev pub moved : Way → Machine → (Pair → ℕ) → ℕ → (ℕ → ℕ) → ℕ → ℕ
moved way m w t row q = max (row q) (most (count m) (brings way m w t row q))

-- the largest total of the sequences with instants in [s, s + n) that end in q
unfoldable pub ends : Machine → (Pair → ℕ) → ℕ → ℕ → ℕ → ℕ
ends m w s zero q = 0
ends m w s (suc n) q = moved On m w (s + n) (ends m w s n) q

-- a row of figures in memory, one a state
abbrev pub figure : List ℕ → ℕ → ℕ
figure row q = get_or row q 0

-- `row` has each state's figure after the ticks of [s, s + n)
pub record IsRow (m : Machine) (w : Pair → ℕ) (s n : ℕ) (row : List ℕ) : Type 0 where
  pub at : (q : ℕ) → q < m.states → figure row q ≡ ends m w s n q

-- `new` is the row `old` after a walk over the tick t
pub record IsMoved (way : Way) (m : Machine) (w : Pair → ℕ) (t : ℕ) (old new : List ℕ) : Type 0 where
  pub at : (q : ℕ) → q < m.states → figure new q ≡ moved way m w t (figure old) q

-- s + k is the last instant before s + n at which some action may be triggered; where there is none, k is 0
pub record LastInstant (m : Machine) (s n k : ℕ) : Type 0 where
  pub early : k ≤ n
  pub some : (k ≡ 0) ⊎ ((j : ℕ) × (j < count m) × (may_trigger m (s + k) j ≡ true))
  pub none : (j u : ℕ) → j < count m → k < u → u < n → may_trigger m (s + u) j ≡ true → ⊥

-- what action k brings at t, whatever its sink, where its deadline is at most `end`
abbrev pub due_then : Machine → ℕ → ℕ → (ℕ → ℕ) → ℕ → ℕ
due_then m t end row k =
    let due = may_trigger m t k && leb (t + (action_of m k).deadline) end in
    cond due (row (action_of m k).source + requested m (pair k t)) 0

-- `row` has each state's largest total from it on, with instants in [t, t + n), and 0 where no sequence may begin
pub record IsBack (m : Machine) (w : Pair → ℕ) (t n : ℕ) (row : List ℕ) : Type 0 where
  pub at : (q : ℕ) → q < m.states → figure row q ≡ cond (may_begin m q) (best m w t n (eqb q)) 0

-- the plain reckoner: what action k brings at its first instant in [t, t + n), and 0 where it has none there
unfoldable pub at_first : Machine → (Pair → ℕ) → ℕ → ℕ → ℕ → ℕ
at_first m w t zero k = 0
at_first m w t (suc n) k =
    let now = w (pair k t) + best m w (suc t) n (after m k) in cond (is_instant m k t) now (at_first m w (suc t) n k)

-- what action k asks from a state of `from`
abbrev pub asks_from : Machine → (Pair → ℕ) → ℕ → ℕ → (ℕ → Bool) → ℕ → ℕ
asks_from m w t n from k = cond (from (action_of m k).source) (at_first m w t n k) 0
