-- The two bounds as they can be reckoned: over the window's ticks, from its end back to its start.
-- That these are the bounds of Legal.antt, for every machine and window, is proved in proofs/Bounds.antt.
use Rattle.std.specs.Prelude.{ℕ, zero, suc, ◌+◌, ◌%◌, max, Bool, cond, ◌&&◌, eqb, ltb}
use Rattle.model.specs.Machine.{Machine, count, action_of}
use Rattle.model.specs.Legal.{Pair, requested, demanded}

-- t is an instant of action k, and a first pair may leave q, as tests
unfoldable pub is_instant : Machine → ℕ → ℕ → Bool
is_instant m k t = eqb (t % (action_of m k).period) 0

unfoldable pub may_begin : Machine → ℕ → Bool
may_begin m q = ltb q m.states

-- the largest of f 0 to f (n - 1), and 0 where n is 0
unfoldable pub most : ℕ → (ℕ → ℕ) → ℕ
most zero f = 0
most (suc n) f = max (most n f) (f n)

-- action k, triggered at t
abbrev pub pair : ℕ → ℕ → Pair
pair k t = record { action = k; instant = t }

-- p leaves a state of `from` at an instant of its action
abbrev pub is_open : Machine → (ℕ → Bool) → Pair → Bool
is_open m from p = from (action_of m p.action).source && is_instant m p.action p.instant

-- the one state that follows action k, its sink
abbrev pub after : Machine → ℕ → ℕ → Bool
after m k = eqb (action_of m k).sink

-- what action k brings at t, with what `later` says of its sink; 0 where it may not be triggered
abbrev pub gain : Machine → (Pair → ℕ) → ℕ → ((ℕ → Bool) → ℕ) → (ℕ → Bool) → ℕ → ℕ
gain m w t later from k = cond (is_open m from (pair k t)) (w (pair k t) + later (after m k)) 0

-- the largest total from a state of `from` with instants in [t, t + n): nothing at t, or the best action there
unfoldable pub best : Machine → (Pair → ℕ) → ℕ → ℕ → (ℕ → Bool) → ℕ
best m w t zero from = 0
best m w t (suc n) from = max (best m w (suc t) n from) (most (count m) (gain m w t (best m w (suc t) n) from))

-- the request bound of [s, s + n)
unfoldable pub request : Machine → ℕ → ℕ → ℕ
request m s n = best m (requested m) s n (may_begin m)

-- the demand bound of [s, s + n]
unfoldable pub demand : Machine → ℕ → ℕ → ℕ
demand m s n = best m (demanded m (s + n)) s (suc n) (may_begin m)
