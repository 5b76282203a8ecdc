-- P1 to P12: one test of the whole table, which the prover computes, and one law that the test tells the truth. And
-- what keeping only the least gap between events would miss: no window of 41 ticks asks for more than 13.
use Prim.Native.Nat.{ℕ, zero, suc, ◌+◌, ◌-◌, ◌%◌, ◌≤◌, ◌<◌}
use mathlib.Core.Path.{◌≡◌, refl, sym, ◌∙◌, ap}
use mathlib.Core.Bool.{Bool, true, ◌&&◌}
use mathlib.Core.List.{List, [], ◌∷◌}
use mathlib.Core.Logic.{⊎_elim}
use native.Mathlib.Omega.{arith}
use native.Mathlib.Nat.{zero-add, not-suc-le-zero, le_of_suc-le-suc, eq-or-lt_of_le, mod-lt, dvd_of_mod-eq-zero}
use native.Mathlib.Numerals.{add-one}
use lib.Dec.{eqb, leb}
use borrow.Author.Tests.{leb-true, eqb-true}
use Rattle.model.specs.declared.Way.TheVariants.{On}
use Rattle.model.specs.Machine.{Machine, action_of}
use Rattle.model.specs.Legal.{Pair, cost, requested, demanded, IsRequestBound}
use Rattle.model.specs.Reckon.{is_instant, may_begin, most, best, request, demand}
use Rattle.model.specs.Inside.{Repeats, Closed, moved, figure, IsRow}
use Rattle.model.specs.Numbers.{machine1, Number, request_of, demand_of, numbers, Right, AllRight}
use Rattle.model.proofs.Tests.{both_true}
use Rattle.model.proofs.Most.{most_above}
use Rattle.model.proofs.Names.{multiple_repeats, sinks_closed}
use Rattle.model.proofs.Largest.{largest_unique}
use Rattle.model.proofs.Bounds.{request_is, demand_is}
use Rattle.model.proofs.Shift.{request_remainder}
use Rattle.model.proofs.Row.{row_start, row_moved, row_best}

-- n figures in a list: f i, f (i + 1) and so on
listed : ℕ → ℕ → (ℕ → ℕ) → List ℕ
listed i zero f = []
listed i (suc n) f = f i ∷ listed (suc i) n f

listed_at : (i n : ℕ) (f : ℕ → ℕ) (j : ℕ) → j < n → figure (listed i n f) j ≡ f (i + j)
unfolding listed
listed_at i zero f j l = absurd (not-suc-le-zero l)
listed_at i (suc n) f zero l = ap f (omega arith)
listed_at i (suc n) f (suc j) l = listed_at (suc i) n f j (le_of_suc-le-suc l) ∙ ap f (omega arith)

listed_figure : (n : ℕ) (f : ℕ → ℕ) (j : ℕ) → j < n → figure (listed 0 n f) j ≡ f j
listed_figure n f j l = listed_at 0 n f j l ∙ ap f (zero-add j)

-- the row after n ticks, kept as a list so that each figure is computed once
row_of : Machine → (Pair → ℕ) → ℕ → ℕ → List ℕ
row_of m w s zero = listed 0 m.states (λ q. 0)
row_of m w s (suc n) = let row = row_of m w s n in listed 0 m.states (moved On m w (s + n) (figure row))

row_of_is : (m : Machine) (w : Pair → ℕ) → Closed m → (s n : ℕ) → IsRow m w s n (row_of m w s n)
unfolding row_of
row_of_is m w c s zero = row_start m w s _ (listed_figure m.states (λ q. 0))
row_of_is m w c s (suc n) =
    rw add-one at
    (row_moved m w s c n (row_of m w s n) (row_of m w s (suc n)) (row_of_is m w c s n)
    (record { at = listed_figure m.states (moved On m w (s + n) (figure (row_of m w s n))) }))

top : Machine → (Pair → ℕ) → ℕ → ℕ → ℕ
top m w s n = let row = row_of m w s n in most m.states (figure row)

top_best : (m : Machine) (w : Pair → ℕ) → Closed m → (s n : ℕ) → top m w s n ≡ best m w s n (may_begin m)
unfolding top
top_best m w c s n = row_best m w s c n (row_of m w s n) (row_of_is m w c s n)

-- the test, row by row
is_right : Machine → Number → Bool
is_right m (request_of s f v) = leb s f && eqb (top m (requested m) s (f - s)) v
is_right m (demand_of s t v) = leb s t && eqb (top m (demanded m (s + (t - s))) s (suc (t - s))) v

all_right : Machine → List Number → Bool
all_right m [] = true
all_right m (r ∷ rs) = is_right m r && all_right m rs

is_right_law : (m : Machine) → Closed m → (r : Number) → is_right m r ≡ true → Right m r
unfolding is_right request demand
is_right_law m c (request_of s f v) t =
    let (l, e) = both_true (leb s f) _ t in
    rw (sym (eqb-true _ v e) ∙ top_best m (requested m) c s (f - s))
    (request_is m s (f - s) f (omega (arith, leb-true s f l)))
is_right_law m c (demand_of s f v) t =
    let (l, e) = both_true (leb s f) _ t in
    rw (sym (eqb-true _ v e) ∙ top_best m (demanded m (s + (f - s))) c s (suc (f - s)))
    (demand_is m s (f - s) f (omega (arith, leb-true s f l)))

all_right_law : (m : Machine) → Closed m → (rs : List Number) → all_right m rs ≡ true → AllRight m rs
unfolding all_right
all_right_law m c [] t = tt
all_right_law m c (r ∷ rs) t =
    let (a, b) = both_true (is_right m r) (all_right m rs) t in (is_right_law m c r a, all_right_law m c rs b)

machine1_closed : Closed machine1
unfolding most
machine1_closed =
    sinks_closed machine1 (λ k l. omega (arith, most_above 4 (λ j. (action_of machine1 j).sink) k l))

pub P1-to-P12 : AllRight machine1 numbers
unfolding all_right is_right top row_of listed most is_instant may_begin cost
P1-to-P12 = all_right_law machine1 machine1_closed numbers refl

-- a test of the numbers below n
all_below : ℕ → (ℕ → Bool) → Bool
all_below zero f = true
all_below (suc n) f = f n && all_below n f

all_below_law : (n : ℕ) (f : ℕ → Bool) → all_below n f ≡ true → (j : ℕ) → j < n → f j ≡ true
unfolding all_below
all_below_law zero f t j l = absurd (not-suc-le-zero l)
all_below_law (suc n) f t j l =
    let (a, b) = both_true (f n) (all_below n f) t in
    ⊎_elim (λ e. rw e a) (λ d. all_below_law n f b j d) (eq-or-lt_of_le (le_of_suc-le-suc l))

-- the 41 ticks from s on ask for at most 13
are_few : ℕ → Bool
are_few s = leb (top machine1 (requested machine1) s 41) 13

are_few_all : all_below 200 are_few ≡ true
unfolding all_below are_few top row_of listed most is_instant may_begin cost
are_few_all = refl

-- the machine's instants come again after 200 ticks
machine1_repeats : Repeats machine1 200
machine1_repeats = multiple_repeats machine1 200 (λ k l. dvd_of_mod-eq-zero (action_of machine1 k).period (divides k l))
  where
    divides : (k : ℕ) → k < 4 → 200 % (action_of machine1 k).period ≡ 0
    divides zero l = refl
    divides (suc zero) l = refl
    divides (suc (suc zero)) l = refl
    divides (suc (suc (suc zero))) l = refl
    divides (suc (suc (suc (suc k)))) l = absurd (omega arith)

pub window_of_41 : (s v : ℕ) → IsRequestBound machine1 s (s + 41) v → v ≤ 13
unfolding are_few request
window_of_41 s v b =
    let r = s % 200 in
    let e : v ≡ request machine1 s 41 = largest_unique b (request_is machine1 s 41 (s + 41) refl) in
    let few : top machine1 (requested machine1) r 41 ≤ 13 =
    leb-true _ 13 (all_below_law 200 are_few are_few_all r (mod-lt s (omega arith))) in
    omega (
      arith,
      e,
      few,
      request_remainder machine1 200 machine1_repeats s 41,
      top_best machine1 (requested machine1) machine1_closed r 41,
    )
