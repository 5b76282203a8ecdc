-- A sheet Fits where each machine and start has a closing length, and every shorter length passes.
use Prim.Native.Nat.{ℕ, suc, pred, ◌+◌, ◌≤◌, ◌<◌}
use mathlib.Core.Path.{◌≡◌, refl, sym, ap, ◌∙◌}
use mathlib.Core.Bool.{true, not, false≢true}
use Rattle.std.specs.Prelude.{Option, None, Some}
use mathlib.Core.List.{List}
use mathlib.Core.Logic.{inl, inr, ◌↔◌}
use native.Mathlib.Omega.{arith}
use lib.ListN.{length}
use borrow.Author.Tests.{le-leb, leb-true, not-false}
use Rattle.model.specs.Limits.{longest_window}
use Rattle.model.specs.Machine.{Machine, machine_of, hyperperiod}
use Rattle.model.specs.Reckon.{demand}
use Rattle.model.specs.Search.{first_of, smallest}
use Rattle.model.specs.Verdict.{requests, closes, closing_length, has_room, passes, failing_length}
use Rattle.model.specs.Verdict.{Fits, given, gives, machine_gives, verdict}
use Rattle.model.proofs.Search.{none_or_some, some_none, first_of_none, first_of_some, first_of_absent}
use Rattle.model.proofs.Search.{smallest_none, smallest_some, smallest_absent, smallest_below_lem}

module _ (ms : List Machine) (i s : ℕ) where
  -- some m from 0 to n has room for the demand of [s, s + n] after the requests above over [s, s + m)
  abbrev pub Passes : ℕ → Type 0
  Passes n = (m : ℕ) × (m ≤ n) × (demand (machine_of ms i) s n + requests ms i s m ≤ m)

  pub closes_at_most : (n : ℕ) → (closes ms i s n ≡ true) ↔ (requests ms (suc i) s n ≤ n)
  unfolding closes
  closes_at_most n = omega (arith, leb-true, le-leb)

  room_at_most : (n m : ℕ) → (has_room ms i s n m ≡ true) ↔ (demand (machine_of ms i) s n + requests ms i s m ≤ m)
  unfolding has_room
  room_at_most n m = omega (arith, leb-true, le-leb)

  pub passes_some : (n : ℕ) → (passes ms i s n ≡ true) ↔ Passes n
  unfolding passes
  passes_some n = (found, finds)
    where
      found : passes ms i s n ≡ true → Passes n
      found e = elim (none_or_some (smallest 0 n (has_room ms i s n))) [
        | inl z ↦ absurd (false≢true (rw z at e))
        | inr x ↦
            let c = smallest_some 0 n (has_room ms i s n) x.0 x.1 in
            (x.0, c.most, (room_at_most n x.0).0 c.passes)
      ]

      finds : Passes n → passes ms i s n ≡ true
      finds (m, l, h) = rw (smallest_below_lem 0 n (has_room ms i s n) m (omega arith) l ((room_at_most n m).1 h)).1

  -- a closing length such that every shorter length passes
  pub record Fitting : Type 0 where
    pub closing : ℕ
    pub positive : 1 ≤ closing
    pub within : closing ≤ longest_window
    pub closed : requests ms (suc i) s closing ≤ closing
    pub passing : (n : ℕ) → 1 ≤ n → n < closing → Passes n

  gives_none : gives ms i s ≡ None
      → (closing : ℕ) × (closing_length ms i s ≡ Some closing) × (failing_length ms i s ≡ None)
  unfolding gives
  gives_none e = elim (none_or_some (failing_length ms i s)) [
    | inl f ↦ elim (none_or_some (closing_length ms i s)) [
      | inl z ↦ absurd (some_none (rw (f, z) at e))
      | inr c ↦ (c.0, c.1, f)
    ]
    | inr n ↦ absurd (some_none (rw n.1 at e))
  ]

  gives_fitting : gives ms i s ≡ None → Fitting
  unfolding closing_length failing_length
  gives_fitting e =
      let (c, z, f) = gives_none e in
      let C = smallest_some 1 longest_window (closes ms i s) c z in
      record {
        closing = c;
        positive = C.least;
        within = C.most;
        closed = (closes_at_most c).0 C.passes;
        passing = λ n a b. (passes_some n).0 (not-false (passes ms i s n)
            (smallest_none 1 (pred c) (λ k. not (passes ms i s k)) (rw z at f) n a (omega arith)));
      }

  fitting_gives : Fitting → gives ms i s ≡ None
  unfolding gives closing_length failing_length
  fitting_gives F =
      let closed : closes ms i s F.closing ≡ true = (closes_at_most F.closing).1 F.closed in
      let (c, z, l) = smallest_below_lem 1 longest_window (closes ms i s) F.closing F.positive F.within closed in
      rw z
      (rw (smallest_absent 1 (pred c) (λ n. not (passes ms i s n)) (λ n a b.
      rw ((passes_some n).1 (F.passing n a (omega arith))) refl)))

-- no machine and start give Fits
given_never_fits : (ms : List Machine) (i s : ℕ) (failing closing : Option ℕ)
    → given ms i s failing closing ≡ Some Fits → ⊥
given_never_fits ms i s (Some n) c e = let z : ◌≡◌ {A = ℕ} 0 1 = cc in omega arith
given_never_fits ms i s None None e = let z : ◌≡◌ {A = ℕ} 0 1 = cc in omega arith
given_never_fits ms i s None (Some c) e = some_none (sym e)

module _ (ms : List Machine) where
  fits_none : verdict ms ≡ Fits → first_of (machine_gives ms) 0 (length ms) ≡ None
  unfolding verdict machine_gives gives
  fits_none e = elim (none_or_some (first_of (machine_gives ms) 0 (length ms))) [
    | inl z ↦ z
    | inr x ↦
        let (i, a, b, z, h) = first_of_some (machine_gives ms) 0 _ x.0 x.1 in
        let (s, c, d, y, g) = first_of_some (gives ms i) 0 _ x.0 z in
        let f : x.0 ≡ Fits = rw x.1 at e in
        absurd (given_never_fits ms i s (failing_length ms i s) (closing_length ms i s) (y ∙ ap Some f))
  ]

  -- the sheet Fits exactly where each machine with each start below H is fitting
  pub fits_fitting : (verdict ms ≡ Fits) ↔ ((i s : ℕ) → i < length ms → s < hyperperiod ms → Fitting ms i s)
  unfolding verdict machine_gives
  fits_fitting = (
    λ e i s h b.
        let z : machine_gives ms i ≡ None =
        first_of_none (machine_gives ms) 0 _ (fits_none e) i (omega arith) (omega arith) in
        gives_fitting ms i s (first_of_none (gives ms i) 0 _ z s (omega arith) (omega arith)),
    λ F. rw (first_of_absent (machine_gives ms) 0 (length ms) (λ i a h.
        first_of_absent (gives ms i) 0 (hyperperiod ms) (λ s c b.
        fitting_gives ms i s (F i s (omega arith) (omega arith))))),
  )
