-- What the walk's functions give a loop over the ticks: the row, its bound, and the demand of each length.
use Prim.Native.Nat.{ℕ, ◌+◌, ◌≤◌}
use mathlib.Core.Path.{◌≡◌, sym, ◌∙◌, ap}
use mathlib.Core.List.{List}
use native.Mathlib.Omega.{arith}
use lib.ListN.{replicate, get_or-replicate}
use Rattle.model.specs.declared.Way.TheVariants.{On}
use Rattle.model.specs.Limits.{last_tick}
use Rattle.model.specs.Machine.{Machine}
use Rattle.model.specs.Legal.{requested}
use Rattle.model.specs.Sizes.{MachineSizes}
use Rattle.model.specs.Reckon.{most, request, demand}
use Rattle.model.specs.Inside.{largest_cost, figure, IsRow}
use Rattle.model.proofs.Accepted.{sizes_cost, sizes_closed, sizes_separate}
use Rattle.model.proofs.Row.{row_start, row_moved, row_request, row_limit}
use Rattle.model.proofs.Demand.{demand_front, last_start, last_here, last_stays}
use Rattle.walk.specs.declared.LastInstant.{LastInstant}
use Rattle.walk.specs.Inside.{Marks, Ready, Ticked, Last, DueWithin}
use Rattle.walk.proofs.Mask.{marks_none, marks_some, unseen_begin, most_begin, most_end}
use Rattle.walk.proofs.Row.{brings_idle}

-- a row of zeros starts the walk
pub row_zeros : {m : Machine} → MachineSizes m → (s : ℕ) → IsRow m (requested m) s 0 (replicate 16 0)
row_zeros {m} sizes s =
    row_start m (requested m) s (replicate 16 0) (λ q l. get_or-replicate 16 q 0 0 (omega (arith, sizes.states.1)))

module _ {m : Machine} (sizes : MachineSizes m) {s n : ℕ} {row : List ℕ} (h : IsRow m (requested m) s n row) where
  -- a row is ready for a tick
  pub row_ready : n ≤ last_tick → {t mask : ℕ} → Marks m t mask → Ready m mask row
  row_ready l {t} g =
      record {
        tick = t;
        marks = g;
        small = λ q b. omega (arith, row_limit m s n row h largest_cost (λ k c. (sizes_cost m sizes k c).1) q b);
      }

  pub row_ticked : {mask : ℕ} (new : List ℕ) → Marks m (s + n) mask → Ticked On m mask row new
      → IsRow m (requested m) s (n + 1) new
  row_ticked new g moved = row_moved m (requested m) s (sizes_closed m sizes) n row new h (moved.moved (s + n) g)

  -- a tick without an instant leaves a row as it is
  pub row_idle : {mask : ℕ} → Marks m (s + n) mask → mask ≡ 0 → IsRow m (requested m) s (n + 1) row
  row_idle g e =
      row_moved m (requested m) s (sizes_closed m sizes) n row row h
      (record { at = λ q l. most_end (brings_idle On m (figure row) q) most_begin unseen_begin e (s + n) g })

  -- its largest figure is the request bound
  pub row_top : {states v : ℕ} → states ≡ m.states → v ≡ most states (figure row) → v ≡ request m s n
  row_top e f = f ∙ ap (λ k. most k (figure row)) e ∙ row_request m s n row h (sizes_closed m sizes)

-- the last instant, as a loop over the ticks keeps it
module _ {m : Machine} {s : ℕ} where
  pub last_begin : {mask : ℕ} {row : List ℕ} → Marks m (s + 0) mask → IsRow m (requested m) s 0 row
      → Last m s 0 (record { ticks = 0; mask = mask; row = row })
  last_begin g h = record { is = last_start m s; marks = g; figures = h }

  pub last_instant : {n mask : ℕ} {row : List ℕ} → Marks m (s + n) mask → (mask ≡ 0 → ⊥) → IsRow m (requested m) s n row
      → Last m s (n + 1) (record { ticks = n; mask = mask; row = row })
  last_instant {n} g some h =
      let (j, l, i) = marks_some g some in
      record { is = last_here m s n j l i; marks = g; figures = h }

  module _ {n : ℕ} {last : LastInstant} (h : Last m s n last) where
    pub last_none : {now : ℕ} → Marks m (s + n) now → now ≡ 0 → Last m s (n + 1) last
    last_none g e =
        record { is = last_stays m s n last.ticks h.is (marks_none (rw e at g)); marks = h.marks; figures = h.figures }

    -- it is ready for what is due
    pub last_ready : MachineSizes m → last.ticks ≤ last_tick → Ready m last.mask last.row
    last_ready sizes l = row_ready sizes h.figures l h.marks

    -- the demand bound is what is due within the ticks that are left
    pub last_demand : MachineSizes m → {ticks v : ℕ} → last.ticks + ticks ≡ n → DueWithin m last.mask last.row ticks v
        → v ≡ demand m s n
    last_demand sizes {ticks} {v} e due =
        due.is (s + last.ticks) h.marks
        ∙ sym (rw (let z : s + n ≡ s + last.ticks + ticks = omega arith in z) at
        (demand_front m (sizes_closed m sizes) (sizes_separate m sizes) s n last.ticks last.row h.is h.figures))
