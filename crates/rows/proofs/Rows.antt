-- The rows, one for each tick of a window, laid from the window's end to its start.
use Prim.Native.Nat.{ℕ, ◌+◌, ◌-◌, ◌≤◌, ◌<◌}
use mathlib.Core.Path.{◌≡◌, ◌∙◌, ap}
use mathlib.Core.List.{List, []}
use native.Mathlib.Omega.{arith}
use native.Mathlib.Decide.{ℕ_discrete}
use lib.ListN.{length, get_or, set, take, replicate, get_or-replicate, length-set}
use lib.Seq.{get_or-set_same, get_or-set_other, length-take-le, get_or-take}
use Rattle.model.specs.declared.Way.TheVariants.{Back}
use Rattle.model.specs.Limits.{longest_window}
use Rattle.model.specs.Machine.{Machine}
use Rattle.model.specs.Legal.{requested}
use Rattle.model.specs.Sizes.{MachineSizes}
use Rattle.model.specs.Reckon.{most, request}
use Rattle.model.specs.Inside.{largest_cost, figure, IsBack}
use Rattle.model.proofs.Accepted.{sizes_cost, sizes_closed}
use Rattle.model.proofs.Back.{back_start, back_earlier, back_limit, back_request}
use Rattle.walk.specs.Inside.{Marks, AllMarked, WindowMarked, Ready, Ticked}
use Rattle.rows.specs.declared.MaskedWindow.{MaskedWindow}
use Rattle.rows.specs.Inside.{Rows}

module _ {m : Machine} {s n : ℕ} (sizes : MachineSizes m) (short : n ≤ longest_window) where
  -- the row after the last tick has zeros
  pub rows_begin : (rows : List (List ℕ)) → length rows ≡ longest_window + 1
      → Rows m s n n (set rows n (replicate 16 0))
  rows_begin rows long =
      record {
        long = length-set rows n _ ∙ long;
        at = λ j a b.
            let none : n - j ≡ 0 = omega arith in
            let last : j ≡ n = omega arith in
            rw (none, last, get_or-set_same rows n (replicate 16 0) [] (omega arith))
            (back_start m (requested m) (s + n) (replicate 16 0) (λ q l.
            get_or-replicate 16 q 0 0 (omega (arith, sizes.states.1))));
      }

  -- one tick earlier
  pub rows_more : {k mask : ℕ} {earlier : List ℕ} {rows : List (List ℕ)} → Rows m s n k rows → 0 < k → k ≤ n
      → Marks m (s + (k - 1)) mask → Ticked Back m mask (get_or rows (k - 1 + 1) []) earlier
      → Rows m s n (k - 1) (set rows (k - 1) earlier)
  rows_more {k} {earlier = earlier} {rows = rows} h more early g e =
      record {
        long = length-set rows (k - 1) earlier ∙ h.long;
        at = λ j a b.
            elim (ℕ_discrete j (k - 1)) [
              | yes z ↦ rw (z, get_or-set_same rows (k - 1) earlier [] (omega (arith, h.long))) here
              | no d ↦ rw (get_or-set_other rows (k - 1) j earlier [] d) (h.at j (omega arith) b)
            ];
      }
    where
      next : k - 1 + 1 ≡ k
      next = omega arith

      here : IsBack m (requested m) (s + (k - 1)) (n - (k - 1)) earlier
      here =
          let tick : s + k ≡ s + (k - 1) + 1 = omega arith in
          let left : n - k + 1 ≡ n - (k - 1) = omega arith in
          let row = get_or rows k [] in
          rw left at (back_earlier m (requested m) (sizes_closed m sizes) (s + (k - 1)) (n - k) row earlier
          (rw tick at (h.at k (omega arith) early)) (rw next at (e.moved _ g)))

-- the largest figure of the first row is the request bound
pub rows_top : {m : Machine} {s n states v : ℕ} {rows : List (List ℕ)} → MachineSizes m → Rows m s n 0 rows
    → states ≡ m.states → v ≡ most states (figure (get_or rows 0 [])) → v ≡ request m s n
rows_top {m} {s} {n} {rows = rows} sizes h e f =
    let start : s + 0 ≡ s = omega arith in
    let all : n - 0 ≡ n = omega arith in
    let first = get_or rows 0 [] in
    f
    ∙ ap (λ k. most k (figure first)) e
    ∙ back_request m (sizes_closed m sizes) s n first (rw (start, all) at (h.at 0 (omega arith) (omega arith)))

-- figures of at most the longest window are small
pub back_ready : {m : Machine} {t n u mask : ℕ} {row : List ℕ} → MachineSizes m → IsBack m (requested m) t n row
    → n ≤ longest_window → Marks m u mask → Ready m mask row
back_ready {m} {t} {n} {u} {row = row} sizes h l g =
    record {
      tick = u;
      marks = g;
      small = λ q b. omega (arith, back_limit m t n row h largest_cost (λ k c. (sizes_cost m sizes k c).1) q b);
    }

-- the masks of a window, which is in range, and those without its end
pub masked_short : (masked : MaskedWindow) → length masked.masks.now ≤ longest_window
masked_short masked = omega (arith, masked.each, masked.window.in_range.short)

pub window_masked : {m : Machine} {s n : ℕ} {masks : List ℕ} → WindowMarked m s n masks → n ≤ length masks
    → AllMarked m s (take n masks)
window_masked {m} {s} {n} {masks} h l =
    record {
      at = λ k b.
          let below : k < n = omega (arith, length-take-le n masks l) in
          rw (get_or-take n masks k 0 below) (h.at k (omega arith));
    }
