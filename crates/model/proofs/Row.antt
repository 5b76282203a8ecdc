-- A row of figures in memory: where it starts, how a tick moves it on, and which bound it tells.
use Prim.Native.Nat.{ℕ, ◌+◌, ◌*◌, ◌≤◌, ◌<◌}
use mathlib.Core.Path.{◌≡◌, refl, ◌∙◌}
use mathlib.Core.List.{List}
use native.Mathlib.Omega.{arith}
use native.Mathlib.Numerals.{add-one}
use Rattle.model.specs.declared.Way.TheVariants.{On}
use Rattle.model.specs.Machine.{Machine, count}
use Rattle.model.specs.Legal.{Pair, cost, requested}
use Rattle.model.specs.Reckon.{may_begin, most, best, request}
use Rattle.model.specs.Inside.{Closed, ends, figure, IsRow, IsMoved}
use Rattle.model.proofs.Most.{most_cong}
use Rattle.model.proofs.Names.{closed_inside}
use Rattle.model.proofs.Ends.{moved_cong, ends_best, ends_limit}

module _ (m : Machine) (w : Pair → ℕ) (s : ℕ) where
  -- a loop over the ticks starts with zeros, and moves the row on once a tick
  pub row_start : (row : List ℕ) → ((q : ℕ) → q < m.states → figure row q ≡ 0) → IsRow m w s 0 row
  unfolding ends
  row_start row h = record { at = h }

  pub row_moved : Closed m → (n : ℕ) (old new : List ℕ) → IsRow m w s n old → IsMoved On m w (s + n) old new
      → IsRow m w s (n + 1) new
  unfolding ends
  row_moved c n old new h g =
      rw add-one
      (record {
        at = λ q l.
            g.at q l
            ∙ moved_cong m w w (s + n) (figure old) (ends m w s n) (λ k l i. refl)
            (λ p b. h.at p (closed_inside c p b)) q (h.at q l);
      })

  -- its largest figure is the bound
  pub row_best : Closed m → (n : ℕ) (row : List ℕ) → IsRow m w s n row
      → most m.states (figure row) ≡ best m w s n (may_begin m)
  row_best c n row h = most_cong m.states (figure row) (ends m w s n) h.at ∙ ends_best m w c s n

module _ (m : Machine) (s n : ℕ) (row : List ℕ) (h : IsRow m (requested m) s n row) where
  pub row_request : Closed m → most m.states (figure row) ≡ request m s n
  unfolding request
  row_request c = row_best m (requested m) s c n row h

  pub row_limit : (c : ℕ) → ((k : ℕ) → k < count m → cost m k ≤ c) → (q : ℕ) → q < m.states → figure row q ≤ n * c
  row_limit c g q l = omega (arith, h.at q l, ends_limit m (requested m) c (λ p. g p.action) s n q)
