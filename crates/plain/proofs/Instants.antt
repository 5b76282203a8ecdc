-- Whether a machine has an instant at a tick.
use Prim.Native.Nat.{ℕ, zero, suc, ◌+◌, ◌≤◌, ◌<◌}
use mathlib.Core.Path.{◌≡◌, refl, ◌∙◌, ap, ap₂}
use mathlib.Core.Bool.{Bool, false, ◌||◌}
use native.Mathlib.Omega.{arith}
use Rattle.std.specs.Prelude.{Option, None, Some}
use Rattle.std.specs.List.{list_any, range_with_len}
use Rattle.std.proofs.lemmas.List.Folds.{list_any_at}
use Rattle.std.proofs.lemmas.List.FromFn.{length-range_with_len, get_or-range_with_len}
use Rattle.model.specs.Machine.{Machine, count}
use Rattle.model.specs.Reckon.{is_instant}
use Rattle.model.specs.Search.{is_found}
use Rattle.model.proofs.Smallest.{Smallest}
use Rattle.plain.specs.Plain.{has_instant}

none_passes : (test : ℕ → Bool) (low n : ℕ) → ((k : ℕ) → low ≤ k → k < low + n → test k ≡ false)
    → list_any test (range_with_len low n) ≡ false
none_passes test low zero h = refl
none_passes test low (suc n) h =
    ap₂ ◌||◌ (h low (omega arith) (omega arith))
    (none_passes test (low + 1) n (λ k a b. h k (omega arith) (omega arith)))

-- a search through the actions tells
pub has_instant_by : (m : Machine) (t : ℕ) (o : Option ℕ) → Smallest (count m) (λ k. is_instant m k t) o
    → has_instant m t ≡ is_found o
unfolding has_instant
has_instant_by m t None h = none_passes (λ k. is_instant m k t) 0 (count m) (λ k a b. h k (omega arith))
has_instant_by m t (Some i) h =
    let actions = range_with_len 0 (count m) in
    list_any_at (λ k. is_instant m k t) actions i 0 (omega (arith, length-range_with_len 0 (count m), h.0))
    (ap (λ k. is_instant m k t) (get_or-range_with_len 0 (count m) i 0 h.0 ∙ omega arith) ∙ h.1)
