-- Periods taken in one after another: what a loop over a machine's actions, or over the machines, has left to do.
use Prim.Native.Nat.{ℕ, zero, suc, ◌+◌, ◌≤◌, ◌<◌}
use mathlib.Core.Path.{◌≡◌, refl, sym, ◌∙◌, ap}
use mathlib.Core.List.{List, [], ◌∷◌, map}
use native.Mathlib.Omega.{arith}
use native.Mathlib.Numerals.{add-one}
use native.Mathlib.Nat.{not-suc-le-zero, le_of_suc-le-suc}
use lib.ListN.{length, get_or, drop, drop_of_length-le, length-map}
use lib.Seq.{drop-cons}
use Rattle.number.specs.Divide.{Each, fold, gcd, lcm}
use Rattle.number.proofs.Divide.{fold_append, lcms_rises}
use Rattle.number.proofs.Each.{each_append, each_drop}
use Rattle.model.specs.declared.Action.{Action}
use Rattle.model.specs.Machine.{Machine, count, action_of, machine_of, periods, divisor}
use Rattle.model.specs.Machine.{all_periods, hyperperiod}

periods_count : (m : Machine) → length (periods m) ≡ count m
periods_count m = length-map m.actions (λ a. a.period)

period_at : (l : List Action) (j : ℕ) (d : Action) → j < length l
    → get_or (map (λ a. a.period) l) j 0 ≡ (get_or l j d).period
period_at [] j d l = absurd (not-suc-le-zero l)
period_at (a ∷ rest) zero d l = refl
period_at (a ∷ rest) (suc j) d l = period_at rest j d (le_of_suc-le-suc l)

-- x is what f made of the periods before action j, and v what it makes of all
pub record Taking (f : ℕ → ℕ → ℕ) (m : Machine) (x j v : ℕ) : Type 0 where
  pub left : fold f x (drop j (periods m)) ≡ v

module _ {f : ℕ → ℕ → ℕ} {m : Machine} where
  pub taking_begin : (x : ℕ) → Taking f m x 0 (fold f x (periods m))
  taking_begin x = record { left = refl }

  pub taking_more : {x j v : ℕ} (y : ℕ) → Taking f m x j v → j < count m → y ≡ f x (action_of m j).period
      → Taking f m y (j + 1) v
  unfolding fold
  taking_more {x} {j} {v} y h l e =
      let next : drop j (periods m) ≡ (action_of m j).period ∷ drop (suc j) (periods m) =
      drop-cons (periods m) j 0 (omega (arith, periods_count m))
      ∙ ap (λ p. p ∷ drop (suc j) (periods m)) (period_at m.actions j _ l) in
      record { left = rw (add-one, e) (rw next at h.left) }

  pub taking_end : {x j v : ℕ} → Taking f m x j v → count m ≤ j → x ≡ v
  unfolding fold
  taking_end {x} {j} h l =
      let all : length (periods m) ≤ j = omega (arith, periods_count m) in
      ap (fold f x) (sym (drop_of_length-le (periods m) all)) ∙ h.left

pub divisor_begin : (m : Machine) → Taking gcd m 0 0 (divisor m)
unfolding divisor
divisor_begin m = record { left = refl }

-- a least common multiple never falls: what is above a limit on the way is above it at the end
pub taking_rises : {m : Machine} {x j v : ℕ} → Taking lcm m x j v → 0 < x → Each (λ p. 0 < p) (periods m) → x ≤ v
taking_rises {m} {x} {j} h p each =
    rw (← h.left) (lcms_rises x (drop j (periods m)) p (each_drop (λ p. 0 < p) j (periods m) each))

-- h is the least common multiple of the periods of the machines before machine k, and v that of all
pub record Gathering (ms : List Machine) (h k v : ℕ) : Type 0 where
  pub left : fold lcm h (all_periods (drop k ms)) ≡ v

machine_next : (ms : List Machine) (h k : ℕ) → k < length ms
    → fold lcm h (all_periods (drop k ms))
    ≡ fold lcm (fold lcm h (periods (machine_of ms k))) (all_periods (drop (suc k) ms))
unfolding all_periods
machine_next ms h k l =
    ap (λ rest. fold lcm h (all_periods rest)) (drop-cons ms k _ l)
    ∙ fold_append lcm h (periods (machine_of ms k)) (all_periods (drop (suc k) ms))

each_rest : (P : ℕ → Type 0) (k : ℕ) (l : List Machine) → Each P (all_periods l) → Each P (all_periods (drop k l))
unfolding all_periods
each_rest P zero l h = h
each_rest P (suc k) [] h = h
each_rest P (suc k) (m ∷ l) h = each_rest P k l ((each_append P (periods m) (all_periods l)).0 h).1

module _ {ms : List Machine} where
  pub gathering_begin : Gathering ms 1 0 (hyperperiod ms)
  unfolding hyperperiod
  gathering_begin = record { left = refl }

  pub gathering_more : {h k v : ℕ} (g : ℕ) → Gathering ms h k v → k < length ms
      → g ≡ fold lcm h (periods (machine_of ms k)) → Gathering ms g (k + 1) v
  gathering_more {h} {k} g w l e = record { left = rw (add-one, e) (sym (machine_next ms h k l) ∙ w.left) }

  pub gathering_end : {h k v : ℕ} → Gathering ms h k v → length ms ≤ k → h ≡ v
  unfolding fold all_periods
  gathering_end {h} {k} w l =
      ap (λ rest. fold lcm h (all_periods rest)) (sym (drop_of_length-le ms l)) ∙ w.left

  pub gathering_rises : {h k v : ℕ} → Gathering ms h k v → 0 < h → Each (λ p. 0 < p) (all_periods ms) → h ≤ v
  gathering_rises {h} {k} w p each =
      rw (← w.left) (lcms_rises h (all_periods (drop k ms)) p (each_rest (λ p. 0 < p) k ms each))
