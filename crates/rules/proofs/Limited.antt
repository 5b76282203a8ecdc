-- H as far as it is no longer than the longest: what the loops over actions and over machines have of it.
use Prim.Native.Nat.{ℕ, ◌+◌, ◌≤◌, ◌<◌}
use mathlib.Core.Path.{◌≡◌, refl, ap₂}
use mathlib.Core.List.{List}
use Rattle.std.specs.Prelude.{None, Some}
use native.Mathlib.Omega.{arith}
use Rattle.std.proofs.lemmas.Bool.Decides.{nat_tests}
use borrow.Author.Tests.{le-leb, lt-leb}
use Rattle.number.specs.Divide.{fold, lcm}
use Rattle.number.proofs.Divide.{lcms_positive}
use Rattle.model.specs.Limits.{longest_hyperperiod}
use Rattle.model.specs.Machine.{machine_of, periods, hyperperiod}
use Rattle.model.specs.Sizes.{Between}
use Rattle.model.proofs.Taking.{Gathering, gathering_more, gathering_rises}
use Rattle.sheet.specs.declared.entry.Entry.{Entry}
use Rattle.sheet.specs.Format.{machine_count, decode}
use Rattle.sheet.specs.Inside.{PeriodsKept}
use Rattle.sheet.specs.Meant.{entry_meant}
use Rattle.sheet.proofs.Decode.{decode_count}
use Rattle.sheet.proofs.Entries.{machine_positive, all_positive}
use Rattle.rules.specs.Inside.{limited}

-- a number within the limit, and one that is above it as a smaller one already is
pub limited_within : (n : ℕ) {r : ℕ} → r ≡ n → r ≤ longest_hyperperiod → Some r ≡ limited n
limited_within n {r} e l = rw (e, le-leb n longest_hyperperiod (rw e at l)) refl

pub limited_above : (n : ℕ) {r : ℕ} → longest_hyperperiod < r → r ≤ n → None ≡ limited n
limited_above n {r} l h = rw (lt-leb n longest_hyperperiod (omega arith)) refl

pub limited_some : (n : ℕ) {r : ℕ} → Some r ≡ limited n → (r ≡ n) × (r ≤ longest_hyperperiod)
limited_some n e = grind (arith, nat_tests)

pub limited_none : (n : ℕ) → None ≡ limited n → longest_hyperperiod < n
limited_none n e = grind (arith, nat_tests)

-- the machine of an entry that was read
pub read_machine : (e : Entry) {b : List ℕ} {k : ℕ} → (e.sheet.now ≡ b) × (e.number ≡ k)
    → entry_meant e ≡ machine_of (decode b) k
read_machine e (sheet, number) = ap₂ (λ b k. machine_of (decode b) k) sheet number

-- a machine's periods taken in
module _ {b : List ℕ} {k h : ℕ} (kept : PeriodsKept b) (known : k < machine_count b) (positive : 1 ≤ h)
    (before : Gathering (decode b) h k (hyperperiod (decode b))) where
  next : Gathering (decode b) (fold lcm h (periods (machine_of (decode b) k))) (k + 1) (hyperperiod (decode b))
  next = gathering_more _ before (omega (arith, decode_count b)) refl

  next_positive : 0 < fold lcm h (periods (machine_of (decode b) k))
  next_positive = lcms_positive _ _ positive (machine_positive _ kept known)

  pub past_limit : None ≡ limited (fold lcm h (periods (machine_of (decode b) k)))
      → None ≡ limited (hyperperiod (decode b))
  past_limit e = limited_above _ (limited_none _ e) (gathering_rises next next_positive (all_positive kept))

  pub next_machine : {g : ℕ} → Some g ≡ limited (fold lcm h (periods (machine_of (decode b) k)))
      → Between 1 longest_hyperperiod g × Gathering (decode b) g (k + 1) (hyperperiod (decode b))
  next_machine e =
      let (same, within) = limited_some _ e in
      ((omega (arith, next_positive), within), gathering_more _ before (omega (arith, decode_count b)) same)
