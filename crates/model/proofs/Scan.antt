-- The walk over the lengths gives what the definition gives; a length passes where its demand is at most the slack.
use Prim.Native.Nat.{ℕ, zero, suc, pred, ◌+◌, ◌-◌, ◌≤◌}
use mathlib.Core.Path.{◌≡◌, refl, ◌∙◌}
use mathlib.Core.Bool.{Bool, true, false, not}
use Rattle.std.specs.Prelude.{Option, None, Some}
use mathlib.Core.List.{List}
use mathlib.Core.Logic.{inl, inr}
use native.Mathlib.Omega.{arith}
use native.Mathlib.Decide.{dec_le}
use lib.Dec.{leb}
use borrow.Author.Tests.{le-leb, leb-true}
use Rattle.model.specs.Limits.{longest_window}
use Rattle.model.specs.Machine.{Machine, machine_of}
use Rattle.model.specs.Reckon.{request, demand}
use Rattle.model.specs.Search.{smallest}
use Rattle.model.specs.Verdict.{requests, closes, closing_length, last_tested}
use Rattle.model.specs.Verdict.{passes, failing_length, Judgement, Late, Open, given, gives}
use Rattle.model.specs.Scan.{scan, slack}
use Rattle.model.proofs.Tests.{true_or_false, test_same}
use Rattle.model.proofs.Bounds.{request_empty}
use Rattle.model.proofs.Added.{added_cong, added_zero}
use Rattle.model.proofs.Search.{none_or_some, smallest_some, smallest_found, smallest_next, smallest_past}
use Rattle.model.proofs.Verdict.{passes_some}

module _ (ms : List Machine) (i s : ℕ) where
  -- one length of the walk: it closes, or it fails, or the walk goes on
  pub scan_closed : (n left : ℕ) → closes ms i s n ≡ true → scan ms i s n (suc left) ≡ None
  unfolding scan
  scan_closed n left c = rw (c, scan)

  pub scan_late : (n left : ℕ) → closes ms i s n ≡ false → passes ms i s n ≡ false
      → scan ms i s n (suc left) ≡ Some (Late i s n (demand (machine_of ms i) s n))
  unfolding scan
  scan_late n left c p = rw (c, p, scan)

  pub scan_next : (n left : ℕ) → closes ms i s n ≡ false → passes ms i s n ≡ true
      → scan ms i s n (suc left) ≡ scan ms i s (suc n) left
  unfolding scan
  scan_next n left c p = rw (c, p, scan)

  pub scan_open : (n : ℕ) → scan ms i s n 0 ≡ Some (Open i s)
  unfolding scan
  scan_open n = refl

  fails : ℕ → Bool
  fails n = not (passes ms i s n)

  -- the smallest closing length from n on, and what the lengths from n on give
  closing_from : ℕ → Option ℕ
  closing_from n = smallest n longest_window (closes ms i s)

  given_from : ℕ → Option Judgement
  given_from n = given ms i s (smallest n (last_tested (closing_from n)) fails) (closing_from n)

  -- a length up to which none closes is tested
  closing_after : (n : ℕ) → n ≤ longest_window → n ≤ last_tested (closing_from (suc n))
  unfolding closing_from
  closing_after n l = elim (none_or_some (closing_from (suc n))) [
    | inl z ↦ rw z l
    | inr x ↦
        let h : n ≤ pred x.0 =
        omega (arith, (smallest_some (suc n) longest_window (closes ms i s) x.0 x.1).least) in
        rw x.1 h
  ]

  scan_given : (n left : ℕ) → 1 ≤ n → n + left ≡ longest_window + 1 → scan ms i s n left ≡ given_from n
  unfolding given_from closing_from fails
  scan_given n zero a e =
      rw (scan_open n, smallest_past n longest_window (closes ms i s) (omega arith))
      (rw (smallest_past n longest_window fails (omega arith)))
  scan_given n (suc left) a e = elim (true_or_false (closes ms i s n)) [
    | inl c ↦
        rw (scan_closed n left c, smallest_found n longest_window (closes ms i s) (omega arith) c)
        (rw (smallest_past n (pred n) fails (omega arith)))
    | inr c ↦
        let last : ℕ = last_tested (closing_from (suc n)) in
        let l : n ≤ last = closing_after n (omega arith) in
        rw (smallest_next n longest_window (closes ms i s) (omega arith) c) (elim (true_or_false (passes ms i s n)) [
          | inl p ↦
              rw (scan_next n left c p, smallest_next n last fails l (rw p refl))
              (scan_given (suc n) left (omega arith) (omega arith))
          | inr p ↦ rw (scan_late n left c p, smallest_found n last fails l (rw p refl))
        ])
  ]

  -- the walk from length 1 over 2,048 lengths, closing tested first, gives what the definition gives
  pub scan_gives : scan ms i s 1 longest_window ≡ gives ms i s
  unfolding gives given_from closing_from fails failing_length closing_length
  scan_gives = scan_given 1 longest_window (omega arith) (omega arith)

  requests_empty : requests ms i s 0 ≡ 0
  requests_empty =
      added_cong i (λ j. request (machine_of ms j) s 0) (λ j. 0) (λ j l. request_empty (machine_of ms j) s)
      ∙ added_zero i

  slack_above : (n m : ℕ) → m ≤ n → m ≤ requests ms i s m + slack ms i s n
  unfolding slack
  slack_above zero m l = omega arith
  slack_above (suc n) m l = elim (dec_le m n) [
    | yes h ↦ omega (arith, slack_above n m h)
    | no h ↦ let e : m ≡ suc n = omega arith in rw e (omega arith)
  ]

  slack_room : (n : ℕ) → (m : ℕ) × (m ≤ n) × (slack ms i s n + requests ms i s m ≤ m)
  unfolding slack
  slack_room zero = (0, omega arith, omega (arith, requests_empty))
  slack_room (suc n) = elim (dec_le (suc n - requests ms i s (suc n)) (slack ms i s n)) [
    | yes h ↦ let (m, l, e) = slack_room n in (m, omega arith, omega arith)
    | no h ↦ (suc n, omega arith, omega arith)
  ]

  -- a length passes exactly where its demand is at most the slack
  pub passes_slack : (n : ℕ) → passes ms i s n ≡ leb (demand (machine_of ms i) s n) (slack ms i s n)
  passes_slack n = test_same (passes ms i s n) (leb d (slack ms i s n)) (
    λ e. let (m, l, h) = (passes_some ms i s n).0 e in le-leb d (slack ms i s n) (omega (arith, slack_above n m l)),
    λ e.
        let (m, l, h) = slack_room n in
        (passes_some ms i s n).1 (m, l, omega (arith, leb-true d (slack ms i s n) e)),
  )
    where
      d : ℕ
      d = demand (machine_of ms i) s n
