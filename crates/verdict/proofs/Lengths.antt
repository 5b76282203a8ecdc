-- The walk of one machine and start over the lengths: what it has come to, and what a length says.
use Prim.Native.Nat.{ℕ, suc, ◌+◌, ◌-◌, ◌*◌, ◌≤◌, ◌<◌, max}
use mathlib.Core.Path.{◌≡◌, refl, sym, ◌∙◌, ap, ap₂}
use mathlib.Core.Bool.{false}
use Rattle.std.specs.Prelude.{None, Some}
use Rattle.std.specs.Ordering.{ord_max, nat_cmp}
use Rattle.std.proofs.lemmas.Bool.Decides.{nat_tests}
use native.Mathlib.Omega.{arith}
use native.Mathlib.Numerals.{add-one}
use borrow.Author.Tests.{le-leb, lt-leb}
use Rattle.model.specs.Limits.{longest_window, longest_hyperperiod}
use Rattle.model.specs.Machine.{machine_of}
use Rattle.model.specs.Reckon.{demand}
use Rattle.model.specs.Verdict.{added, requests, closes, gives, Late, Open}
use Rattle.model.specs.Scan.{scan, slack}
use Rattle.model.proofs.Bounds.{demand_request}
use Rattle.model.proofs.Verdict.{closes_at_most}
use Rattle.model.proofs.Scan.{scan_gives, scan_closed, scan_late, scan_next, scan_open, passes_slack}
use Rattle.sheet.specs.Format.{machine_count}
use Rattle.sheet.proofs.Entries.{few_machines}
use Rattle.level.specs.declared.Level.{Level}
use Rattle.level.specs.declared.masked.MaskedSheet.{MaskedSheet}
use Rattle.level.specs.Inside.{machines_of, LevelAt, LevelStands, LevelOnward}
use Rattle.level.proofs.Moving.{sheet_sizes}
use Rattle.level.proofs.Half.{largest_request, request_small, requests_small}

-- a sheet has few machines, and a hyperperiod that is no longer than the longest
module _ (masked : MaskedSheet) where
  pub machines_few : {i : ℕ} → i < machine_count masked.sheet.bytes.now → i < 8
  machines_few known = omega (arith, known, (few_machines masked.sheet.counted.accepted).1)

  pub period_short : masked.sheet.hyperperiod ≤ longest_hyperperiod
  period_short = omega (arith, masked.sheet.counted.period, masked.sheet.counted.accepted.hyperperiod.1)

-- the lengths before n are done
pub record Walked (masked : MaskedSheet) (i s n : ℕ) (level : Level) (room : ℕ) : Type 0 where
  pub next : n ≡ level.ticks + 1
  pub stands : LevelAt masked i s level.ticks level
  pub roomy : room ≡ slack (machines_of masked) i s level.ticks
  pub left : scan (machines_of masked) i s n (longest_window + 1 - n) ≡ gives (machines_of masked) i s

module _ {masked : MaskedSheet} {i s : ℕ} where
  pub walked_begin : {level : Level} → LevelAt masked i s 0 level → Walked masked i s 1 level 0
  unfolding slack
  walked_begin h =
      let e = h.placed.ticks in
      record { next = rw e refl; stands = rw (← e) at h; roomy = rw e refl; left = scan_gives (machines_of masked) i s }

  module _ {n room : ℕ} {level : Level} (w : Walked masked i s n level room) where
    pub walked_stands : LevelStands masked level
    walked_stands = rw (← w.stands.placed.machine, ← w.stands.placed.start) at w.stands

    -- no length is left
    pub walked_open : longest_window < n → Some (Open i s) ≡ gives (machines_of masked) i s
    walked_open l =
        let none : longest_window + 1 - n ≡ 0 = omega arith in
        sym (scan_open (machines_of masked) i s n) ∙ rw none at w.left

largest : (m n : ℕ) → ord_max nat_cmp m n ≡ max m n
largest m n = grind (arith, nat_tests)

-- what length n says, of a level that has come to it
module _ {masked : MaskedSheet} {i s n before : ℕ} {old level : Level} (walked : Walked masked i s n old before)
    (onward : LevelOnward masked old level) where
  here : LevelAt masked i s n level
  here = rw (walked.stands.placed.machine, walked.stands.placed.start, ← walked.next) at onward

  pub level_small : level.above + level.own ≤ 8 * largest_request
  level_small =
      let counted = masked.sheet.counted in
      let known : i < machine_count masked.sheet.bytes.now = omega (arith, here.placed.known, counted.count) in
      omega (
        arith,
        here.figures.above,
        here.figures.own,
        (few_machines counted.accepted).1,
        requests_small counted.accepted i s n (omega (arith, known)) here.placed.near,
        request_small counted.accepted i s n known here.placed.near,
      )

  both : level.above + level.own ≡ requests (machines_of masked) (suc i) s n
  unfolding added
  both = ap₂ ◌+◌ here.figures.above here.figures.own

  left : scan (machines_of masked) i s n (suc (longest_window - n)) ≡ gives (machines_of masked) i s
  left =
      let more : suc (longest_window - n) ≡ longest_window + 1 - n = omega (arith, here.placed.near) in
      rw more walked.left

  pub length_closes : level.above + level.own ≤ n → None ≡ gives (machines_of masked) i s
  length_closes l =
      sym (scan_closed (machines_of masked) i s n (longest_window - n)
      ((closes_at_most (machines_of masked) i s n).1 (omega (arith, both))))
      ∙ left

  -- and of the demand bound there
  pub length_demand : {d : ℕ} → d ≡ demand (machine_of (machines_of masked) level.machine) level.start level.ticks
      → d ≡ demand (machine_of (machines_of masked) i) s n
  length_demand e = rw (here.placed.machine, here.placed.start, here.placed.ticks) at e

  -- and of the largest room with that of this length
  module _ (over : n < level.above + level.own) {rest room : ℕ} (rest_is : rest ≡ n - level.above)
      (more : room ≡ ord_max nat_cmp before rest) where
    not_closed : closes (machines_of masked) i s n ≡ false
    unfolding closes
    not_closed = lt-leb (requests (machines_of masked) (suc i) s n) n (omega (arith, both))

    room_next : room ≡ slack (machines_of masked) i s n
    unfolding slack
    room_next =
        let e : n ≡ suc old.ticks = omega (arith, walked.next) in
        more
        ∙ largest before rest
        ∙ ap (max before) rest_is
        ∙ ap₂ (λ x y. max x (n - y)) walked.roomy here.figures.above
        ∙ rw e

    -- which is the room of this length
    pub room_now : room ≡ slack (machines_of masked) i s n
    room_now = room_next

    pub length_late : {d : ℕ} → d ≡ demand (machine_of (machines_of masked) i) s n → room < d
        → Some (Late i s n d) ≡ gives (machines_of masked) i s
    length_late e l =
        ap (λ d. Some (Late i s n d)) e
        ∙ sym (scan_late (machines_of masked) i s n (longest_window - n) not_closed
        (passes_slack (machines_of masked) i s n ∙ lt-leb _ _ (rw (room_next, e) at l)))
        ∙ left

    pub walked_next : demand (machine_of (machines_of masked) i) s n ≤ room → Walked masked i s (n + 1) level room
    walked_next l =
        record {
          next = ap (λ k. k + 1) (sym here.placed.ticks);
          stands = rw (← here.placed.ticks) at here;
          roomy = rw here.placed.ticks room_next;
          left =
              rw (add-one n, let z : longest_window + 1 - suc n ≡ longest_window - n = omega arith in z)
              (sym (scan_next (machines_of masked) i s n (longest_window - n) not_closed
              (passes_slack (machines_of masked) i s n ∙ le-leb _ _ (rw room_next at l)))
              ∙ left);
        }

    -- a demand is at most the request
    pub walked_light : level.own ≤ room → Walked masked i s (n + 1) level room
    walked_light l =
        let sizes = sheet_sizes masked.sheet i here.placed.known in
        walked_next
        (omega (
          arith,
          here.figures.own,
          demand_request (machine_of (machines_of masked) i) (λ k c. (sizes.action k c).deadline.0) s n,
        ))
