-- The mask of a tick: what it says of the machine's actions, and a loop that takes its digits off one by one.
use Prim.Native.Nat.{ℕ, ◌+◌, ◌*◌, ◌/◌, ◌%◌, ◌^◌, ◌≤◌, ◌<◌, max}
use mathlib.Core.Path.{◌≡◌, refl, sym, ◌∙◌, ap}
use mathlib.Core.Bool.{true, false, ◌&&◌, true≢false, and-false}
use mathlib.Core.List.{List, ◌++◌}
use mathlib.Core.Logic.Iff
use native.Mathlib.Omega.{arith}
use native.Mathlib.Numerals.{add-one}
use native.Mathlib.Nat.{le_antisymm, mod-add-div'}
use native.Mathlib.Decide.{dec_lt, ℕ_discrete}
use lib.ListN.{length, get_or, set, length-set, get_or-append}
use lib.Seq.{get_or-set_same, get_or-set_other}
use lib.Bits.{bit_and}
use Rattle.std.specs.Int.{bit_at, bit_not, trailing_zeros, w32}
use Rattle.std.proofs.lemmas.Nat.{and_le_l}
use Rattle.std.proofs.lemmas.Nat.Bits.{bit_at-zero, bit_at_above, bit_at-trailing_zeros}
use Rattle.std.proofs.lemmas.Nat.Bits.{bit_at_clear_same, bit_at_clear_other}
use Rattle.model.specs.Machine.{Machine, count, action_of, divisor}
use Rattle.model.specs.Reckon.{is_instant, may_begin, most}
use Rattle.model.specs.Inside.{Repeats, may_trigger}
use Rattle.model.proofs.Tests.{test_same}
use Rattle.model.proofs.Names.{is_instant_law, off_divisor}
use Rattle.model.proofs.Shift.{repeats_times}
use Rattle.model.proofs.Most.{most_above, most_below}
use Rattle.walk.specs.Inside.{bit, Marks, AllMarked, WindowMarked, Lowest}
use Rattle.walk.proofs.Binary.{bit_true, bit_false, binary_limit, binary_digit}
use Rattle.walk.proofs.Binary.{binary_cong, binary_none, binary_some}

-- the digits of a mask say which actions may be triggered
module _ {m : Machine} {t mask : ℕ} (h : Marks m t mask) where
  marks_digit : (j : ℕ) → j < count m → bit_at mask j ≡ bit (may_trigger m t j)
  marks_digit j l =
      let e : 0 + j ≡ j = omega arith in
      ap (λ x. bit_at x j) h.is ∙ rw e at (binary_digit (may_trigger m t) 0 (count m) j l)

  pub marks_one : (j : ℕ) → bit_at mask j ≡ 1 → (j < count m) × (may_trigger m t j ≡ true)
  marks_one j e =
      elim (dec_lt j (count m)) [
        | yes l ↦ (l, bit_true (may_trigger m t j) (sym (marks_digit j l) ∙ e))
        | no d ↦
            let limit : mask < 2 ^ count m = rw h.is (binary_limit (may_trigger m t) 0 (count m)) in
            absurd (omega (arith, e, bit_at_above mask (count m) j limit (omega arith)))
      ]

  pub marks_other : (j : ℕ) → bit_at mask j ≡ 0 → j < count m → may_trigger m t j ≡ false
  marks_other j e l = bit_false (may_trigger m t j) (sym (marks_digit j l) ∙ e)

-- a mask of no action, and one of some
pub marks_none : {m : Machine} {t : ℕ} → Marks m t 0 → (j : ℕ) → j < count m → may_trigger m t j ≡ true → ⊥
marks_none {m} {t} h j l i = true≢false (sym i ∙ marks_other h j (bit_at-zero j) l)

pub marks_some : {m : Machine} {t mask : ℕ} → Marks m t mask → (mask ≡ 0 → ⊥)
    → (j : ℕ) × (j < count m) × (may_trigger m t j ≡ true)
marks_some {m} {t} h some =
    let (j, l, e) = binary_some (may_trigger m t) 0 (count m) (λ z. some (h.is ∙ z)) in
    (j, omega arith, e)

-- a tick that is no multiple of the divisor has no instant
pub marks_off : (m : Machine) (t g : ℕ) → g ≡ divisor m → (t % g ≡ 0 → ⊥) → Marks m t 0
marks_off m t g e h =
    record {
      is =
          sym (binary_none (may_trigger m t) 0 (count m) (λ k l.
          ap (λ x. may_begin m (action_of m k).source && x) (off_divisor m k t (omega arith) (rw e at h))
          ∙ and-false (may_begin m (action_of m k).source)));
    }

-- where the instants come again after h ticks, the masks of [0, h) serve for all
pub marks_remainder : {m : Machine} (h : ℕ) {t mask : ℕ} → Repeats m h → Marks m (t % h) mask → Marks m t mask
marks_remainder {m} h {t} again g =
    record {
      is =
          g.is
          ∙ binary_cong (may_trigger m (t % h)) (may_trigger m t) 0 (count m) (λ k l.
          ap (λ x. may_begin m (action_of m k).source && x) (same k (omega arith)));
    }
  where
    same : (k : ℕ) → k < count m → is_instant m k (t % h) ≡ is_instant m k t
    same k l =
        test_same (is_instant m k (t % h)) (is_instant m k t)
        (Iff.trans (is_instant_law m k (t % h))
        (Iff.trans (Iff.symm (repeats_times m h again (t / h) k l (t % h)))
        (rw (mod-add-div' t h) (Iff.symm (is_instant_law m k t)))))

-- of n words the first k are marked
pub record Marking (m : Machine) (from n k : ℕ) (masks : List ℕ) : Type 0 where
  pub long : length masks ≡ n
  pub at : (i : ℕ) → i < k → Marks m (from + i) (get_or masks i 0)

-- none, one more, and all of them
module _ {m : Machine} {from n : ℕ} {masks : List ℕ} where
  pub marking_begin : length masks ≡ n → Marking m from n 0 masks
  marking_begin e = record { long = e; at = λ i l. absurd (omega arith) }

  pub marking_more : {k : ℕ} (mask : ℕ) → Marking m from n k masks → k < length masks → Marks m (from + k) mask
      → Marking m from n (k + 1) (set masks k mask)
  marking_more {k} mask h l g =
      record {
        long = length-set masks k mask ∙ h.long;
        at = λ i b.
            elim (ℕ_discrete i k) [
              | yes e ↦ rw (e, get_or-set_same masks k mask 0 l) g
              | no d ↦ rw (get_or-set_other masks k i mask 0 d) (h.at i (omega arith))
            ];
      }

  pub marking_end : {k : ℕ} → Marking m from n k masks → length masks ≤ k → AllMarked m from masks
  marking_end h l = record { at = λ i b. h.at i (omega arith) }

-- where the words for a window and its end are marked, the window is, whatever stands beyond them
pub marked_window : {m : Machine} {from n : ℕ} {masks : List ℕ} (beyond : List ℕ) → AllMarked m from masks
    → length masks ≡ n + 1 → WindowMarked m from n (masks ++ beyond)
marked_window {m} {from} {n} {masks} beyond h e =
    record {
      at = λ k l.
          let b : k < length masks = omega arith in
          rw (get_or-append masks beyond 0 k b) (h.at k b);
    }

-- the lowest 1 of a word, as `trailing_zeros` finds it and a mask of the others takes it off
pub lowest_taken : (left : ℕ) → 0 < left → left < 2 ^ 32
    → let j = trailing_zeros w32 left in Lowest left j (bit_and left (bit_not w32 (1 * 2 ^ j % 2 ^ 32)))
lowest_taken left some word =
    let j = trailing_zeros w32 left in
    let mask = bit_not w32 (1 * 2 ^ j % 2 ^ 32) in
    let (within, one, below) = bit_at-trailing_zeros w32 left some word in
    record {
      one = one;
      lowest = below;
      taken = bit_at_clear_same w32 left j within;
      kept = λ i d.
          elim (dec_lt i 32) [
            | yes l ↦ bit_at_clear_other w32 left j within i l d
            | no l ↦
                let over : 32 ≤ i = omega arith in
                let less : bit_and left mask < 2 ^ 32 = omega (arith, and_le_l left mask) in
                bit_at_above (bit_and left mask) 32 i less over ∙ sym (bit_at_above left 32 i word over)
          ];
    }

-- what is left is less
pub lowest_less : (left mask : ℕ) {j : ℕ} → Lowest left j (bit_and left mask) → bit_and left mask < left
lowest_less left mask {j} h =
    elim (dec_lt (bit_and left mask) left) [
      | yes l ↦ l
      | no d ↦
          let same : bit_and left mask ≡ left = omega (arith, and_le_l left mask) in
          absurd (omega (arith, h.one, h.taken, ap (λ x. bit_at x j) same))
    ]

-- `left` has the digits of the mask from j on, and no others
pub record Unseen (mask j left : ℕ) : Type 0 where
  pub gone : (i : ℕ) → i < j → bit_at left i ≡ 0
  pub same : (i : ℕ) → j ≤ i → bit_at left i ≡ bit_at mask i

pub unseen_begin : {mask : ℕ} → Unseen mask 0 mask
unseen_begin = record { gone = λ i l. absurd (omega arith); same = λ i l. refl }

-- the next action that it gives is k
module _ {mask j left k others : ℕ} (h : Unseen mask j left) (next : Lowest left k others) where
  unseen_on : j ≤ k
  unseen_on = elim (dec_lt k j) [ yes l ↦ absurd (omega (arith, h.gone k l, next.one)) | no d ↦ omega arith ]

  pub unseen_next : Unseen mask (k + 1) others
  unseen_next =
      record {
        gone = λ i l.
            elim (ℕ_discrete i k) [
              | yes e ↦ rw e next.taken
              | no d ↦ next.kept i d ∙ next.lowest i (omega arith)
            ];
        same = λ i l. next.kept i (omega arith) ∙ h.same i (omega (arith, unseen_on));
      }

  module _ {m : Machine} {t : ℕ} (marks : Marks m t mask) where
    pub unseen_one : (k < count m) × (may_trigger m t k ≡ true)
    unseen_one = marks_one marks k (sym (h.same k unseen_on) ∙ next.one)

    -- those that it passes over may not be triggered
    pub unseen_passed : (i : ℕ) → j ≤ i → i < k → may_trigger m t i ≡ false
    unseen_passed i a b =
        marks_other marks i (sym (h.same i a) ∙ next.lowest i b) (omega (arith, unseen_one.0))

-- with no digit left no other may be triggered
pub unseen_none : {mask j left : ℕ} {m : Machine} {t : ℕ} → Unseen mask j left → left ≡ 0 → Marks m t mask
    → (i : ℕ) → j ≤ i → i < count m → may_trigger m t i ≡ false
unseen_none h e marks i a b = marks_other marks i (sym (h.same i a) ∙ rw e (bit_at-zero i)) b

-- the largest of the first n, where those from j on are 0
most_idle : (g : ℕ → ℕ) (j n : ℕ) → j ≤ n → ((k : ℕ) → j ≤ k → k < n → g k ≡ 0) → most n g ≡ most j g
most_idle g j n l h =
    le_antisymm
    (most_below n g (most j g) (λ k b.
    elim (dec_lt k j) [ yes c ↦ most_above j g k c | no c ↦ omega (arith, h k (omega arith) b) ]))
    (most_below j g (most n g) (λ k b. most_above n g k (omega arith)))

-- v is a, or the most that actions 0 to j - 1 bring at a tick that the mask marks
pub record Most (m : Machine) (mask : ℕ) (brings : ℕ → ℕ → ℕ) (a j v : ℕ) : Type 0 where
  pub early : (t : ℕ) → Marks m t mask → j ≤ count m
  pub is : (t : ℕ) → Marks m t mask → v ≡ max a (most j (brings t))

module _ {m : Machine} {mask : ℕ} {brings : ℕ → ℕ → ℕ} {a : ℕ} where
  pub most_begin : Most m mask brings a 0 a
  unfolding most
  most_begin = record { early = λ t g. omega arith; is = λ t g. omega arith }

  -- what may not be triggered brings nothing
  module _ (idle : (t k : ℕ) → may_trigger m t k ≡ false → brings t k ≡ 0) {j left v : ℕ}
      (h : Most m mask brings a j v) (unseen : Unseen mask j left) where
    -- one more
    pub most_more : {k others : ℕ} → Lowest left k others → (u : ℕ)
        → ((t : ℕ) → Marks m t mask → u ≡ max v (brings t k)) → Most m mask brings a (k + 1) u
    unfolding most
    most_more {k} next u e =
        record {
          early = λ t g. omega (arith, (unseen_one unseen next g).0);
          is = λ t g.
              let passed = most_idle (brings t) j k (unseen_on unseen next)
              (λ i b c. idle t i (unseen_passed unseen next g i b c)) in
              rw add-one (omega (arith, h.is t g, e t g, passed));
        }

    -- with no digit left
    pub most_end : left ≡ 0 → (t : ℕ) → Marks m t mask → v ≡ max a (most (count m) (brings t))
    most_end e t g =
        h.is t g
        ∙ ap (max a)
        (sym (most_idle (brings t) j (count m) (h.early t g) (λ k b c. idle t k (unseen_none unseen e g k b c))))
