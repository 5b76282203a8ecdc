-- A text in lent bytes: that it lies within them, and that no second one meets what a call promises of it.
use Prim.Native.Nat.{ℕ, ◌≤◌, ◌<◌}
use mathlib.Core.Path.{◌≡◌, refl, sym, ◌∙◌, ap, ap₂}
use mathlib.Core.List.{List}
use Rattle.std.specs.Prelude.{Option}
use native.Mathlib.Omega.{arith}
use native.Mathlib.Decide.{dec_le}
use borrow.Author.Tests.{le-leb, lt-leb}
use lib.ListN.{length, drop, length-append}
use Rattle.reply.specs.declared.Refusal.{Refusal}
use Rattle.reply.specs.declared.Printed.{Printed}
use Rattle.reply.specs.Printed.{printed_length, handed, printed_refusal, printed}
use Rattle.reply.proofs.Unique.{handed_unique}

-- too few bytes are left as they were
pub unprinted : (room : ℕ) (text before : List ℕ) → length before < room
    → (0 ≡ printed_length room text before) × (before ≡ printed room text before)
unprinted room text before lent = rw (lt-leb room (length before) lent) (refl, refl)

-- a printed text lies within the lent bytes
pub printed_within : (room : ℕ) (text before : List ℕ) {r : ℕ} {after : List ℕ} → r ≡ printed_length room text before
    → after ≡ printed room text before → r ≤ length after
printed_within room text before {r} {after} e p =
    elim (dec_le room (length before)) [
      | yes l ↦
          let length-is = rw (le-leb room (length before) l) at e in
          let memory-is = rw (le-leb room (length before) l) at p in
          omega (arith, length-is, ap length memory-is, length-append text (drop (length text) before))
      | no l ↦ let none-put = rw (lt-leb room (length before) (omega arith)) at e in omega (arith, none-put)
    ]

-- what a call promises that makes a text: its length, the refusal that it prints, and the lent bytes afterwards
abbrev pub Promised : ℕ → List ℕ → Option Refusal → List ℕ → Printed → List ℕ → Type 0
Promised room text x before r after =
    (r.length ≡ printed_length room text before)
    × ((handed r.refused ≡ printed_refusal room x before) × (after ≡ printed room text before))

-- a line has one length and one memory
pub printed_unique : (room : ℕ) (text before : List ℕ) (r q : ℕ) (after other : List ℕ)
    → r ≡ printed_length room text before → after ≡ printed room text before → q ≡ printed_length room text before
    → other ≡ printed room text before → (r ≡ q) × (after ≡ other)
printed_unique room text before r q after other e p g s = (e ∙ sym g, p ∙ sym s)

-- a text has one length, one refusal and one memory
pub promised_unique : (room : ℕ) (text : List ℕ) (x : Option Refusal) (before : List ℕ) (r q : Printed)
    (after other : List ℕ)
    → Promised room text x before r after → Promised room text x before q other → (r ≡ q) × (after ≡ other)
promised_unique room text x before r q after other p s = (
  ap₂ (λ n y. record { length = n; refused = y }) (p.0 ∙ sym s.0) (handed_unique _ _ (p.1.0 ∙ sym s.1.0)),
  p.1.1 ∙ sym s.1.1,
)
