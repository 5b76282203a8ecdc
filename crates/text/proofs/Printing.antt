-- A text in lent bytes: what a call promises of it, by whether there is room.
use Prim.Native.Nat.{ℕ, ◌≤◌, ◌<◌}
use mathlib.Core.Path.{◌≡◌, refl, ◌∙◌, ap}
use mathlib.Core.List.{List, ◌++◌}
use Rattle.std.specs.Prelude.{Option, None}
use borrow.Author.Tests.{le-leb, lt-leb}
use lib.ListN.{length, drop}
use Rattle.reply.specs.declared.Refusal.{Refusal}
use Rattle.reply.specs.declared.Printed.{Printed}
use Rattle.reply.specs.Printed.{handed, printed_length, printed}
use Rattle.reply.proofs.Printing.{unprinted, Promised}

-- a text that has been put at the start is printed
pub printed_so : (room : ℕ) (text before : List ℕ) {r : ℕ} {after : List ℕ} → room ≤ length before → r ≡ length text
    → after ≡ text ++ drop r before → (r ≡ printed_length room text before) × (after ≡ printed room text before)
printed_so room text before lent whole says =
    rw (le-leb room (length before) lent) (whole, says ∙ ap (λ n. text ++ drop n before) whole)

-- with the refusal that it prints
pub prints_so : (room : ℕ) (text before : List ℕ) (x : Option Refusal) (r : Printed) {after : List ℕ}
    → room ≤ length before → r.length ≡ length text → after ≡ text ++ drop r.length before → handed r.refused ≡ x
    → Promised room text x before r after
prints_so room text before x r lent whole says hands =
    let (size, memory) = printed_so room text before lent whole says in
    (size, (hands ∙ rw (le-leb room (length before) lent) refl, memory))

-- where there is too little room, nothing is printed, and no refusal is handed back
pub nothing_prints : (room : ℕ) (text before : List ℕ) (x : Option Refusal) (r : Printed) → r.length ≡ 0
    → handed r.refused ≡ None → length before < room → Promised room text x before r before
nothing_prints room text before x r zero none lent =
    let (size, memory) = unprinted room text before lent in
    (zero ∙ size, (rw (lt-leb room (length before) lent) none, memory))
