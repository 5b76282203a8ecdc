-- A table in the middle of being filled, and its words.
use Prim.Native.Nat.{ℕ, ◌+◌, ◌≤◌, ◌<◌}
use mathlib.Core.Path.{◌≡◌, refl, sym, ◌∙◌, ap, ap₂}
use mathlib.Core.List.{List, map, ◌++◌}
use native.Mathlib.Omega.{arith}
use lib.ListN.{length, get_or, set, drop, take, get_or-append}
use Rattle.std.specs.List.{range_with_len}
use Rattle.std.proofs.Common.{length-take-le}
use Rattle.std.proofs.lemmas.Grind.{drop_more_same}
use Rattle.std.proofs.lemmas.List.{take-append-drop, get_or-take, drop-set-lt}
use Rattle.std.proofs.lemmas.List.Edits.{fill_by_more}
use Rattle.std.proofs.lemmas.List.FromFn.{fill_by_all, get_or-map-range_with_len, length-map-range_with_len}
use Rattle.reply.specs.Lent.{in_front}

-- the words of a table, whatever stands behind them
pub listed_first : (f : ℕ → ℕ) (n : ℕ) (rest : List ℕ) (k : ℕ) → k < n
    → get_or (map f (range_with_len 0 n) ++ rest) k 0 ≡ f k
listed_first f n rest k l =
    get_or-append (map f (range_with_len 0 n)) rest 0 k (omega (arith, length-map-range_with_len f 0 n))
    ∙ get_or-map-range_with_len f 0 n k k 0 l (omega arith)

-- the first n words are written, and those beyond are as they were
pub record Filling (f : ℕ → ℕ) (n : ℕ) (old words : List ℕ) : Type 0 where
  pub written : (k : ℕ) → k < n → get_or words k 0 ≡ f k
  pub beyond : drop n words ≡ drop n old

pub filling_begin : (f : ℕ → ℕ) (words : List ℕ) → Filling f 0 words words
filling_begin f words = record { written = λ k l. absurd (omega arith); beyond = refl }

module _ {f : ℕ → ℕ} {old words : List ℕ} where
  pub filling_more : {n v : ℕ} → Filling f n old words → n < length words → v ≡ f n
      → Filling f (n + 1) old (set words n v)
  filling_more {n} h l e =
      rw e
      (record {
        written = fill_by_more f words n 0 l h.written;
        beyond = drop-set-lt (n + 1) words n (f n) (omega arith) ∙ drop_more_same words old n h.beyond;
      })

  pub filling_end : {n : ℕ} → Filling f n old words → n ≤ length words
      → words ≡ in_front (map f (range_with_len 0 n)) old
  filling_end {n} h l =
      sym (take-append-drop n words)
      ∙ ap₂ ◌++◌
      (fill_by_all f (take n words) n 0 (length-take-le n words l) (λ k b. get_or-take n words k 0 b ∙ h.written k b))
      (h.beyond ∙ ap (λ k. drop k old) (sym (length-map-range_with_len f 0 n)))
