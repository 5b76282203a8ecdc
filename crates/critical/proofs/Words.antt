-- Lent words, read as pairs.
use Prim.Native.Nat.{ℕ, suc, ◌+◌, ◌*◌, ◌≤◌, ◌<◌}
use mathlib.Core.Path.{◌≡◌, refl, ◌∙◌, ap}
use mathlib.Core.List.{List, [], ◌∷◌, ◌++◌, append_assoc}
use native.Mathlib.Omega.{arith}
use lib.ListN.{length, take, set, length-set, length-take}
use lib.Seq.{take-suc-set}
use Rattle.std.specs.List.{flat_map}
use Rattle.model.specs.Legal.{Pair}
use Rattle.critical.specs.Critical.{words_of, pairs_in}
use Rattle.critical.specs.Inside.{arrays_of}

-- the words of a sequence are two for each pair
pub words_length : (σ : List Pair) → length (words_of σ) ≡ 2 * length σ
unfolding words_of
words_length [] = refl
words_length (p ∷ σ) = omega (arith, words_length σ)

-- and laid end to end, its arrays are its words
pub arrays_words : (σ : List Pair) → flat_map (λ p. p) (arrays_of σ) ≡ words_of σ
unfolding words_of
arrays_words [] = refl
arrays_words (p ∷ σ) = ap (λ words. p.action ∷ p.instant ∷ words) (arrays_words σ)

-- whatever stands behind them, they are read back as its pairs
pub words_pairs : (σ : List Pair) (rest : List ℕ) → pairs_in (length σ) (words_of σ ++ rest) ≡ σ
unfolding words_of pairs_in
words_pairs [] rest = refl
words_pairs (p ∷ σ) rest = ap (λ τ. p ∷ τ) (words_pairs σ rest)

-- a pair is written behind n others
pub pair_written : (words : List ℕ) (n k t : ℕ) → 2 * n + 1 < length words
    → take (2 * (n + 1)) (set (set words (2 * n) k) (2 * n + 1) t) ≡ take (2 * n) words ++ (k ∷ t ∷ [])
pair_written words n k t l =
    let two : 2 * (n + 1) ≡ suc (2 * n + 1) = omega arith in
    let one : 2 * n + 1 ≡ suc (2 * n) = omega arith in
    let first : take (2 * n + 1) (set words (2 * n) k) ≡ take (2 * n) words ++ (k ∷ []) =
    rw one (take-suc-set words (2 * n) k (omega arith)) in
    rw two
    (take-suc-set (set words (2 * n) k) (2 * n + 1) t (rw length-set l)
    ∙ ap (λ l. l ++ (t ∷ [])) first
    ∙ append_assoc (take (2 * n) words) (k ∷ []) (t ∷ []))

-- words that begin with a sequence have room for it
pub holds_room : (σ : List Pair) {n : ℕ} (words : List ℕ) → n ≡ length σ → take (2 * n) words ≡ words_of σ
    → 2 * n ≤ length words
holds_room σ {n} words number pairs =
    omega (arith, number, ap length pairs, length-take (2 * n) words, words_length σ)
