-- The text of `fit`, from what it prints, and that no second text, and no second refusal handed back, meets what `fit`
-- promises.
use Prim.Native.Nat.{ℕ, ◌+◌, ◌≤◌, ◌<◌}
use mathlib.Core.Path.{◌≡◌, refl, sym, ◌∙◌}
use mathlib.Core.List.{List, [], ◌∷◌, ◌++◌}
use native.Mathlib.Omega.{arith}
use Rattle.std.specs.Prelude.{codes, None, Some}
use Rattle.model.specs.Limits.{longest_hyperperiod}
use Rattle.model.specs.Machine.{count, machine_of}
use Rattle.model.specs.Reckon.{request}
use Rattle.model.specs.Inside.{InRange}
use Rattle.model.specs.Verdict.{verdict}
use Rattle.reply.specs.declared.Refusal.{Refusal}
use Rattle.reply.specs.declared.Printed.{Printed}
use Rattle.reply.proofs.Printing.{Promised, promised_unique}
use Rattle.sheet.specs.Format.{machine_count, decode}
use Rattle.sheet.specs.Inside.{Accepted, Counted}
use Rattle.sheet.proofs.Decode.{decode_count}
use Rattle.rules.specs.Check.{refusal_of}
use Rattle.text.specs.Text.{line, refused_line}
use Rattle.fit_text.specs.Fit.{machine_line, machine_lines, verdict_line, accepted_text, fit_text}

-- the window [0, H) may be asked about
pub whole_proper : {b : List ℕ} {i h : ℕ} → Counted b (machine_count b) h → i < machine_count b
    → Accepted b × (i < machine_count b) × InRange 0 (0 + h)
whole_proper {b} {i} {h} a known =
    let few : h ≤ longest_hyperperiod = omega (arith, a.period, a.accepted.hyperperiod.1) in
    (a.accepted, known, record { forward = omega arith; short = omega arith; near = omega arith })

-- the line of a machine, from its figures
pub machine_put : (b : List ℕ) (i : ℕ) {n h states actions bound : ℕ} → Counted b n h
    → states ≡ (machine_of (decode b) i).states → actions ≡ count (machine_of (decode b) i)
    → bound ≡ request (machine_of (decode b) i) 0 h
    → line (codes "M") (i ∷ states ∷ actions ∷ bound ∷ []) ≡ machine_line (decode b) i
machine_put b i c s a q = rw (s, a, q, c.period) refl

-- the lines of an accepted sheet, one after another
pub accepted_put : (b : List ℕ) {n h : ℕ} → Counted b n h
    → line (codes "H") (h ∷ []) ++ machine_lines (decode b) n ++ verdict_line (verdict (decode b))
    ≡ accepted_text (decode b)
accepted_put b a = rw (a.period, a.count ∙ sym (decode_count b)) refl

-- the text of `fit`, by what the rules say
pub refused_prints : (b : List ℕ) {y : Refusal} → refusal_of b ≡ Some y → fit_text b ≡ refused_line y
refused_prints b e = rw e refl

pub accepted_prints : (b : List ℕ) → refusal_of b ≡ None → fit_text b ≡ accepted_text (decode b)
accepted_prints b e = rw e refl

-- no second result and no second memory satisfy the contract of `fit`
pub fit_unique : (b before : List ℕ) (r q : Printed) (after other : List ℕ)
    → Promised 512 (fit_text b) (refusal_of b) before r after → Promised 512 (fit_text b) (refusal_of b) before q other
    → (r ≡ q) × (after ≡ other)
fit_unique b = promised_unique 512 (fit_text b) (refusal_of b)
