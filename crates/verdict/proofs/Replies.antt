-- The reply of `judge`: what it is, what Fits promises, and that no second result satisfies the contract.
use Prim.Native.Nat.{ℕ}
use mathlib.Core.Path.{◌≡◌, refl, sym, ◌∙◌, ap}
use mathlib.Core.List.{List}
use Rattle.std.specs.Prelude.{Option, None, Some, unwrap_or, Result, Ok}
use Rattle.model.specs.Run.{Safe}
use Rattle.model.specs.Search.{first_of}
use Rattle.model.specs.Verdict.{machine_gives, verdict, Fits as fits}
use Rattle.model.proofs.Safe.{fits_safe}
use Rattle.reply.specs.declared.Reason.{Reason}
use Rattle.reply.specs.declared.Verdict.{Verdict}
use Rattle.reply.specs.declared.Verdict.TheVariants.{Fits}
use Rattle.reply.specs.Verdict.{paper}
use Rattle.reply.proofs.Unique.{verdict_unique}
use Rattle.sheet.specs.Format.{machine_count, decode}
use Rattle.sheet.specs.Inside.{Accepted}
use Rattle.sheet.proofs.Decode.{decode_count}
use Rattle.rules.specs.Check.{refusal_of}
use Rattle.rules.proofs.Replies.{not_refused}
use Rattle.verdict.specs.Judge.{verdict_reply}
use Rattle.verdict.specs.Inside.{judgement, found}

-- the verdict is the first that a machine gives
pub verdict_is : (b : List ℕ) {n : ℕ} (o : Option Verdict) → n ≡ machine_count b
    → found o ≡ first_of (machine_gives (decode b)) 0 n → judgement (unwrap_or o Fits) ≡ verdict (decode b)
unfolding verdict
verdict_is b o count e =
    fits_else o
    ∙ ap (λ x. unwrap_or x fits) e
    ∙ ap (λ k. unwrap_or (first_of (machine_gives (decode b)) 0 k) fits) (count ∙ sym (decode_count b))
  where
    fits_else : (o : Option Verdict) → judgement (unwrap_or o Fits) ≡ unwrap_or (found o) fits
    fits_else None = refl
    fits_else (Some v) = refl

-- where it is Fits, no run is late
pub verdict_safe : {b : List ℕ} {v : Verdict} → Accepted b → judgement v ≡ verdict (decode b)
    → ◌≡◌ {A = Result Verdict Reason} (Ok v) (Ok Fits) → Safe (decode b)
verdict_safe {b} {v} accepted e f =
    let same : v ≡ Fits = cc in
    fits_safe accepted.sizes (sym e ∙ ap judgement same)

-- the same of a sheet that no rule refuses
pub given_safe : (b : List ℕ) → refusal_of b ≡ None → fits ≡ verdict (decode b) → Safe (decode b)
given_safe b e f = fits_safe (not_refused b e).sizes (sym f)

-- no second result satisfies the contract of `judge`
pub judge_unique : (b : List ℕ) (r s : Result Verdict Reason) → paper r ≡ verdict_reply b → paper s ≡ verdict_reply b
    → r ≡ s
judge_unique b = verdict_unique
