-- No second answer has the same reply: each is read back from it.
use Prim.Native.Nat.{ℕ}
use mathlib.Core.Path.{◌≡◌, refl, sym, ◌∙◌, ap}
use mathlib.Core.List.{[], ◌∷◌}
use Rattle.std.specs.Prelude.{cond, eqb, Option, None, Some, Result, Ok, Err, ⊤}
use Rattle.reply.specs.declared.Accepted.{Accepted}
use Rattle.reply.specs.declared.Refusal.{Refusal}
use Rattle.reply.specs.declared.Reason.{Reason}
use Rattle.reply.specs.declared.Reason.TheVariants.{Length, LastFour, MachineCount, Trailer, Entry, Offset, Action}
use Rattle.reply.specs.declared.Reason.TheVariants.{Deadline, Hyperperiod, UnknownMachine, Window, ShortOutput}
use Rattle.reply.specs.declared.Reason.TheVariants.{ManyInstants}
use Rattle.reply.specs.declared.Verdict.{Verdict}
use Rattle.reply.specs.declared.Verdict.TheVariants.{Fits, Late, Open}
use Rattle.reply.specs.Reply.{Reply, answer, refused, refusal_for}
use Rattle.reply.specs.Printed.{handed}
use Rattle.reply.specs.Checked.{paper as checked_paper}
use Rattle.reply.specs.Answer.{paper as answer_paper}
use Rattle.reply.specs.Tabled.{paper as tabled_paper}
use Rattle.reply.specs.Verdict.{paper as verdict_paper}

-- the reason that has a refusal; any would do for a number that none has
read_reason : Refusal → Reason
read_reason r =
    cond (eqb r.number 1) Length
    (cond (eqb r.number 2) LastFour
    (cond (eqb r.number 3) MachineCount
    (cond (eqb r.number 4) Trailer
    (cond (eqb r.number 5) (Entry r.first)
    (cond (eqb r.number 6) (Offset r.first)
    (cond (eqb r.number 7) (Action r.first r.second)
    (cond (eqb r.number 8) (Deadline r.first r.second)
    (cond (eqb r.number 9) Hyperperiod
    (cond (eqb r.number 10) UnknownMachine
    (cond (eqb r.number 11) Window
    (cond (eqb r.number 12) ShortOutput ManyInstants)))))))))))

read_back : (r : Reason) → read_reason (refusal_for r) ≡ r
unfolding read_reason
read_back Length = refl
read_back LastFour = refl
read_back MachineCount = refl
read_back Trailer = refl
read_back (Entry machine) = refl
read_back (Offset machine) = refl
read_back (Action machine action) = refl
read_back (Deadline machine action) = refl
read_back Hyperperiod = refl
read_back UnknownMachine = refl
read_back Window = refl
read_back ShortOutput = refl
read_back ManyInstants = refl

read_handed : Option Refusal → Option Reason
read_handed None = None
read_handed (Some r) = Some (read_reason r)

-- no two reasons, or none and one, have the same refusal
pub handed_unique : (r q : Option Reason) → handed r ≡ handed q → r ≡ q
unfolding read_handed
handed_unique r q e = sym (back r) ∙ ap read_handed e ∙ back q
  where
    back : (r : Option Reason) → read_handed (handed r) ≡ r
    back None = refl
    back (Some r) = ap Some (read_back r)

module _ {A : Type 0} (paper : Result A Reason → Reply) (read : Reply → Result A Reason)
    (back : (r : Result A Reason) → read (paper r) ≡ r) where
  unique_by : {reply : Reply} (r q : Result A Reason) → paper r ≡ reply → paper q ≡ reply → r ≡ q
  unique_by r q e g = sym (back r) ∙ ap read (e ∙ sym g) ∙ back q

-- what `check` answered; any answer would do where it replies nothing of the kind
read_checked : Reply → Result Accepted Reason
read_checked (answer n []) = Ok (record { machines = 0; hyperperiod = 0 })
read_checked (answer n (a ∷ [])) = Ok (record { machines = 0; hyperperiod = 0 })
read_checked (answer n (a ∷ b ∷ l)) = Ok (record { machines = a; hyperperiod = b })
read_checked (refused r) = Err (read_reason r)

pub checked_unique : {reply : Reply} (r q : Result Accepted Reason) → checked_paper r ≡ reply → checked_paper q ≡ reply
    → r ≡ q
unfolding read_checked
checked_unique = unique_by checked_paper read_checked back
  where
    back : (r : Result Accepted Reason) → read_checked (checked_paper r) ≡ r
    back (Ok a) = refl
    back (Err r) = ap Err (read_back r)

read_answer : Reply → Result ℕ Reason
read_answer (answer n []) = Ok 0
read_answer (answer n (a ∷ l)) = Ok a
read_answer (refused r) = Err (read_reason r)

pub answer_unique : {reply : Reply} (r q : Result ℕ Reason) → answer_paper r ≡ reply → answer_paper q ≡ reply → r ≡ q
unfolding read_answer
answer_unique = unique_by answer_paper read_answer back
  where
    back : (r : Result ℕ Reason) → read_answer (answer_paper r) ≡ r
    back (Ok a) = refl
    back (Err r) = ap Err (read_back r)

read_tabled : Reply → Result ⊤ Reason
read_tabled (answer n l) = Ok tt
read_tabled (refused r) = Err (read_reason r)

pub tabled_unique : {reply : Reply} (r q : Result ⊤ Reason) → tabled_paper r ≡ reply → tabled_paper q ≡ reply → r ≡ q
unfolding read_tabled
tabled_unique = unique_by tabled_paper read_tabled back
  where
    back : (r : Result ⊤ Reason) → read_tabled (tabled_paper r) ≡ r
    back (Ok _) = refl
    back (Err r) = ap Err (read_back r)

read_verdict : Reply → Result Verdict Reason
read_verdict (answer n []) = Ok Fits
read_verdict (answer n (a ∷ [])) = Ok Fits
read_verdict (answer n (a ∷ b ∷ [])) = Ok (Open a b)
read_verdict (answer n (a ∷ b ∷ c ∷ [])) = Ok Fits
read_verdict (answer n (a ∷ b ∷ c ∷ d ∷ l)) = Ok (Late (record { machine = a; start = b; length = c; demand = d }))
read_verdict (refused r) = Err (read_reason r)

pub verdict_unique : {reply : Reply} (r q : Result Verdict Reason) → verdict_paper r ≡ reply → verdict_paper q ≡ reply
    → r ≡ q
unfolding read_verdict
verdict_unique = unique_by verdict_paper read_verdict back
  where
    back : (r : Result Verdict Reason) → read_verdict (verdict_paper r) ≡ r
    back (Ok Fits) = refl
    back (Ok (Late w)) = refl
    back (Ok (Open a b)) = refl
    back (Err r) = ap Err (read_back r)
