-- The smallest action that makes up what is left of the bound.
use Prim.Native.Nat.{ℕ, suc, ◌+◌, ◌<◌}
use mathlib.Core.Path.{◌≡◌, refl, sym, ◌∙◌, ap, ap₂}
use mathlib.Core.Bool.{Bool, true, false, ◌&&◌, and-true, and-false}
use mathlib.Core.List.{List}
use mathlib.Core.Logic.{⊎_elim}
use native.Mathlib.Omega.{arith}
use native.Mathlib.Decide.{dec_lt, ℕ_discrete}
use lib.Dec.{eqb}
use Rattle.std.specs.Prelude.{Option, None, Some}
use Rattle.model.specs.declared.Way.TheVariants.{Back}
use Rattle.model.specs.Machine.{Machine, count, action_of}
use Rattle.model.specs.Legal.{requested}
use Rattle.model.specs.Reckon.{is_instant, may_begin, pair, after, best}
use Rattle.model.specs.Inside.{Closed, may_trigger, figure, IsBack}
use Rattle.model.specs.Critical.{is_making}
use Rattle.model.proofs.Tests.{true_or_false, both_true}
use Rattle.model.proofs.Names.{closed_inside, closed_onward}
use Rattle.model.proofs.Smallest.{Smallest, smallest_is, smallest_unique}
use Rattle.walk.specs.Inside.{Marks, Lowest, brought}
use Rattle.walk.proofs.Mask.{Unseen, unseen_begin, unseen_next, unseen_one, unseen_passed, unseen_none}
use Rattle.critical.specs.Inside.{may_leave, makes_up, makes_at, FirstMaking}

-- the search: `rest` has the digits of the actions that are still to come, and none of the others makes up what is left
pub record Seeking (m : Machine) (mask : ℕ) (leaves : Option ℕ) (left : ℕ) (later : List ℕ) (rest : ℕ) : Type 0 where
  pub next : ℕ
  pub others : Unseen mask next rest
  pub none : (t : ℕ) → Marks m t mask → (k : ℕ) → k < next → makes_at m t leaves left later k ≡ false

-- an action without an instant makes nothing up
idle : (m : Machine) (t : ℕ) (leaves : Option ℕ) (left : ℕ) (later : List ℕ) (k : ℕ) → may_trigger m t k ≡ false
    → makes_at m t leaves left later k ≡ false
idle m t leaves left later k e = ap (λ x. x && makes_up m leaves left later k) e

module _ {m : Machine} {mask : ℕ} {leaves : Option ℕ} {left : ℕ} {later : List ℕ} where
  pub seeking_begin : Seeking m mask leaves left later mask
  seeking_begin = record { next = 0; others = unseen_begin; none = λ t g k l. absurd (omega arith) }

  module _ {rest k others : ℕ} (h : Seeking m mask leaves left later rest) (lowest : Lowest rest k others) where
    before : (t : ℕ) → Marks m t mask → (j : ℕ) → j < k → makes_at m t leaves left later j ≡ false
    before t g j l =
        elim (dec_lt j h.next) [
          | yes b ↦ h.none t g j b
          | no d ↦ idle m t leaves left later j (unseen_passed h.others lowest g j (omega arith) l)
        ]

    pub seeking_other : makes_up m leaves left later k ≡ false → Seeking m mask leaves left later others
    seeking_other fails =
        record {
          next = k + 1;
          others = unseen_next h.others lowest;
          none = λ t g j l.
              elim (ℕ_discrete j k) [
                | yes e ↦ rw (e, fails) (and-false (may_trigger m t k))
                | no d ↦ before t g j (omega arith)
              ];
        }

    pub seeking_found : makes_up m leaves left later k ≡ true → FirstMaking m mask leaves left later (Some k)
    seeking_found makes =
        record {
          is = λ t g.
              let (known, may) = unseen_one h.others lowest g in
              smallest_unique (count m) _ (Some k) _ (known, ap₂ ◌&&◌ may makes, before t g) (smallest_is (count m) _);
        }

  -- with no digit left
  pub seeking_end : {rest : ℕ} → Seeking m mask leaves left later rest → rest ≡ 0
      → FirstMaking m mask leaves left later None
  seeking_end h e =
      record {
        is = λ t g.
            smallest_unique (count m) _ None _
            (λ j l.
            elim (dec_lt j h.next) [
              | yes b ↦ h.none t g j b
              | no d ↦ idle m t leaves left later j (unseen_none h.others e g j (omega arith) l)
            ])
            (smallest_is (count m) _);
      }

  pub making_smallest : {r : Option ℕ} → FirstMaking m mask leaves left later r → (t : ℕ) → Marks m t mask
      → Smallest (count m) (makes_at m t leaves left later) r
  making_smallest h t g = rw (h.is t g) (smallest_is (count m) (makes_at m t leaves left later))

-- it is an action of the machine
pub making_known : {m : Machine} {mask : ℕ} {leaves : Option ℕ} {left : ℕ} {later : List ℕ} {j t : ℕ}
    → FirstMaking m mask leaves left later (Some j) → Marks m t mask → j < count m
making_known h g = (making_smallest h _ g).0

-- the states that the next pair may leave, as the definition of the critical sequence has them
abbrev pub allows : Machine → Option ℕ → ℕ → Bool
allows m None = may_begin m
allows m (Some q) = eqb q

-- in the figures of the rows the search is that of the definition, where the next pair leaves a state in which a
-- sequence may begin
module _ {m : Machine} (closed : Closed m) {t n left : ℕ} (leaves : Option ℕ) {later : List ℕ}
    (begins : (q : ℕ) → allows m leaves q ≡ true → may_begin m q ≡ true) (back : IsBack m (requested m) (suc t) n later)
    (goal : left ≡ best m (requested m) t (suc n) (allows m leaves)) (j : ℕ) (l : j < count m) where
  source : ℕ
  source = (action_of m j).source

  follows : ℕ
  follows = best m (requested m) (suc t) n (after m j)

  allowed : (who : Option ℕ) → may_begin m source ≡ true → may_leave who source ≡ allows m who source
  unfolding source
  allowed None b = sym b
  allowed (Some p) b = refl

  makes_now : may_trigger m t j ≡ true
      → makes_at m t leaves left later j ≡ is_making m (requested m) t n (allows m leaves) j
  unfolding source follows
  makes_now o =
      let (b, i) = both_true (may_begin m source) _ o in
      let onward = closed_onward closed j l b in
      let sink : figure later (action_of m j).sink ≡ follows =
      rw onward at (back.at (action_of m j).sink (closed_inside closed _ onward)) in
      ap (λ x. x && makes_up m leaves left later j) o
      ∙ ap₂ ◌&&◌ (allowed leaves b ∙ sym (ap (λ x. allows m leaves source && x) i ∙ and-true (allows m leaves source)))
      (ap₂ eqb (let z : brought Back m j later ≡ requested m (pair j t) + follows = omega (arith, sink) in z) goal)

  makes_not : may_trigger m t j ≡ false
      → makes_at m t leaves left later j ≡ is_making m (requested m) t n (allows m leaves) j
  unfolding source follows
  makes_not o =
      ap (λ x. x && makes_up m leaves left later j) o
      ∙ sym (ap (λ x. x && eqb (requested m (pair j t) + follows) (best m (requested m) t (suc n) (allows m leaves)))
      (⊎_elim (λ a. ap (λ x. x && is_instant m j t) (a ∙ sym (begins source a)) ∙ o)
      (λ a. ap (λ x. x && is_instant m j t) a) (true_or_false (allows m leaves source))))

  pub makes_is : makes_at m t leaves left later j ≡ is_making m (requested m) t n (allows m leaves) j
  makes_is = ⊎_elim makes_now makes_not (true_or_false (may_trigger m t j))
