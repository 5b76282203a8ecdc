-- One action's part in a tick, and what the walk makes of a row.
use Prim.Native.Nat.{ℕ, ◌+◌, ◌^◌, ◌≤◌, ◌<◌, max}
use mathlib.Core.Path.{◌≡◌, refl, sym, ◌∙◌, ap, ap₂}
use mathlib.Core.Bool.{true, false, cond}
use mathlib.Core.List.{List}
use native.Mathlib.Omega.{arith}
use native.Mathlib.Numerals.{add-one}
use native.Mathlib.Nat.{max-eq_left, max-eq_right, le_of_lt}
use native.Mathlib.Decide.{ℕ_discrete}
use lib.Dec.{eqb}
use lib.ListN.{length, take, set, length-set}
use lib.Seq.{get_or-set_same, get_or-set_other, set-get_or}
use borrow.Author.Tests.{eq-eqb, ne_eqb, le-leb, lt-leb}
use Rattle.std.proofs.lemmas.List.{get_or-take}
use Rattle.model.specs.declared.Way.{Way}
use Rattle.model.specs.declared.Way.TheVariants.{On, Back}
use Rattle.model.specs.declared.Action.{Action}
use Rattle.model.specs.Machine.{Machine, count, action_of}
use Rattle.model.specs.Legal.{requested}
use Rattle.model.specs.Sizes.{MachineSizes}
use Rattle.model.specs.Reckon.{most}
use Rattle.model.specs.Inside.{may_trigger, behind, ahead, figure, brings, due_then}
use Rattle.model.proofs.Tests.{leb_same}
use Rattle.model.proofs.Names.{cost_read}
use Rattle.model.proofs.Accepted.{sizes_cost}
use Rattle.walk.specs.Inside.{Lowest, Ready, Joins, brought, pushed, due_or, Ticked, DueWithin}
use Rattle.walk.proofs.Mask.{Unseen, unseen_begin, unseen_one, unseen_next}
use Rattle.walk.proofs.Mask.{Most, most_begin, most_more, most_end}

-- the largest of one figure more
pub top_more : (row : List ℕ) (states k : ℕ) {top v : ℕ} → k < states → top ≡ most k (figure row)
    → v ≡ max top (figure (take states row) k) → v ≡ most (k + 1) (figure row)
unfolding most
top_more row states k l e f = rw add-one (f ∙ ap₂ max e (get_or-take states row k 0 l))

-- both ends of an action are states
module _ {m : Machine} (sizes : MachineSizes m) {k : ℕ} (l : k < count m) where
  left_state : (way : Way) → behind way (action_of m k) < m.states
  left_state On = (sizes.action k l).source
  left_state Back = (sizes.action k l).sink

  reached : (way : Way) → ahead way (action_of m k) < m.states
  reached On = (sizes.action k l).sink
  reached Back = (sizes.action k l).source

-- an action of a machine joins two states of a row with small figures
pub entry_joins : {m : Machine} {j : ℕ} → MachineSizes m → j < count m → (row : List ℕ)
    → ((q : ℕ) → q < m.states → figure row q < 2 ^ 31) → Joins m j row
entry_joins {m} {j} sizes l row small =
    record {
      below = l;
      leaves = λ way. omega (arith, left_state sizes l way, sizes.states.1);
      reaches = λ way. omega (arith, reached sizes l way, sizes.states.1);
      fits = λ way. omega (arith, small _ (left_state sizes l way), (sizes_cost m sizes j l).1);
    }

-- so does the action that a mask gives next, at a row that is ready for it
pub next_joins : {m : Machine} → MachineSizes m → {mask : ℕ} {row : List ℕ} → Ready m mask row
    → {j left k others : ℕ} → Unseen mask j left → Lowest left k others → Joins m k row
next_joins sizes ready unseen next =
    entry_joins sizes (unseen_one unseen next ready.marks).0 _ ready.small

-- what it brings, where the action has been read
pub brought_is : (way : Way) (m : Machine) (k : ℕ) (row : List ℕ) {a : Action} → a ≡ action_of m k
    → figure row (behind way a) + a.time ≡ brought way m k row
brought_is way m k row e =
    ap₂ ◌+◌ (ap (λ x. figure row (behind way x)) e) (cost_read m k (ap (λ (x : Action). x.time) e))

pub fits_read : {m : Machine} {k : ℕ} {row : List ℕ} → Joins m k row → (way : Way) {a : Action} → a ≡ action_of m k
    → figure row (behind way a) + a.time < 2 ^ 32
fits_read {m} {k} {row} h way e = rw (brought_is way m k row e) (h.fits way)

-- it raises a row at the state that it leads to, and nowhere else
module _ (way : Way) (m : Machine) (k : ℕ) (old row : List ℕ) where
  pub pushed_is : {a : Action} {to brings : ℕ} → a ≡ action_of m k → to ≡ ahead way a
      → brings ≡ figure old (behind way a) + a.time → set row to (max (figure row to) brings) ≡ pushed way m k old row
  pushed_is e f g =
      rw (f ∙ ap (ahead way) e, g ∙ brought_is way m k old e) refl

  -- where it brings more, and where it does not
  module _ {state v : ℕ} (e : state ≡ ahead way (action_of m k)) (f : v ≡ brought way m k old) where
    pub pushed_more : figure row state < v → set row state v ≡ pushed way m k old row
    pushed_more l = ap (set row state) (sym (max-eq_right (le_of_lt l))) ∙ rw (e, f)

    pub pushed_same : v ≤ figure row state → row ≡ pushed way m k old row
    pushed_same l = sym (set-get_or row state 0) ∙ ap (set row state) (sym (max-eq_left l)) ∙ rw (e, f)

  pushed_at : ahead way (action_of m k) < length row → (q : ℕ)
      → figure (pushed way m k old row) q
      ≡ max (figure row q) (cond (eqb (ahead way (action_of m k)) q) (brought way m k old) 0)
  pushed_at l q =
      let to = ahead way (action_of m k) in
      elim (ℕ_discrete q to) [
        | yes e ↦ rw (e, eq-eqb to to refl) (get_or-set_same row to _ 0 l)
        | no d ↦ get_or-set_other row to q _ 0 d ∙ rw (ne_eqb to q (λ z. d (sym z))) (omega arith)
      ]

-- what is due counts where it is more
pub due_is : (m : Machine) (k : ℕ) (row : List ℕ) (ticks most : ℕ) {a : Action} → a ≡ action_of m k
    → a.deadline ≤ ticks → max most (figure row a.source + a.time) ≡ due_or m k row ticks most
due_is m k row ticks most e l =
    let due = le-leb (action_of m k).deadline ticks (omega (arith, l, ap (λ (x : Action). x.deadline) e)) in
    rw due (ap (max most) (brought_is On m k row e))

-- what is due later does not; of what is due, the larger does
module _ (m : Machine) (k : ℕ) (row : List ℕ) (ticks most : ℕ) where
  pub due_late : ticks < (action_of m k).deadline → most ≡ due_or m k row ticks most
  due_late l = rw (lt-leb (action_of m k).deadline ticks l) (omega arith)

  pub due_more : (action_of m k).deadline ≤ ticks → most < brought On m k row
      → brought On m k row ≡ due_or m k row ticks most
  due_more l h = rw (le-leb (action_of m k).deadline ticks l) (omega arith)

  pub due_less : (action_of m k).deadline ≤ ticks → brought On m k row ≤ most → most ≡ due_or m k row ticks most
  due_less l h = rw (le-leb (action_of m k).deadline ticks l) (omega arith)

-- what action k brings at a tick at which it may not be triggered, and at one at which it may
pub brings_idle : (way : Way) (m : Machine) (row : ℕ → ℕ) (q t k : ℕ) → may_trigger m t k ≡ false
    → brings way m (requested m) t row q k ≡ 0
brings_idle way m row q t k e = rw e

pub due_idle : (m : Machine) (row : ℕ → ℕ) (ticks t k : ℕ) → may_trigger m t k ≡ false
    → due_then m t (t + ticks) row k ≡ 0
due_idle m row ticks t k e = rw e

module _ (m : Machine) (t k : ℕ) (row : List ℕ) (i : may_trigger m t k ≡ true) where
  brings_now : (way : Way) (q : ℕ)
      → brings way m (requested m) t (figure row) q k ≡ cond (eqb (ahead way (action_of m k)) q) (brought way m k row) 0
  brings_now way q = rw i

  due_now : (ticks most : ℕ) → max most (due_then m t (t + ticks) (figure row) k) ≡ due_or m k row ticks most
  due_now ticks most =
      let d = (action_of m k).deadline in
      rw (i, leb_same (t + d) (t + ticks) d ticks (λ a. omega arith, λ a. omega arith))

-- a row in the middle of a tick: `left` has the digits of the actions that are not yet through
pub record Ticking (way : Way) (m : Machine) (mask : ℕ) (old : List ℕ) (left : ℕ) (row : List ℕ) : Type 0 where
  pub long : length row ≡ 16
  pub next : ℕ
  pub others : Unseen mask next left
  pub at : (q : ℕ) → q < m.states
      → Most m mask (λ t. brings way m (requested m) t (figure old) q) (figure old q) next (figure row q)

module _ {way : Way} {m : Machine} {mask : ℕ} {old : List ℕ} where
  pub ticking_begin : length old ≡ 16 → Ticking way m mask old mask old
  ticking_begin e = record { long = e; next = 0; others = unseen_begin; at = λ q l. most_begin }

  module _ {left : ℕ} {row : List ℕ} (h : Ticking way m mask old left row) where
    pub ticking_push : MachineSizes m → {k others : ℕ} → Lowest left k others → {new : List ℕ}
        → new ≡ pushed way m k old row → Ticking way m mask old others new
    ticking_push sizes {k} next {new} e =
        record {
          long = ap length e ∙ length-set row _ _ ∙ h.long;
          next = k + 1;
          others = unseen_next h.others next;
          at = λ q b.
              most_more (brings_idle way m (figure old) q) (h.at q b) h.others next (figure new q) (λ t g.
              let (known, may) = unseen_one h.others next g in
              ap (λ r. figure r q) e
              ∙ pushed_at way m k old row (omega (arith, reached sizes known way, sizes.states.1, h.long)) q
              ∙ ap (max (figure row q)) (sym (brings_now m t k old may way q)));
        }

    pub ticking_end : left ≡ 0 → Ticked way m mask old row
    ticking_end e =
        record {
          moved = λ t g.
              record { at = λ q l. most_end (brings_idle way m (figure old) q) (h.at q l) h.others e t g };
          long = h.long;
        }

-- the same of what is due within `within` ticks: v is the largest figure, or what an action brings that is through
pub record Ending (m : Machine) (mask : ℕ) (row : List ℕ) (within left v : ℕ) : Type 0 where
  pub next : ℕ
  pub others : Unseen mask next left
  pub is : Most m mask (λ t. due_then m t (t + within) (figure row)) (most m.states (figure row)) next v

module _ {m : Machine} {mask : ℕ} {row : List ℕ} {within : ℕ} where
  pub ending_begin : {states v : ℕ} → states ≡ m.states → v ≡ most states (figure row)
      → Ending m mask row within mask v
  ending_begin e f = record { next = 0; others = unseen_begin; is = rw (f, e) most_begin }

  module _ {left v : ℕ} (h : Ending m mask row within left v) where
    pub ending_take : {k others : ℕ} → Lowest left k others → {u : ℕ} → u ≡ due_or m k row within v
        → Ending m mask row within others u
    ending_take {k} next {u} e =
        record {
          next = k + 1;
          others = unseen_next h.others next;
          is =
              most_more (due_idle m (figure row) within) h.is h.others next u (λ t g.
              e ∙ sym (due_now m t k row (unseen_one h.others next g).1 within v));
        }

    pub ending_end : left ≡ 0 → DueWithin m mask row within v
    ending_end e = record { is = λ t g. most_end (due_idle m (figure row) within) h.is h.others e t g }
