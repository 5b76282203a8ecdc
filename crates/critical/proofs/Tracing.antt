-- The walk forward: what has been written and what is left make up the critical sequence.
use Prim.Native.Nat.{ℕ, suc, ◌+◌, ◌-◌, ◌≤◌, ◌<◌}
use mathlib.Core.Path.{◌≡◌, refl, sym, ◌∙◌, ap}
use mathlib.Core.Bool.{true, false}
use mathlib.Core.List.{List, [], ◌∷◌, ◌++◌, append_assoc, append-nil}
use native.Mathlib.Omega.{arith}
use lib.ListN.{length, length-append, get_or}
use borrow.Author.Tests.{eqb-true}
use Rattle.std.specs.Prelude.{Option, None, Some}
use Rattle.model.specs.Machine.{Machine, count, action_of}
use Rattle.model.specs.Legal.{cost, requested}
use Rattle.model.specs.Reckon.{may_begin, pair, is_open, after, best, request}
use Rattle.model.specs.Inside.{Closed, may_trigger}
use Rattle.model.specs.Critical.{is_making, first_best, critical}
use Rattle.model.proofs.Tests.{both_true}
use Rattle.model.proofs.Names.{closed_onward}
use Rattle.model.proofs.Critical.{best_waits, first_best_waits, first_best_takes}
use Rattle.walk.specs.Inside.{Marks}
use Rattle.rows.specs.Inside.{Rows}
use Rattle.critical.specs.Inside.{arrays_of, makes_at, FirstMaking}
use Rattle.critical.proofs.Making.{allows, makes_is, making_smallest}

-- what is left of the critical sequence from tick t on, for n ticks
abbrev onward : Machine → ℕ → ℕ → Option ℕ → List (List ℕ)
onward m t n leaves = arrays_of (first_best m (requested m) t n (allows m leaves))

-- the walk has come to tick s + k: these pairs are written, and what is left of the bound is `left`
pub record Tracing (m : Machine) (s n k : ℕ) (leaves : Option ℕ) (left : ℕ) (pairs : List (List ℕ)) : Type 0 where
  pub early : k ≤ n
  pub few : length pairs ≤ k
  pub begins : (q : ℕ) → allows m leaves q ≡ true → may_begin m q ≡ true
  pub goal : left ≡ best m (requested m) (s + k) (n - k) (allows m leaves)
  pub sequence : pairs ++ onward m (s + k) (n - k) leaves ≡ arrays_of (critical m s n)

pub tracing_begin : {m : Machine} {s n bound : ℕ} {pairs : List (List ℕ)} → pairs ≡ [] → bound ≡ request m s n
    → Tracing m s n 0 None bound pairs
unfolding critical request
tracing_begin {s = s} {n = n} none e =
    let start : s + 0 ≡ s = omega arith in
    let all : n - 0 ≡ n = omega arith in
    record {
      early = omega arith;
      few = omega (arith, ap length none);
      begins = λ q b. b;
      goal = rw (start, all) e;
      sequence = rw (none, start, all) refl;
    }

-- one tick, s + k, with its mask and the rows
module _ {m : Machine} (closed : Closed m) {s n k mask left : ℕ} {leaves : Option ℕ} {pairs : List (List ℕ)}
    {rows : List (List ℕ)} (h : Tracing m s n k leaves left pairs) (laid : Rows m s n 0 rows) (more : k < n)
    (marks : Marks m (s + k) mask) where
  ticks : n - k ≡ suc (n - (k + 1))
  ticks = omega arith

  next : s + (k + 1) ≡ suc (s + k)
  next = omega arith

  goal_is : left ≡ best m (requested m) (s + k) (suc (n - (k + 1))) (allows m leaves)
  goal_is = rw ticks at h.goal

  sequence_is : pairs ++ onward m (s + k) (suc (n - (k + 1))) leaves ≡ arrays_of (critical m s n)
  sequence_is = rw ticks at h.sequence

  makes : (i : ℕ) → i < count m
      → makes_at m (s + k) leaves left (get_or rows (k + 1) []) i
      ≡ is_making m (requested m) (s + k) (n - (k + 1)) (allows m leaves) i
  makes = makes_is closed leaves h.begins (rw next at (laid.at (k + 1) (omega arith) (omega arith))) goal_is

  -- no action makes up what is left, or the smallest that does is the next pair's
  pub tracing_waits : FirstMaking m mask leaves left (get_or rows (k + 1) []) None
      → Tracing m s n (k + 1) leaves left pairs
  tracing_waits first =
      let none : (i : ℕ) → i < count m → is_making m (requested m) (s + k) (n - (k + 1)) (allows m leaves) i ≡ false =
      λ i b. sym (makes i b) ∙ making_smallest first (s + k) marks i b in
      record {
        early = omega arith;
        few = omega (arith, h.few);
        begins = h.begins;
        goal = rw next (goal_is ∙ best_waits m (requested m) (s + k) (n - (k + 1)) (allows m leaves) none);
        sequence =
            rw next
            (ap (λ σ. pairs ++ arrays_of σ)
            (sym (first_best_waits m (requested m) (s + k) (n - (k + 1)) (allows m leaves) none))
            ∙ sequence_is);
      }

  module _ {j : ℕ} (first : FirstMaking m mask leaves left (get_or rows (k + 1) []) (Some j)) where
    pub known : j < count m
    known = (making_smallest first (s + k) marks).0

    triggers : makes_at m (s + k) leaves left (get_or rows (k + 1) []) j ≡ true
    triggers = (making_smallest first (s + k) marks).1

    made : is_making m (requested m) (s + k) (n - (k + 1)) (allows m leaves) j ≡ true
    made = sym (makes j known) ∙ triggers

    before : (i : ℕ) → i < j → is_making m (requested m) (s + k) (n - (k + 1)) (allows m leaves) i ≡ false
    before i b = sym (makes i (omega (arith, known))) ∙ (making_smallest first (s + k) marks).2 i b

    -- its cost is a part of what is left, and the rest is the best that follows
    pub parts : left ≡ cost m j + best m (requested m) (suc (s + k)) (n - (k + 1)) (after m j)
    parts =
        let up : requested m (pair j (s + k)) + best m (requested m) (suc (s + k)) (n - (k + 1)) (after m j)
        ≡ best m (requested m) (s + k) (suc (n - (k + 1))) (allows m leaves) =
        eqb-true _ _ (both_true (is_open m (allows m leaves) (pair j (s + k))) _ made).1 in
        omega (arith, goal_is)

    -- a sequence may begin in its sink
    sink_begins : may_begin m (action_of m j).sink ≡ true
    sink_begins =
        let may : may_trigger m (s + k) j ≡ true = (both_true _ _ triggers).0 in
        closed_onward closed j known (both_true (may_begin m (action_of m j).source) _ may).0

    pub tracing_takes : {own sink : ℕ} {new : List (List ℕ)} → own ≡ cost m j → sink ≡ (action_of m j).sink
        → new ≡ pairs ++ ((j ∷ (s + k) ∷ []) ∷ []) → Tracing m s n (k + 1) (Some sink) (left - own) new
    tracing_takes costs leads e =
        record {
          early = omega arith;
          few = omega (arith, h.few, simp length-append at (ap length e));
          begins = λ q b. rw (← (eqb-true _ q b), leads) sink_begins;
          goal = rw (next, leads) (omega (arith, parts));
          sequence =
              rw (e, next, leads)
              (append_assoc pairs ((j ∷ (s + k) ∷ []) ∷ []) _
              ∙ ap (λ σ. pairs ++ arrays_of σ)
              (sym (first_best_takes m (requested m) (s + k) (n - (k + 1)) (allows m leaves) j known made before))
              ∙ sequence_is);
        }

pub tracing_end : {m : Machine} {s n k left : ℕ} {leaves : Option ℕ} {pairs : List (List ℕ)}
    → Tracing m s n k leaves left pairs → n ≤ k → pairs ≡ arrays_of (critical m s n)
unfolding first_best
tracing_end {n = n} {k = k} {pairs = pairs} h l =
    let over : n - k ≡ 0 = omega arith in sym (append-nil pairs) ∙ (rw over at h.sequence)
