-- What `find_map` finds over 0, 1 and so on, where each call gives what a search has for its number.
use Prim.Native.Nat.{ℕ, ◌+◌, ◌≤◌, ◌<◌}
use mathlib.Core.Path.{◌≡◌, sym, ◌∙◌, ap}
use mathlib.Core.Bool.{true}
use native.Mathlib.Omega.{arith}
use denote.Param.Members.{Mut, Called}
use Rattle.std.specs.Prelude.{Option, None, Some, MatchOption}
use Rattle.std.specs.declared.ops.Range.{Range}
use Rattle.std.specs.Iterator.Runs.{Run, SomeRun, CallKeepsClosure, AllItemsGive, IsFirstToGive}
use Rattle.std.specs.Option.{option_map}
use Rattle.std.proofs.iter.Yields.{nat_range_steps}
use Rattle.std.proofs.iter.runs.Sources.{range_runs}
use Rattle.model.specs.Search.{first_of}
use Rattle.model.specs.Verdict.{Judgement}
use Rattle.model.proofs.Search.{Clear, clear_end, clear_found}
use Rattle.reply.specs.declared.Verdict.{Verdict}
use Rattle.verdict.specs.Inside.{found}

-- the item at a place, where it is known
item_known : (o : Option ℕ) (k : ℕ) → option_map (λ y. y) o ≡ Some k → o ≡ Some k
item_known None k e = e
item_known (Some x) k e = e

-- the item at a place of a run over 0 to n - 1
module _ {n : ℕ} (p : Run nat_range_steps) (from : p.from ≡ record { start = 0; end = n }) where
  start : p.from.start ≡ 0
  start = ap (λ (s : Range ℕ). s.start) from

  end : p.from.end ≡ n
  end = ap (λ (s : Range ℕ). s.end) from

  run_short : p.len ≤ n
  run_short = omega (arith, (range_runs p p.seen).0, end)

  run_whole : p.whole ≡ true → p.len ≡ n
  run_whole w = omega (arith, (range_runs p p.seen).1 w, start, end)

  run_item : (k : ℕ) → k < p.len → p.at k ≡ Some k
  run_item k l = item_known (p.at k) k ((range_runs p p.seen).3 k l ∙ ap Some (omega (arith, start)))

module _ {F : Type 0} (g : Mut F (ℕ × Unit {0}) (Option Verdict)) (f : F) (answer : ℕ → Option Judgement)
    {n m : ℕ} (e : n ≡ m)
    (calls : (x : ℕ) (r : Option Verdict) (h : F) → Called g f (x, tt) r h → (h ≡ f) × (found r ≡ answer x)) where
  keeps : CallKeepsClosure g f
  keeps a r h call = (calls a.0 r h call).0

  pub find_map_found : (r : Option Verdict)
      → SomeRun nat_range_steps (record { start = 0; end = n }) (λ p. MatchOption r
      ((p.whole ≡ true) × AllItemsGive p g f None)
      (λ y. (i : ℕ) × (i < p.len) × (p.len ≡ i + 1) × IsFirstToGive p g f (Some y) None i))
      → found r ≡ first_of answer 0 m
  find_map_found None (p, from, (whole, all)) =
      let none : Clear answer p.len = record {
        before = λ k l.
            sym (calls k None f (rw (run_item p from k l) at (all keeps k))).1;
      } in
      sym (clear_end m none (omega (arith, run_whole p from whole)))
  find_map_found (Some y) (p, from, (i, l, last, first)) =
      let (hit, misses) = first keeps in
      let none : Clear answer i = record {
        before = λ k m.
            sym (calls k None f (rw (run_item p from k (omega arith)) at (misses k m))).1;
      } in
      let some = (calls i (Some y) f (rw (run_item p from i l) at hit)).1 in
      sym (clear_found m none (omega (arith, run_short p from)) (sym some))
