use Rattle.std.proofs.Common.{arith, ◌∙◌, sym, ap}
use mathlib.Core.Bool.{not}
use Rattle.model.proofs.Search.{clear_found, clear_end}
use Rattle.reply.proofs.Refusals.{broken_here}
use Rattle.rules.specs.Rules.{entry_in_range}
use Rattle.rules.proofs.rules.entry_rule.Goals as goal

pub returns-then-not-entry_in_range : goal.returns-then-not-entry_in_range
returns-then-not-entry_in_range c =
    sym (clear_found _ c.loop-k.invariant (omega arith)
    (broken_here _ _ (c.entry_in_range.ensures ∙ ap entry_in_range c.entry_bytes.ensures)
    (ap not c.if-not-entry_in_range.true)))

pub returns : goal.returns
returns c = sym (clear_end _ c.loop-k.invariant (omega arith))
