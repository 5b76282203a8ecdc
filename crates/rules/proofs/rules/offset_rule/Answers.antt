use Rattle.std.proofs.Common.{arith, ◌∙◌, sym}
use Rattle.std.proofs.lemmas.Grind.{common_steps}
use Rattle.model.proofs.Search.{clear_begin, clear_found, clear_more, clear_end}
use Rattle.reply.proofs.Refusals.{or_else_refused, or_else_clear}
use Rattle.sheet.specs.Format.{actions_before}
use Rattle.rules.proofs.Tests.{offset_broken, offset_kept, begin_next, end_broken, end_kept}
use Rattle.rules.proofs.rules.offset_rule.Goals as goal

pub loop-k-init : goal.loop-k-init
unfolding actions_before
loop-k-init c = record { small = omega arith; begins = omega arith; clear = clear_begin }

pub returns-then-entry-begin : goal.returns-then-entry-begin
returns-then-entry-begin c =
    let broken = offset_broken _ _ c.loop-k.invariant.begins c.entry_bytes-entry.ensures c.if-entry-begin.true in
    sym (or_else_refused _ (clear_found _ c.loop-k.invariant.clear (omega arith) broken))

pub loop-k-preserved : goal.loop-k-preserved
loop-k-preserved c =
    let kept = offset_kept _ _ c.loop-k.invariant.begins c.entry_bytes-entry.ensures c.if-entry-begin.false in
    record {
      small = grind (arith, common_steps);
      begins = begin_next _ _ c.loop-k.invariant.begins c.entry_bytes-entry.ensures;
      clear = clear_more c.loop-k.invariant.clear kept;
    }

pub returns-then-begin-trailer_offset : goal.returns-then-begin-trailer_offset
returns-then-begin-trailer_offset c =
    sym (or_else_clear _ (clear_end _ c.loop-k.invariant.clear (omega arith))
    ∙ end_broken _ c.machine_count-machines.ensures.0 (omega arith) c.loop-k.invariant.begins
    c.trailer_offset.ensures.0 c.if-begin-trailer_offset.true)

pub returns : goal.returns
returns c =
    sym (or_else_clear _ (clear_end _ c.loop-k.invariant.clear (omega arith))
    ∙ end_kept _ c.machine_count-machines.ensures.0 (omega arith) c.loop-k.invariant.begins
    c.trailer_offset.ensures.0 c.if-begin-trailer_offset.false)
