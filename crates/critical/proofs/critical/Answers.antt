use Rattle.std.proofs.Common.{arith}
use Rattle.std.proofs.lemmas.Result.{err_from_is_err_and}
use Rattle.critical.proofs.Replies.{question_refused, sequence_short, sequence_found}
use Rattle.critical.proofs.critical.Goals as goal

pub returns-in_err-window : goal.returns-in_err-window
returns-in_err-window c =
    let p = err_from_is_err_and c.from_residual.result c.from_residual.ensures.1 in
    let met = question_refused _ _ _ _ _ _ (rw c.from.ensures at c.in_err-window.ensures.refused) in
    record { says = rw (p.1, p.2) met.0; writes = met.1.0; promises = rw p.1 tt }

pub returns-then-words-needed : goal.returns-then-words-needed
returns-then-words-needed c =
    let called = rw c.from.ensures at c.in_ok-window.ensures in
    let flat = rw c.deref.ensures.0 at c.as_flattened-found.ensures.value in
    let met = sequence_short _ _ _ _ c.args.words.now called.refused called.window c.sequence_of-pairs.ensures flat
    (omega arith) in
    record { says = met.0; writes = met.1.0; promises = tt }

pub returns : goal.returns
returns c =
    let called = rw c.from.ensures at c.in_ok-window.ensures in
    let flat = rw c.deref.ensures.0 at c.as_flattened-found.ensures.value in
    let met = sequence_found _ _ _ _ c.args.words.now called.refused called.window c.sequence_of-pairs.ensures flat
    c.len.ensures.value c.copy_from_slice.ensures.after c.if-words-needed.false in
    record { says = met.0; writes = met.1.0; promises = met.1.1 }
