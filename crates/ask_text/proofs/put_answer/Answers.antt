use Rattle.std.proofs.Common.{arith, sym, length-take-le}
use Rattle.ask_text.specs.Ask.{lent}
use Rattle.ask_text.proofs.Replies.{table_room, table_text, critical_room, critical_text}
use Rattle.ask_text.proofs.put_answer.Goals as goal

pub slice_bounds-words-end : goal.slice_bounds-words-end
slice_bounds-words-end c = omega (arith, table_room _ _ _ _ lent c.in_ok-table-in-Table.ensures.says)

pub slice_bounds-put_numbers-end : goal.slice_bounds-put_numbers-end
slice_bounds-put_numbers-end c =
    sym (length-take-le _ _ (omega (arith, table_room _ _ _ _ lent c.in_ok-table-in-Table.ensures.says)))

pub slice_bounds-put_pairs-end : goal.slice_bounds-put_pairs-end
slice_bounds-put_pairs-end c =
    sym (length-take-le _ _ (omega (arith, critical_room _ _ _ _ lent c.in_ok-number-in-Critical.ensures.says)))

pub returns-in_ok-table-in-Table-clause-answered : goal.returns-in_ok-table-in-Table-clause-answered
returns-in_ok-table-in-Table-clause-answered c =
    let answered = c.in_ok-table-in-Table.ensures in
    table_text _ _ _ _ c.in-Table.is answered.says answered.writes c.requires c.put_numbers.ensures

pub returns-in_ok-number-in-Critical-clause-answered : goal.returns-in_ok-number-in-Critical-clause-answered
returns-in_ok-number-in-Critical-clause-answered c =
    let answered = c.in_ok-number-in-Critical.ensures in
    let room = critical_room _ _ _ _ lent answered.says in
    critical_text _ _ _ _ c.in-Critical.is answered.says answered.writes c.requires
    c.put_number_line-in-Critical.ensures.says c.as_chunks.ensures.front (omega (arith, room)) c.put_pairs.ensures
