use Rattle.std.proofs.Common.{arith, ◌≡◌}
use Rattle.bounds.proofs.Replies.{table_bounds}
use Rattle.bounds.proofs.table.Goals as goal

pub returns-clause-promises : goal.returns-clause-promises
returns-clause-promises c =
    let of = c.in_ok-window.ensures.window in
    let length : c.in_ok-window.window.length ≡ c.args.length = omega (arith, of.to) in
    table_bounds _ _ _ _ (rw (of.machine, of.from, length) at c.fill.ensures)
