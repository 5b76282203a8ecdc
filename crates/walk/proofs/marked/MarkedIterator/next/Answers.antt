use Rattle.std.proofs.Common.{rules, arith}
use Rattle.walk.proofs.Mask.{lowest_taken, lowest_less}
use Rattle.walk.proofs.marked.MarkedIterator.next.Goals as goal

pub returns-clause-steps : goal.returns-clause-steps
returns-clause-steps c = lowest_taken c.args.self.now.0 (omega arith) (search rules)

pub returns-clause-goes : goal.returns-clause-goes
returns-clause-goes c =
    let less = lowest_less c.args.self.now.0 _ (lowest_taken c.args.self.now.0 (omega arith) (search rules)) in
    search (rules, less)
