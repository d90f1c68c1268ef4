use Rattle.std.proofs.Common.{arith}
use Rattle.judging.proofs.ChainLaws.{link_last, link_more}
use Rattle.judging.proofs.chain.Chain.link.Goals as goal

pub returns-in-Some-Assign : goal.returns-in-Some-Assign
returns-in-Some-Assign c =
    link_last _ _ _ (c.args.self.last.good c.args.self.last.row.number (omega arith)) (rw c.in-Some-Assign.field-0-is at c.in-Some-Assign.ensures)

pub returns-in-Some-Further : goal.returns-in-Some-Further
returns-in-Some-Further c =
    let e = c.earlier.ensures in
    link_more _ _ _ _ (c.args.self.last.good c.args.self.last.row.number (omega arith)) (rw c.in-Some-Further.field-0-is at c.in-Some-Further.ensures) e.0 (omega arith)
