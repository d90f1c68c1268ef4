use Rattle.judging.proofs.chain.Chain.+is_apart.Given as goal

abbrev pub decreases-is_apart : goal.decreases-is_apart
decreases-is_apart l = l.self.last.row.number
