use Rattle.judging.proofs.chain.Chain.+len.Given as goal

abbrev pub decreases-len : goal.decreases-len
decreases-len l = l.self.last.row.number
