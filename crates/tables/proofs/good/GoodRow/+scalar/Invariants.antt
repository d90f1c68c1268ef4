use Rattle.tables.proofs.good.GoodRow.+scalar.Given as goal

abbrev pub decreases-scalar : goal.decreases-scalar
decreases-scalar l = l.self.row.number
