use Rattle.tables.proofs.good.GoodRow.+variable.Given as goal

abbrev pub decreases-variable : goal.decreases-variable
decreases-variable l = l.self.row.number
