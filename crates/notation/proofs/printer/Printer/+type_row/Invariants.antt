use Rattle.notation.proofs.printer.Printer.+type_row.Given as goal

abbrev pub decreases-type_row : goal.decreases-type_row
decreases-type_row l = l.arrays
