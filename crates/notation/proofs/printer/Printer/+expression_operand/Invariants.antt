use Rattle.std.proofs.Common.{◌+◌, ◌*◌}
use Rattle.notation.proofs.printer.Printer.+expression_operand.Given as goal

abbrev pub decreases-expression : goal.decreases-expression
decreases-expression l = 2 * l.depth + 1

abbrev pub decreases-operand : goal.decreases-operand
decreases-operand l = 2 * l.depth
