use Rattle.std.proofs.Common.{arith}
use Rattle.transactions.proofs.Patching.{patching}
use Rattle.transactions.proofs.patches.patch_in_window.Goals as goal

pub returns-clause-fits : goal.returns-clause-fits
returns-clause-fits c = grind (arith, patching)

pub returns-clause-passes : goal.returns-clause-passes
returns-clause-passes c = grind (arith, patching)
