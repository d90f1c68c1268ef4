use Rattle.std.proofs.Common.{arith}
use Rattle.transactions.proofs.Patching.{patching}
use Rattle.transactions.proofs.patches.patch.Goals as goal

pub returns : goal.returns
returns c = grind (arith, patching)
