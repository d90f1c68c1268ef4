use Rattle.transactions.proofs.Copying.{restored}
use Rattle.transactions.proofs.shadow.restore.Goals as goal

pub returns : goal.returns
returns c = restored c.args.words.now _ c.copy_within.ensures.len c.copy_within.ensures.after
