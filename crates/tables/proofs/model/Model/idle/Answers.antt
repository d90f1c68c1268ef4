use Rattle.tables.proofs.Idle.{idle_good, idle_laid}
use Rattle.tables.proofs.model.Model.idle.Goals as goal

pub invariant_of-result-2 : goal.invariant_of-result-2
invariant_of-result-2 c = record { good = idle_good; laid = idle_laid c.empty.result c.empty.ensures }
