-- The number of each refusal of a store.
use Rattle.std.specs.Prelude.{ℕ}
use Rattle.stores.specs.declared.fault.StoreFault.{StoreFault}
use Rattle.stores.specs.declared.fault.StoreFault.TheVariants.{NoCell, TransactionOpen, NoTransaction, NoWindow, TransactionFull}

abbrev pub number : StoreFault → ℕ
number NoCell = 10
number TransactionOpen = 20
number NoTransaction = 21
number NoWindow = 22
number TransactionFull = 29
