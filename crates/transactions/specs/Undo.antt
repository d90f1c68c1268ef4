-- An undo log: cells, with the values that stood there. The last one is put back first.
use Rattle.std.specs.Prelude.{ℕ, Option, None, Some, List, [], ◌∷◌, ℤ, slice_set, take}
use Rattle.stores.specs.Meaning.{Transaction, transaction_of}
use Rattle.transactions.specs.declared.change.Change.{Change}

-- the cells before the entries of the log were made
abbrev pub undone : List Change → List ℤ → List ℤ
undone [] cs = cs
undone (x ∷ log) cs = slice_set (undone log cs) x.cell x.value

-- how many entries of a log count: as many as there were writes, none while no transaction is open
abbrev pub noted : Option ℕ → ℕ
noted None = 0
noted (Some writes) = writes

-- the transaction that a log keeps while it counts so many writes
abbrev pub log_transaction : Option ℕ → List Change → List ℤ → Transaction
log_transaction writes entries cs = transaction_of writes (undone (take (noted writes) entries) cs)
