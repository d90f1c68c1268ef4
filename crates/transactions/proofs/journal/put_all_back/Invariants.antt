use Rattle.std.proofs.Common.{◌≡◌, length}
use Rattle.transactions.proofs.journal.put_all_back.Given as goal
use Rattle.transactions.specs.Undo.{undone}

-- what is left to put back leads to the same cells
abbrev pub invariant-loop-entry : goal.invariant-loop-entry
invariant-loop-entry g l =
    (undone l.entry-iterator.iter.rest.now (g.S.Store.cells l.store)
    ≡ undone l.initial.entry-iterator.iter.rest.now (g.S.Store.cells l.initial.store))
    × (length (g.S.Store.cells l.store) ≡ length (g.S.Store.cells l.initial.store))
    × (g.S.Store.beside l.store ≡ g.S.Store.beside l.initial.store)
