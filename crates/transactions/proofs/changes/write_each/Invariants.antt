use Rattle.std.proofs.Common.{◌≡◌, ◌≤◌, length}
use Rattle.stores.specs.Meaning.{opened}
use Rattle.transactions.proofs.changes.write_each.Given as goal
use Rattle.transactions.specs.Changes.{Within, changed}

abbrev pub invariant-loop-change : goal.invariant-loop-change
invariant-loop-change g l =
    (l.change-index ≤ 256)
    × (g.S.TransactionalStore.transaction l.store ≡ opened (g.S.Store.cells l.initial.store) l.change-index)
    × (g.S.Store.cells l.store ≡ changed (g.S.Store.cells l.initial.store) l.changes l.change-index)
    × Within (length (g.S.Store.cells l.initial.store)) l.changes l.change-index
    × (g.S.Store.beside l.store ≡ g.S.Store.beside l.initial.store)
