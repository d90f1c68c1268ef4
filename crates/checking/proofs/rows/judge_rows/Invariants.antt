use Rattle.std.proofs.Common.{◌≤◌}
use Rattle.tables.specs.Rules.{GoodBelow}
use Rattle.tables.specs.Layouts.{LaidOut}
use Rattle.tables.specs.Views.{table_rows}
use Rattle.checking.specs.Verdict.{Noted}
use Rattle.checking.proofs.rows.judge_rows.Given as goal

abbrev pub invariant-loop-number : goal.invariant-loop-number
invariant-loop-number l =
    GoodBelow (table_rows l.table) l.number
    × LaidOut (table_rows l.table) l.number l.layout
    × (l.layout.cells ≤ 4096)
    × Noted (table_rows l.table) l.number l.initial.notes l.notes
