-- The rows behind a table, behind a row of one, and behind a model.
use Rattle.tables.specs.declared.table.Table.{Table}
use Rattle.tables.specs.declared.row.Row.{Row}
use Rattle.tables.specs.declared.good.GoodRow.{GoodRow}
use Rattle.tables.specs.declared.model.Model.{Model}
use Rattle.tables.specs.Rows.{Rows}
use Rattle.tables.specs.Words.{rows_of}

abbrev pub table_rows : Table → Rows
table_rows t = rows_of t.words.now

abbrev pub model_rows : Model → Rows
model_rows m = table_rows m.table

abbrev pub row_rows : Row → Rows
row_rows w = table_rows w.table

abbrev pub good_rows : GoodRow → Rows
good_rows w = row_rows w.row
