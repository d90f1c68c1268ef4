-- The rows that a candidate stands among.
use Rattle.tables.specs.Rows.{Rows}
use Rattle.tables.specs.Views.{row_rows}
use Rattle.judging.specs.declared.candidate.Candidate.{Candidate}

abbrev pub candidate_rows : Candidate → Rows
candidate_rows c = row_rows c.row
