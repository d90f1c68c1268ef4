use Rattle.std.proofs.Common.{sym, arith}
use Rattle.tables.specs.Views.{row_rows}
use Rattle.checking.proofs.JudgeLaws.{judged}
use Rattle.checking.proofs.judge.judge_row.Goals as goal

pub returns : goal.returns
returns c =
    let l = c.requires.laid.cells in
    judged
    (row_rows c.args.row)
    c.args.row.number
    (omega arith, omega arith, omega arith, omega arith)
    (omega arith)
    c.in-Some.form
    c.judge_form.result
    (sym c.in-Some.ensures.value)
    c.judge_form.ensures
