use Rattle.std.proofs.Common.{arith, w32, SFits, rules}
use Rattle.std.proofs.lemmas.Int.{to_z-of_z}
use Rattle.tables.specs.Views.{good_rows}
use Rattle.tables.proofs.PlaceLaws.{base_variable}
use Rattle.tables.proofs.good.GoodRow.+variable.Goals as goal

pub returns-in-Some-Element-clause-value : goal.returns-in-Some-Element-clause-value
returns-in-Some-Element-clause-value t c =
    let f : SFits w32 c.in-Some-Element.base = search rules in
    let e = rw c.in-Some-Element.field-0-is at c.in-Some-Element.ensures in
    let n = simp to_z-of_z at c.row_named-in-Some-Element.ensures in
    let b = base_variable (good_rows c.args.self) c.args.self.row.number _ _ (c.args.self.good c.args.self.row.number (omega arith)) e in
    let v = c.variable.ensures.value in
    let o = c.earlier.ensures in
    cc
