use Rattle.std.proofs.Common.{◌≡◌, arith, w32, SFits, rules}
use Rattle.std.proofs.lemmas.Int.{ints, to_z-of_z}
use Rattle.tables.specs.Rows.{whole}
use Rattle.tables.specs.Views.{model_rows}
use Rattle.tables.proofs.Sections.{Ordered}
use Rattle.tables.proofs.SortLaws.{variable_names}
use Rattle.tables.proofs.model.Model.type_of.Goals as goal

pub earlier-requires : goal.earlier-requires
earlier-requires c =
    let f : SFits w32 c.arg.result = search rules in
    let n = simp to_z-of_z at c.row_named.ensures in
    let r = c.in-Some.ensures in
    let a = rw r.0 at c.arg.ensures in
    let o : Ordered (model_rows c.args.self.now) = (omega arith, omega arith, omega arith, omega arith) in
    let t = variable_names (model_rows c.args.self.now) c.args.v (c.args.self.now.good c.args.v (omega arith)) o c.requires in
    let w : c.row_named.result ≡ whole ((model_rows c.args.self.now).arg c.args.v) = cc in
    let k = r.1 in
    let b = t.0.0 in
    omega (arith, ints)

pub returns-clause-below : goal.returns-clause-below
returns-clause-below c =
    let e = c.earlier.ensures.1 in
    let f : SFits w32 c.arg.result = search rules in
    let n = simp to_z-of_z at c.row_named.ensures in
    let r = c.in-Some.ensures in
    let a = rw r.0 at c.arg.ensures in
    let o : Ordered (model_rows c.args.self.now) = (omega arith, omega arith, omega arith, omega arith) in
    let t = variable_names (model_rows c.args.self.now) c.args.v (c.args.self.now.good c.args.v (omega arith)) o c.requires in
    let w : c.row_named.result ≡ whole ((model_rows c.args.self.now).arg c.args.v) = cc in
    let l = t.1 in
    omega arith
