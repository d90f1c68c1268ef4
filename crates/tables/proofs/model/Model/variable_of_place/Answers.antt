use Rattle.tables.specs.declared.form.Sort.TheVariants.{Variable}
use Rattle.tables.specs.Forms.{SortAt}
use Rattle.tables.specs.Views.{model_rows}
use Rattle.tables.proofs.SortLaws.{variable_within}
use Rattle.tables.proofs.PlaceLaws.{keeps_to_variable, never_share}
use Rattle.tables.proofs.model.Model.variable_of_place.Goals as goal

pub returns-clause-own : goal.returns-clause-own
returns-clause-own c = keeps_to_variable (model_rows c.args.self.now) _ c.args.self.now.good c.args.p c.requires.0

pub returns-clause-apart : goal.returns-clause-apart
returns-clause-apart c q l = never_share (model_rows c.args.self.now) _ c.args.self.now.good c.args.p q c.requires.0 l

pub returns-clause-variable : goal.returns-clause-variable
returns-clause-variable c =
    let r = c.in-Some.ensures in
    let v : SortAt (model_rows c.args.self.now) c.variable.result Variable = rw r.0 at c.variable.ensures.variable in
    variable_within (model_rows c.args.self.now) _ v
