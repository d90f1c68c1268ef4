use Rattle.std.proofs.Common.{ℕ, ◌<◌, ◌≤◌}
use Rattle.tables.specs.Places.{CellOf}
use Rattle.tables.specs.Views.{model_rows}
use Rattle.tables.proofs.model.Model.type_of_cell.Given as goal

abbrev pub invariant-loop-v : goal.invariant-loop-v
invariant-loop-v l = (w : ℕ) → (model_rows l.self).types ≤ w → w < l.v → CellOf (model_rows l.self) w l.x → ⊥
