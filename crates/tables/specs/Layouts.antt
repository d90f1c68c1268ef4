-- A layout that is right for the rows below r: every entry of a type or a variable is said, and the others are 0.
use Rattle.std.specs.Prelude.{◌≡◌, ℕ, ◌+◌, ◌-◌, ◌<◌, ◌≤◌, slice_index}
use Rattle.tables.specs.declared.layout.Layout.{Layout}
use Rattle.tables.specs.Rows.{Rows}
use Rattle.tables.specs.Cells.{cells, taken}

pub record LaidOut (m : Rows) (r : ℕ) (l : Layout) : Type 0 where
  pub sizes : (t : ℕ) → t < r → t < m.types → slice_index l.sizes t ≡ cells m t
  pub firsts : (v : ℕ) → v < r → m.types ≤ v → v < m.variables → slice_index l.firsts (v - m.types) ≡ taken m v
  pub cells : l.cells ≡ taken m r
  pub spare_sizes : (t : ℕ) → (t < r → t < m.types → ⊥) → slice_index l.sizes t ≡ 0
  pub spare_firsts : (k : ℕ) → (k + m.types < r → k + m.types < m.variables → ⊥) → slice_index l.firsts k ≡ 0

-- the layout of no rows
pub record Empty (l : Layout) : Type 0 where
  pub cells : l.cells ≡ 0
  pub sizes : (t : ℕ) → slice_index l.sizes t ≡ 0
  pub firsts : (k : ℕ) → slice_index l.firsts k ≡ 0
