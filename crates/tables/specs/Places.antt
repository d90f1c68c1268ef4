-- The cells that a place can name, and what a good model tells of them.
use Rattle.std.specs.Prelude.{◌≡◌, ℕ, ◌+◌, ◌-◌, ◌*◌, ◌<◌, ◌≤◌, ℤ, Some}
use Rattle.tables.specs.declared.form.TypeForm.{TypeForm}
use Rattle.tables.specs.declared.form.ExprForm.TheVariants.{Variable, Element}
use Rattle.tables.specs.declared.form.Form.TheVariants.{ExprRow}
use Rattle.tables.specs.Rows.{Rows, whole, tail}
use Rattle.tables.specs.declared.form.Sort.TheVariants.{Place}
use Rattle.tables.specs.Forms.{form_at, SortAt}
use Rattle.tables.specs.Types.{Has, Scalar}
use Rattle.tables.specs.Cells.{type_of_row, cells, scalar_of, taken, variable_of}
use Rattle.tables.specs.Rules.{Apart}

-- the place at row p can begin at cell c: a variable at its first cell, an element as many elements on as its index says, whatever value of its type the index has
pub data Begins (m : Rows) : ℕ → ℕ → Type 0 where
  own : {p of : ℕ} {v : ℤ} → form_at m p ≡ Some (ExprRow (Variable of v)) → Begins m p (taken m (whole v))
  element : {p of c : ℕ} {b : ℤ} (z : ℤ) → form_at m p ≡ Some (ExprRow (Element of b)) → Begins m (whole b) c → Has (type_of_row m (p - 1)) z → Begins m p (c + whole z * cells m of)

-- there is a place at row p
abbrev pub IsPlace : Rows → ℕ → Type 0
IsPlace m p = (p < m.total) × SortAt m p Place

-- there is a variable at row v
abbrev pub IsVariable : Rows → ℕ → Type 0
IsVariable m v = (m.types ≤ v) × (v < m.variables)

-- x is one of the cells of the place at row p
pub record NamesCell (m : Rows) (p x : ℕ) : Type 0 where
  pub first : ℕ
  pub begins : Begins m p first
  pub from : first ≤ x
  pub before : x < first + cells m (tail m p)

-- x is a cell of the variable at row v
abbrev pub CellOf : Rows → ℕ → ℕ → Type 0
CellOf m v x = (taken m v ≤ x) × (x < taken m v + cells m (whole (m.arg v)))

-- each cell of a place is one of its variable
abbrev pub KeepsToVariable : Rows → ℕ → Type 0
KeepsToVariable m p = (x : ℕ) → NamesCell m p x → CellOf m (variable_of m p) x

-- places that are apart never share a cell
abbrev pub NeverShare : Rows → ℕ → ℕ → Type 0
NeverShare m p q = Apart m p q → (x : ℕ) → NamesCell m p x → NamesCell m q x → ⊥

-- cell x is one of a variable, and f is the scalar that its cells have
pub record CellType (m : Rows) (x : ℕ) (f : TypeForm) : Type 0 where
  pub variable : ℕ
  pub from : m.types ≤ variable
  pub before : variable < m.variables
  pub cell : CellOf m variable x
  pub scalar : f ≡ scalar_of m (whole (m.arg variable))
  pub is_scalar : Scalar f

-- cell x is one of no variable
abbrev pub NoSuchCell : Rows → ℕ → Type 0
NoSuchCell m x = (v : ℕ) → m.types ≤ v → v < m.variables → CellOf m v x → ⊥
