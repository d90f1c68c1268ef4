-- What is found of a good row, by its form, and what it brings to the layout.
use Rattle.std.specs.Prelude.{◌≡◌, ℕ, ◌+◌, ◌<◌, ◌≤◌, false}
use Rattle.tables.specs.declared.form.Form.{Form}
use Rattle.tables.specs.declared.form.Form.TheVariants.{TypeRow, VariableRow, PortRow, ExprRow, StmtRow, StateRow}
use Rattle.tables.specs.Rows.{Rows}
use Rattle.tables.specs.Cells.{cells, taken, communicates_by, communicates}
use Rattle.checking.specs.declared.judged.Judged.{Judged}

abbrev pub Found : Rows → ℕ → Form → Judged → Type 0
Found m r (TypeRow f) j = (j.communicates ≡ false) × (j.cells ≡ cells m r) × (j.cells ≤ 4096)
Found m r (VariableRow of) j = (j.communicates ≡ false) × (taken m (r + 1) ≡ taken m r + j.cells)
Found m r (PortRow f) j = (j.communicates ≡ false) × (j.cells ≡ 0)
Found m r (ExprRow f) j = (j.communicates ≡ false) × (j.cells ≡ 0)
Found m r (StmtRow f) j = (j.communicates ≡ communicates_by f r (communicates m)) × (j.cells ≡ 0)
Found m r (StateRow statement) j = (j.communicates ≡ false) × (j.cells ≡ 0)

-- row r is a type of n cells, or a variable of n cells, or neither
pub record Brings (m : Rows) (r n : ℕ) : Type 0 where
  pub type : r < m.types → n ≡ cells m r
  pub variable : m.types ≤ r → r < m.variables → taken m (r + 1) ≡ taken m r + n
  pub neither : (m.types ≤ r → r < m.variables → ⊥) → taken m (r + 1) ≡ taken m r
  pub small : n ≤ 4096
  pub all : taken m (r + 1) ≤ 4096
