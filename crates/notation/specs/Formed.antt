-- What stands at any row number.
use Rattle.std.specs.Prelude.{◌≡◌, ℕ, ◌<◌, ◌≤◌, None, Option}
use Rattle.tables.specs.declared.form.Form.{Form}
use Rattle.tables.specs.Rows.{Rows}
use Rattle.tables.specs.Forms.{form_at}

-- the row's form, and none past the last row
abbrev pub Formed : Rows → ℕ → Option Form → Type 0
Formed m r o = (r < m.total → o ≡ form_at m r) × (m.total ≤ r → o ≡ None)
