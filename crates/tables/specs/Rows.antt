-- The rows of a model, whatever holds them: where each section ends, and the code and the arg at each row number.
use Rattle.std.specs.Prelude.{ℕ, ◌/◌, ◌%◌, ◌<◌, ◌≤◌, cond, ℤ, pos, ◌≤ℤ◌, ◌<ℤ◌, nat_lt, unsigned_abs}
use Rattle.tables.specs.declared.section.Section.{Section}
use Rattle.tables.specs.declared.section.Section.TheVariants.{Types, Variables, Ports, Expressions, Statements, States}

-- each end is the row after the section's last; `total` is the number of rows
pub record Rows : Type 0 where
  pub types : ℕ
  pub variables : ℕ
  pub ports : ℕ
  pub expressions : ℕ
  pub statements : ℕ
  pub total : ℕ
  pub code : ℕ → ℤ
  pub arg : ℕ → ℤ

-- a number without its sign; the rules ask elsewhere that it has none
abbrev pub whole : ℤ → ℕ
whole z = unsigned_abs z

abbrev pub kind : Rows → ℕ → ℕ
kind m r = whole (m.code r) % 64

abbrev pub tail : Rows → ℕ → ℕ
tail m r = whole (m.code r) / 64

-- the section of row r
unfoldable pub section_of : Rows → ℕ → Section
section_of m r =
    cond (nat_lt r m.types) Types
    (cond (nat_lt r m.variables) Variables
    (cond (nat_lt r m.ports) Ports
    (cond (nat_lt r m.expressions) Expressions
    (cond (nat_lt r m.statements) Statements States))))

-- where a section lies
abbrev pub WithinSection : Section → Rows → ℕ → Type 0
WithinSection Types m r = r < m.types
WithinSection Variables m r = (m.types ≤ r) × (r < m.variables)
WithinSection Ports m r = (m.variables ≤ r) × (r < m.ports)
WithinSection Expressions m r = (m.ports ≤ r) × (r < m.expressions)
WithinSection Statements m r = (m.expressions ≤ r) × (r < m.statements)
WithinSection States m r = m.statements ≤ r

-- z is one of the numbers from a to before b
abbrev pub Between : ℕ → ℕ → ℤ → Type 0
Between a b z = (pos a ≤ℤ z) × (z <ℤ pos b)
