-- What rows come to by way of the smaller rows that they name: cells, variables, targets, communication.
use Rattle.std.specs.Prelude.{ℕ, zero, suc, ◌+◌, ◌-◌, ◌*◌, Bool, true, false, ◌||◌, List, [], ◌∷◌, Some, None, Option}
use Rattle.tables.specs.declared.form.TypeForm.{TypeForm}
use Rattle.tables.specs.declared.form.TypeForm.TheVariants as type
use Rattle.tables.specs.declared.form.PortForm.{PortForm}
use Rattle.tables.specs.declared.form.PortForm.TheVariants.{Plain}
use Rattle.tables.specs.declared.form.ExprForm.{ExprForm}
use Rattle.tables.specs.declared.form.ExprForm.TheVariants.{Literal, Read, Unary, Binary, Conditional, Pair, Variable, Element}
use Rattle.tables.specs.declared.form.StmtForm.{StmtForm}
use Rattle.tables.specs.declared.form.StmtForm.TheVariants.{Null, On, Assign, Further, Any, While, If, Sequence, Select, To, Loop, Synchronise, Send, Receive}
use Rattle.tables.specs.declared.form.Form.{Form}
use Rattle.tables.specs.declared.form.Form.TheVariants.{TypeRow, VariableRow, PortRow, ExprRow, StmtRow, StateRow}
use Rattle.tables.specs.Rows.{Rows, whole, tail}
use Rattle.tables.specs.Forms.{form_at}
use Rattle.tables.specs.Descent.{descend}

-- the type that a row is; a row that is none counts as bool, which no rule lets come to matter
abbrev pub type_in : Option Form → TypeForm
type_in None = type.Bool
type_in (Some (TypeRow f)) = f
type_in (Some (VariableRow of)) = type.Bool
type_in (Some (PortRow f)) = type.Bool
type_in (Some (ExprRow f)) = type.Bool
type_in (Some (StmtRow f)) = type.Bool
type_in (Some (StateRow statement)) = type.Bool

-- the type at row t
unfoldable pub type_at : Rows → ℕ → TypeForm
type_at m t = type_in (form_at m t)

-- the type of the value or place at row q: the tail names its row
abbrev pub type_of_row : Rows → ℕ → TypeForm
type_of_row m q = type_at m (tail m q)

-- the port that a row is, in the same way
abbrev pub port_in : Option Form → PortForm
port_in None = Plain
port_in (Some (TypeRow f)) = Plain
port_in (Some (VariableRow of)) = Plain
port_in (Some (PortRow f)) = f
port_in (Some (ExprRow f)) = Plain
port_in (Some (StmtRow f)) = Plain
port_in (Some (StateRow statement)) = Plain

unfoldable pub port_at : Rows → ℕ → PortForm
port_at m q = port_in (form_at m q)

-- a scalar takes one cell, and an array its elements'
abbrev pub cells_by : TypeForm → (ℕ → ℕ) → ℕ
cells_by type.Bool f = 1
cells_by type.Nat f = 1
cells_by type.Int f = 1
cells_by (type.Interval low span) f = 1
cells_by (type.Array length element) f = length * f (whole element)

-- the cells of the type at row t
unfoldable pub cells : Rows → ℕ → ℕ
cells m = descend (λ t f. cells_by (type_at m t) f) 0

-- the scalar that a type's cells have: its own, or that of its elements
abbrev pub scalar_by : TypeForm → (ℕ → TypeForm) → TypeForm
scalar_by type.Bool f = type.Bool
scalar_by type.Nat f = type.Nat
scalar_by type.Int f = type.Int
scalar_by (type.Interval low span) f = type.Interval low span
scalar_by (type.Array length element) f = f (whole element)

unfoldable pub scalar_of : Rows → ℕ → TypeForm
scalar_of m = descend (λ t f. scalar_by (type_at m t) f) type.Bool

-- the cells that a row brings: those of its type if it is a variable
abbrev pub taken_by : Rows → Option Form → ℕ
taken_by m None = 0
taken_by m (Some (TypeRow f)) = 0
taken_by m (Some (VariableRow of)) = cells m (whole of)
taken_by m (Some (PortRow f)) = 0
taken_by m (Some (ExprRow f)) = 0
taken_by m (Some (StmtRow f)) = 0
taken_by m (Some (StateRow statement)) = 0

-- the cells of the variables among the rows below r; a variable at row r has its first cell there
unfoldable pub taken : Rows → ℕ → ℕ
taken m zero = 0
taken m (suc r) = taken m r + taken_by m (form_at m r)

-- the variable that a place lies in: its own, or that of its base
abbrev pub variable_by : ExprForm → ℕ → (ℕ → ℕ) → ℕ
variable_by (Literal of value) q f = q
variable_by (Read of place) q f = q
variable_by (Unary op of operand) q f = q
variable_by (Binary op of left) q f = q
variable_by (Conditional of condition) q f = q
variable_by (Pair if_true) q f = q
variable_by (Variable of variable) q f = whole variable
variable_by (Element of base) q f = f (whole base)

abbrev pub variable_in : Option Form → ℕ → (ℕ → ℕ) → ℕ
variable_in None q f = q
variable_in (Some (TypeRow t)) q f = q
variable_in (Some (VariableRow of)) q f = q
variable_in (Some (PortRow p)) q f = q
variable_in (Some (ExprRow e)) q f = variable_by e q f
variable_in (Some (StmtRow s)) q f = q
variable_in (Some (StateRow statement)) q f = q

unfoldable pub variable_of : Rows → ℕ → ℕ
variable_of m = descend (λ q f. variable_in (form_at m q) q f) 0

-- the places that an assignment writes: its own, then those of the row before if it is a further one
abbrev pub targets_by : StmtForm → ℕ → (ℕ → List ℕ) → List ℕ
targets_by Null r f = []
targets_by (On guard) r f = []
targets_by (Assign place value) r f = place ∷ []
targets_by (Further place value) r f = place ∷ f (r - 1)
targets_by (Any place) r f = []
targets_by (While condition body) r f = []
targets_by (If condition then) r f = []
targets_by (Sequence first second) r f = []
targets_by (Select left right) r f = []
targets_by (To state) r f = []
targets_by Loop r f = []
targets_by (Synchronise port) r f = []
targets_by (Send port value) r f = []
targets_by (Receive port place) r f = []

abbrev pub targets_in : Option Form → ℕ → (ℕ → List ℕ) → List ℕ
targets_in None r f = []
targets_in (Some (TypeRow t)) r f = []
targets_in (Some (VariableRow of)) r f = []
targets_in (Some (PortRow p)) r f = []
targets_in (Some (ExprRow e)) r f = []
targets_in (Some (StmtRow s)) r f = targets_by s r f
targets_in (Some (StateRow statement)) r f = []

unfoldable pub targets : Rows → ℕ → List ℕ
targets m = descend (λ r f. targets_in (form_at m r) r f) []

-- a statement communicates if it meets, sends or receives, or has a part that does, reached or not
abbrev pub communicates_by : StmtForm → ℕ → (ℕ → Bool) → Bool
communicates_by Null r f = false
communicates_by (On guard) r f = false
communicates_by (Assign place value) r f = false
communicates_by (Further place value) r f = false
communicates_by (Any place) r f = false
communicates_by (While condition body) r f = f (whole body)
communicates_by (If condition then) r f = f (whole then) || f (r - 1)
communicates_by (Sequence first second) r f = f first || f (whole second)
communicates_by (Select left right) r f = f left || f (whole right)
communicates_by (To state) r f = false
communicates_by Loop r f = false
communicates_by (Synchronise port) r f = true
communicates_by (Send port value) r f = true
communicates_by (Receive port place) r f = true

abbrev pub communicates_in : Option Form → ℕ → (ℕ → Bool) → Bool
communicates_in None r f = false
communicates_in (Some (TypeRow t)) r f = false
communicates_in (Some (VariableRow of)) r f = false
communicates_in (Some (PortRow p)) r f = false
communicates_in (Some (ExprRow e)) r f = false
communicates_in (Some (StmtRow s)) r f = communicates_by s r f
communicates_in (Some (StateRow statement)) r f = false

unfoldable pub communicates : Rows → ℕ → Bool
communicates m = descend (λ r f. communicates_in (form_at m r) r f) false
