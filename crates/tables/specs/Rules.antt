-- The rules that a row keeps, one function a rule, one line a form.
use Rattle.std.specs.Prelude.{◌≡◌, ℕ, ◌+◌, ◌-◌, ◌<◌, ◌≤◌, true, List, [], ◌∷◌, length, ℤ, pos, negsuc, ◌+ℤ◌, ◌≤ℤ◌, Some, None, Option, MatchOption, ◌≢◌}
use Rattle.tables.specs.declared.rule.Rule.{Rule}
use Rattle.tables.specs.declared.rule.Rule.TheVariants.{Shape, Naming, Extent, Typing, Statement, Communication, Chain}
use Rattle.tables.specs.declared.form.TypeForm.{TypeForm}
use Rattle.tables.specs.declared.form.TypeForm.TheVariants as type
use Rattle.tables.specs.declared.form.Direction.{Direction}
use Rattle.tables.specs.declared.form.Direction.TheVariants.{Receives, Sends, Either}
use Rattle.tables.specs.declared.form.PortForm.{PortForm}
use Rattle.tables.specs.declared.form.PortForm.TheVariants.{Plain, Carries}
use Rattle.tables.specs.declared.form.UnaryOp.{UnaryOp}
use Rattle.tables.specs.declared.form.UnaryOp.TheVariants.{Not, Minus, Coerce}
use Rattle.tables.specs.declared.form.BinaryOp.{BinaryOp}
use Rattle.tables.specs.declared.form.BinaryOp.TheVariants.{And, Or, Add, Sub, Mul, Div, Rem, Equal, Unequal, Less, AtMost, Greater, AtLeast}
use Rattle.tables.specs.declared.form.ExprForm.{ExprForm}
use Rattle.tables.specs.declared.form.ExprForm.TheVariants.{Literal, Read, Unary, Binary, Conditional, Pair, Variable, Element}
use Rattle.tables.specs.declared.form.StmtForm.{StmtForm}
use Rattle.tables.specs.declared.form.StmtForm.TheVariants.{Null, On, Assign, Further, Any, While, If, Sequence, Select, To, Loop, Synchronise, Send, Receive}
use Rattle.tables.specs.declared.form.Form.{Form}
use Rattle.tables.specs.declared.form.Form.TheVariants.{TypeRow, VariableRow, PortRow, ExprRow, StmtRow, StateRow}
use Rattle.tables.specs.declared.form.Sort.{Sort}
use Rattle.tables.specs.declared.form.Sort.TheVariants as sort
use Rattle.tables.specs.Rows.{Rows, whole, Between}
use Rattle.tables.specs.Forms.{form_at, SortAt, Is}
use Rattle.tables.specs.Types.{IsBool, Numeric, Scalar, Alike, Has, Fits, Indexes}
use Rattle.tables.specs.Cells.{type_at, type_of_row, port_at, cells, taken, variable_of, targets, communicates}

-- Naming. z is a smaller row than r, of the sort s
abbrev pub Refers : Rows → ℕ → Sort → ℤ → Type 0
Refers m r s z = Between 0 r z × SortAt m (whole z) s

-- the row before r is of the sort s
abbrev pub Follows : Rows → ℕ → Sort → Type 0
Follows m r s = Refers m r s (pos (r - 1))

abbrev pub Assigns : StmtForm → Type 0
Assigns Null = ⊥
Assigns (On guard) = ⊥
Assigns (Assign place value) = Unit {0}
Assigns (Further place value) = Unit {0}
Assigns (Any place) = ⊥
Assigns (While condition body) = ⊥
Assigns (If condition then) = ⊥
Assigns (Sequence first second) = ⊥
Assigns (Select left right) = ⊥
Assigns (To state) = ⊥
Assigns Loop = ⊥
Assigns (Synchronise port) = ⊥
Assigns (Send port value) = ⊥
Assigns (Receive port place) = ⊥

abbrev pub IsAssignment : Option Form → Type 0
IsAssignment None = ⊥
IsAssignment (Some (TypeRow f)) = ⊥
IsAssignment (Some (VariableRow of)) = ⊥
IsAssignment (Some (PortRow f)) = ⊥
IsAssignment (Some (ExprRow f)) = ⊥
IsAssignment (Some (StmtRow f)) = Assigns f
IsAssignment (Some (StateRow statement)) = ⊥

abbrev pub TypeNames : Rows → ℕ → TypeForm → Type 0
TypeNames m r type.Bool = Unit {0}
TypeNames m r type.Nat = Unit {0}
TypeNames m r type.Int = Unit {0}
TypeNames m r (type.Interval low span) = Unit {0}
TypeNames m r (type.Array length element) = Refers m r sort.DataType element

abbrev pub PortNames : Rows → ℕ → PortForm → Type 0
PortNames m r Plain = Unit {0}
PortNames m r (Carries way of) = Refers m r sort.DataType of

abbrev pub ExprNames : Rows → ℕ → ExprForm → Type 0
ExprNames m r (Literal of value) = Refers m r sort.DataType (pos of)
ExprNames m r (Read of place) = Refers m r sort.DataType (pos of) × Refers m r sort.Place place
ExprNames m r (Unary op of operand) = Refers m r sort.DataType (pos of) × Refers m r sort.Value operand
ExprNames m r (Binary op of left) = Refers m r sort.DataType (pos of) × Refers m r sort.Value left × Follows m r sort.Value
ExprNames m r (Conditional of condition) = Refers m r sort.DataType (pos of) × Refers m r sort.Value condition × Follows m r sort.Pair
ExprNames m r (Pair if_true) = Refers m r sort.Value if_true × Follows m r sort.Value
ExprNames m r (Variable of variable) = Refers m r sort.DataType (pos of) × Refers m r sort.Variable variable
ExprNames m r (Element of base) = Refers m r sort.DataType (pos of) × Refers m r sort.Place base × Follows m r sort.Value

abbrev pub StmtNames : Rows → ℕ → StmtForm → Type 0
StmtNames m r Null = Unit {0}
StmtNames m r (On guard) = Refers m r sort.Value guard
StmtNames m r (Assign place value) = Refers m r sort.Place (pos place) × Refers m r sort.Value value
StmtNames m r (Further place value) = Refers m r sort.Place (pos place) × Refers m r sort.Value value × Follows m r sort.Statement × IsAssignment (form_at m (r - 1))
StmtNames m r (Any place) = Refers m r sort.Place place
StmtNames m r (While condition body) = Refers m r sort.Value (pos condition) × Refers m r sort.Statement body
StmtNames m r (If condition then) = Refers m r sort.Value (pos condition) × Refers m r sort.Statement then × Follows m r sort.Statement
StmtNames m r (Sequence first second) = Refers m r sort.Statement (pos first) × Refers m r sort.Statement second
StmtNames m r (Select left right) = Refers m r sort.Statement (pos left) × Refers m r sort.Statement right
StmtNames m r (To state) = Between 0 (m.total - m.statements) state
StmtNames m r Loop = Unit {0}
StmtNames m r (Synchronise port) = Refers m r sort.Port port
StmtNames m r (Send port value) = Refers m r sort.Port (pos port) × Refers m r sort.Value value
StmtNames m r (Receive port place) = Refers m r sort.Port (pos port) × Refers m r sort.Place place

abbrev pub Names : Rows → ℕ → Form → Type 0
Names m r (TypeRow f) = TypeNames m r f
Names m r (VariableRow of) = Refers m r sort.DataType of
Names m r (PortRow f) = PortNames m r f
Names m r (ExprRow f) = ExprNames m r f
Names m r (StmtRow f) = StmtNames m r f
Names m r (StateRow statement) = (statement ≢ negsuc 0) → Refers m r sort.Statement statement

-- Extent.
abbrev pub TypeExtends : Rows → ℕ → TypeForm → Type 0
TypeExtends m r type.Bool = Unit {0}
TypeExtends m r type.Nat = Unit {0}
TypeExtends m r type.Int = Unit {0}
TypeExtends m r (type.Interval low span) = (low +ℤ pos span) ≤ℤ pos 2147483647
TypeExtends m r (type.Array length element) = (1 ≤ length) × (length ≤ 1024) × (cells m r ≤ 4096)

abbrev pub PortExtends : Rows → PortForm → Type 0
PortExtends m Plain = Unit {0}
PortExtends m (Carries way of) = Scalar (type_at m (whole of))

abbrev pub Extends : Rows → ℕ → Form → Type 0
Extends m r (TypeRow f) = TypeExtends m r f
Extends m r (VariableRow of) = taken m (r + 1) ≤ 4096
Extends m r (PortRow f) = PortExtends m f
Extends m r (ExprRow f) = Unit {0}
Extends m r (StmtRow f) = Unit {0}
Extends m r (StateRow statement) = Unit {0}

-- Typing of expressions and places: `own` is the type of the row itself.
abbrev pub UnaryTypes : UnaryOp → TypeForm → TypeForm → Type 0
UnaryTypes Not own a = IsBool own × IsBool a
UnaryTypes Minus own a = Numeric own × Fits a own
UnaryTypes Coerce own a = Numeric own × Numeric a

-- what the operands and the result of an operator may be
abbrev pub Logical : TypeForm → TypeForm → TypeForm → Type 0
Logical own a b = IsBool own × IsBool a × IsBool b

abbrev pub Arithmetical : TypeForm → TypeForm → TypeForm → Type 0
Arithmetical own a b = Numeric own × Fits a own × Fits b own

abbrev pub Matching : TypeForm → TypeForm → TypeForm → Type 0
Matching own a b = IsBool own × Alike a b

abbrev pub Ordering : TypeForm → TypeForm → TypeForm → Type 0
Ordering own a b = IsBool own × Numeric a × Numeric b

abbrev pub BinaryTypes : BinaryOp → TypeForm → TypeForm → TypeForm → Type 0
BinaryTypes And = Logical
BinaryTypes Or = Logical
BinaryTypes Add = Arithmetical
BinaryTypes Sub = Arithmetical
BinaryTypes Mul = Arithmetical
BinaryTypes Div = Arithmetical
BinaryTypes Rem = Arithmetical
BinaryTypes Equal = Matching
BinaryTypes Unequal = Matching
BinaryTypes Less = Ordering
BinaryTypes AtMost = Ordering
BinaryTypes Greater = Ordering
BinaryTypes AtLeast = Ordering

-- an element at this index, whose type is at row `of`, of a base of the first type
abbrev pub ElementTypes : TypeForm → ℕ → TypeForm → Type 0
ElementTypes type.Bool of index = ⊥
ElementTypes type.Nat of index = ⊥
ElementTypes type.Int of index = ⊥
ElementTypes (type.Interval low span) of index = ⊥
ElementTypes (type.Array length element) of index = (whole element ≡ of) × Indexes length index

abbrev pub ExprTypes : Rows → ℕ → ExprForm → Type 0
ExprTypes m r (Literal of value) = Has (type_at m of) value
ExprTypes m r (Read of place) = Fits (type_of_row m (whole place)) (type_at m of)
ExprTypes m r (Unary op of operand) = UnaryTypes op (type_at m of) (type_of_row m (whole operand))
ExprTypes m r (Binary op of left) = BinaryTypes op (type_at m of) (type_of_row m (whole left)) (type_of_row m (r - 1))
ExprTypes m r (Conditional of condition) = IsBool (type_of_row m (whole condition)) × Fits (type_of_row m (whole (m.arg (r - 1)))) (type_at m of) × Fits (type_of_row m (r - 2)) (type_at m of)
ExprTypes m r (Pair if_true) = Unit {0}
ExprTypes m r (Variable of variable) = whole (m.arg (whole variable)) ≡ of
ExprTypes m r (Element of base) = ElementTypes (type_of_row m (whole base)) of (type_of_row m (r - 1))

abbrev pub Types : Rows → ℕ → Form → Type 0
Types m r (TypeRow f) = Unit {0}
Types m r (VariableRow of) = Unit {0}
Types m r (PortRow f) = Unit {0}
Types m r (ExprRow f) = ExprTypes m r f
Types m r (StmtRow f) = Unit {0}
Types m r (StateRow statement) = Unit {0}

-- Typing of statements.
abbrev pub MaySend : Direction → Type 0
MaySend Receives = ⊥
MaySend Sends = Unit {0}
MaySend Either = Unit {0}

abbrev pub MayReceive : Direction → Type 0
MayReceive Receives = Unit {0}
MayReceive Sends = ⊥
MayReceive Either = Unit {0}

abbrev pub Meets : PortForm → Type 0
Meets Plain = Unit {0}
Meets (Carries way of) = ⊥

abbrev pub SendsAt : Rows → PortForm → TypeForm → Type 0
SendsAt m Plain value = ⊥
SendsAt m (Carries way of) value = MaySend way × Fits value (type_at m (whole of))

abbrev pub ReceivesAt : Rows → PortForm → TypeForm → Type 0
ReceivesAt m Plain place = ⊥
ReceivesAt m (Carries way of) place = MayReceive way × Fits (type_at m (whole of)) place

abbrev pub StmtTypes : Rows → ℕ → StmtForm → Type 0
StmtTypes m r Null = Unit {0}
StmtTypes m r (On guard) = IsBool (type_of_row m (whole guard))
StmtTypes m r (Assign place value) = Fits (type_of_row m (whole value)) (type_of_row m place)
StmtTypes m r (Further place value) = Fits (type_of_row m (whole value)) (type_of_row m place)
StmtTypes m r (Any place) = Scalar (type_of_row m (whole place))
StmtTypes m r (While condition body) = IsBool (type_of_row m condition)
StmtTypes m r (If condition then) = IsBool (type_of_row m condition)
StmtTypes m r (Sequence first second) = Unit {0}
StmtTypes m r (Select left right) = Unit {0}
StmtTypes m r (To state) = Unit {0}
StmtTypes m r Loop = Unit {0}
StmtTypes m r (Synchronise port) = Meets (port_at m (whole port))
StmtTypes m r (Send port value) = SendsAt m (port_at m port) (type_of_row m (whole value))
StmtTypes m r (Receive port place) = ReceivesAt m (port_at m port) (type_of_row m (whole place))

abbrev pub TypesStatement : Rows → ℕ → Form → Type 0
TypesStatement m r (TypeRow f) = Unit {0}
TypesStatement m r (VariableRow of) = Unit {0}
TypesStatement m r (PortRow f) = Unit {0}
TypesStatement m r (ExprRow f) = Unit {0}
TypesStatement m r (StmtRow f) = StmtTypes m r f
TypesStatement m r (StateRow statement) = Unit {0}

-- Communication: at most one part of a sequence, and no body of a while.
abbrev pub StmtOnce : Rows → StmtForm → Type 0
StmtOnce m Null = Unit {0}
StmtOnce m (On guard) = Unit {0}
StmtOnce m (Assign place value) = Unit {0}
StmtOnce m (Further place value) = Unit {0}
StmtOnce m (Any place) = Unit {0}
StmtOnce m (While condition body) = communicates m (whole body) ≡ true → ⊥
StmtOnce m (If condition then) = Unit {0}
StmtOnce m (Sequence first second) = communicates m first ≡ true → communicates m (whole second) ≢ true
StmtOnce m (Select left right) = Unit {0}
StmtOnce m (To state) = Unit {0}
StmtOnce m Loop = Unit {0}
StmtOnce m (Synchronise port) = Unit {0}
StmtOnce m (Send port value) = Unit {0}
StmtOnce m (Receive port place) = Unit {0}

abbrev pub Once : Rows → Form → Type 0
Once m (TypeRow f) = Unit {0}
Once m (VariableRow of) = Unit {0}
Once m (PortRow f) = Unit {0}
Once m (ExprRow f) = Unit {0}
Once m (StmtRow f) = StmtOnce m f
Once m (StateRow statement) = Unit {0}

-- Chains. Two targets are apart: they lie in different variables
abbrev pub Apart : Rows → ℕ → ℕ → Type 0
Apart m p q = variable_of m p ≡ variable_of m q → ⊥

-- R holds between x and each of the list
abbrev pub WithEach : (ℕ → ℕ → Type 0) → ℕ → List ℕ → Type 0
WithEach R x [] = Unit {0}
WithEach R x (y ∷ ys) = R x y × WithEach R x ys

-- R holds between any two of the list
abbrev pub Pairwise : (ℕ → ℕ → Type 0) → List ℕ → Type 0
Pairwise R [] = Unit {0}
Pairwise R (x ∷ xs) = WithEach R x xs × Pairwise R xs

abbrev pub StmtChains : Rows → ℕ → StmtForm → Type 0
StmtChains m r Null = Unit {0}
StmtChains m r (On guard) = Unit {0}
StmtChains m r (Assign place value) = Unit {0}
StmtChains m r (Further place value) = (length (targets m r) ≤ 8) × Pairwise (Apart m) (targets m r)
StmtChains m r (Any place) = Unit {0}
StmtChains m r (While condition body) = Unit {0}
StmtChains m r (If condition then) = Unit {0}
StmtChains m r (Sequence first second) = Unit {0}
StmtChains m r (Select left right) = Unit {0}
StmtChains m r (To state) = Unit {0}
StmtChains m r Loop = Unit {0}
StmtChains m r (Synchronise port) = Unit {0}
StmtChains m r (Send port value) = Unit {0}
StmtChains m r (Receive port place) = Unit {0}

abbrev pub Chains : Rows → ℕ → Form → Type 0
Chains m r (TypeRow f) = Unit {0}
Chains m r (VariableRow of) = Unit {0}
Chains m r (PortRow f) = Unit {0}
Chains m r (ExprRow f) = Unit {0}
Chains m r (StmtRow f) = StmtChains m r f
Chains m r (StateRow statement) = Unit {0}

-- what each rule asks of row r if it is the form f
abbrev pub Asks : Rule → Rows → ℕ → Form → Type 0
Asks Shape m r f = Is m r f
Asks Naming m r f = Names m r f
Asks Extent m r f = Extends m r f
Asks Typing m r f = Types m r f
Asks Statement m r f = TypesStatement m r f
Asks Communication m r f = Once m f
Asks Chain m r f = Chains m r f

-- row r is a form, and keeps the rule as that form
abbrev pub Obeys : Rule → Rows → ℕ → Type 0
Obeys n m r = MatchOption (form_at m r) ⊥ (Asks n m r)

-- all rules
abbrev pub All : (Rule → Type 0) → Type 0
All P = P Shape × P Naming × P Extent × P Typing × P Statement × P Communication × P Chain

-- n is the first rule that is broken
abbrev pub First : (Rule → Type 0) → Rule → Type 0
First P Shape = P Shape → ⊥
First P Naming = P Shape × (P Naming → ⊥)
First P Extent = P Shape × P Naming × (P Extent → ⊥)
First P Typing = P Shape × P Naming × P Extent × (P Typing → ⊥)
First P Statement = P Shape × P Naming × P Extent × P Typing × (P Statement → ⊥)
First P Communication = P Shape × P Naming × P Extent × P Typing × P Statement × (P Communication → ⊥)
First P Chain = P Shape × P Naming × P Extent × P Typing × P Statement × P Communication × (P Chain → ⊥)

-- row r keeps all rules
abbrev pub Good : Rows → ℕ → Type 0
Good m r = All (λ n. Obeys n m r)

abbrev pub GoodBelow : Rows → ℕ → Type 0
GoodBelow m r = (q : ℕ) → q < r → Good m q
