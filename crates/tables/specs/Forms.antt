-- What each row is. `Stands` has the format's table: the kind, the tail and the arg of each form, 0 for a field that is not in use.
use Rattle.std.specs.Prelude.{◌≡◌, ℕ, Bool, cond, ◌&&◌, ℤ, pos, ◌≤ℤ◌, Some, None, Option, MatchOption, ◌==◌, int_le}
use Rattle.std.specs.Option.{option_map}
use Rattle.tables.specs.declared.section.Section.{Section}
use Rattle.tables.specs.declared.section.Section.TheVariants.{Types, Variables, Ports, Expressions, Statements, States}
use Rattle.tables.specs.declared.form.TypeForm.{TypeForm}
use Rattle.tables.specs.declared.form.TypeForm.TheVariants as type
use Rattle.tables.specs.declared.form.Direction.{Direction}
use Rattle.tables.specs.declared.form.Direction.TheVariants.{Receives, Sends, Either}
use Rattle.tables.specs.declared.form.PortForm.{PortForm}
use Rattle.tables.specs.declared.form.PortForm.TheVariants.{Plain, Carries}
use Rattle.tables.specs.declared.form.UnaryOp.{UnaryOp}
use Rattle.tables.specs.declared.form.UnaryOp.TheVariants.{Not, Minus, Coerce}
use Rattle.tables.specs.declared.form.BinaryOp.{BinaryOp}
use Rattle.tables.specs.declared.form.BinaryOp.TheVariants.{And, Or, Add, Sub, Mul, Div, Rem, Equal, Unequal, Less, AtMost, Greater, AtLeast}
use Rattle.tables.specs.declared.form.ExprForm.{ExprForm}
use Rattle.tables.specs.declared.form.ExprForm.TheVariants.{Literal, Read, Unary, Binary, Conditional, Pair, Variable, Element}
use Rattle.tables.specs.declared.form.StmtForm.{StmtForm}
use Rattle.tables.specs.declared.form.StmtForm.TheVariants.{Null, On, Assign, Further, Any, While, If, Sequence, Select, To, Loop, Synchronise, Send, Receive}
use Rattle.tables.specs.declared.form.Form.{Form}
use Rattle.tables.specs.declared.form.Form.TheVariants.{TypeRow, VariableRow, PortRow, ExprRow, StmtRow, StateRow}
use Rattle.tables.specs.declared.form.Sort.{Sort}
use Rattle.tables.specs.declared.form.Sort.TheVariants as sort
use Rattle.tables.specs.Rows.{Rows, kind, tail, section_of}

-- a kind, a tail and an arg are these
abbrev pub Fields : ℕ → ℕ → ℤ → ℕ → ℕ → ℤ → Type 0
Fields k t a k' t' a' = (k ≡ k') × (t ≡ t') × (a ≡ a')

abbrev pub unary_kind : UnaryOp → ℕ
unary_kind Not = 12
unary_kind Minus = 13
unary_kind Coerce = 14

abbrev pub binary_kind : BinaryOp → ℕ
binary_kind And = 15
binary_kind Or = 16
binary_kind Add = 17
binary_kind Sub = 18
binary_kind Mul = 19
binary_kind Div = 20
binary_kind Rem = 21
binary_kind Equal = 22
binary_kind Unequal = 23
binary_kind Less = 24
binary_kind AtMost = 25
binary_kind Greater = 30
binary_kind AtLeast = 31

abbrev pub way_tail : Direction → ℕ
way_tail Receives = 1
way_tail Sends = 2
way_tail Either = 3

abbrev pub TypeStands : TypeForm → ℕ → ℕ → ℤ → Type 0
TypeStands type.Bool k t a = Fields k t a 0 0 (pos 0)
TypeStands type.Nat k t a = Fields k t a 1 0 (pos 0)
TypeStands type.Int k t a = Fields k t a 2 0 (pos 0)
TypeStands (type.Interval low span) k t a = Fields k t a 3 span low
TypeStands (type.Array length element) k t a = Fields k t a 4 length element

abbrev pub PortStands : PortForm → ℕ → ℕ → ℤ → Type 0
PortStands Plain k t a = Fields k t a 9 0 (pos 0)
PortStands (Carries way of) k t a = Fields k t a 9 (way_tail way) of

abbrev pub ExprStands : ExprForm → ℕ → ℕ → ℤ → Type 0
ExprStands (Literal of value) k t a = Fields k t a 10 of value
ExprStands (Read of place) k t a = Fields k t a 11 of place
ExprStands (Unary op of operand) k t a = Fields k t a (unary_kind op) of operand
ExprStands (Binary op of left) k t a = Fields k t a (binary_kind op) of left
ExprStands (Conditional of condition) k t a = Fields k t a 26 of condition
ExprStands (Pair if_true) k t a = Fields k t a 27 0 if_true
ExprStands (Variable of variable) k t a = Fields k t a 28 of variable
ExprStands (Element of base) k t a = Fields k t a 29 of base

abbrev pub StmtStands : StmtForm → ℕ → ℕ → ℤ → Type 0
StmtStands Null k t a = Fields k t a 32 0 (pos 0)
StmtStands (On guard) k t a = Fields k t a 33 0 guard
StmtStands (Assign place value) k t a = Fields k t a 34 place value
StmtStands (Further place value) k t a = Fields k t a 35 place value
StmtStands (Any place) k t a = Fields k t a 36 0 place
StmtStands (While condition body) k t a = Fields k t a 37 condition body
StmtStands (If condition then) k t a = Fields k t a 38 condition then
StmtStands (Sequence first second) k t a = Fields k t a 39 first second
StmtStands (Select left right) k t a = Fields k t a 40 left right
StmtStands (To state) k t a = Fields k t a 41 0 state
StmtStands Loop k t a = Fields k t a 42 0 (pos 0)
StmtStands (Synchronise port) k t a = Fields k t a 43 0 port
StmtStands (Send port value) k t a = Fields k t a 44 port value
StmtStands (Receive port place) k t a = Fields k t a 45 port place

-- the form stands for a row of this section with this kind, tail and arg
abbrev pub Stands : Form → Section → ℕ → ℕ → ℤ → Type 0
Stands (TypeRow f) s k t a = (s ≡ Types) × TypeStands f k t a
Stands (VariableRow of) s k t a = (s ≡ Variables) × Fields k t a 8 0 of
Stands (PortRow f) s k t a = (s ≡ Ports) × PortStands f k t a
Stands (ExprRow f) s k t a = (s ≡ Expressions) × ExprStands f k t a
Stands (StmtRow f) s k t a = (s ≡ Statements) × StmtStands f k t a
Stands (StateRow statement) s k t a = (s ≡ States) × Fields k t a 48 0 statement

-- row r is this form
abbrev pub Is : Rows → ℕ → Form → Type 0
Is m r f = (pos 0 ≤ℤ m.code r) × Stands f (section_of m r) (kind m r) (tail m r) (m.arg r)

-- The form, from the fields: the tables above read the other way.
abbrev pub is_zero : ℤ → Bool
is_zero a = int_le a (pos 0) && int_le (pos 0) a

abbrev pub type_of : ℕ → ℕ → ℤ → Option TypeForm
type_of k t a =
    cond (k == 0 && (t == 0 && is_zero a)) (Some type.Bool)
    (cond (k == 1 && (t == 0 && is_zero a)) (Some type.Nat)
    (cond (k == 2 && (t == 0 && is_zero a)) (Some type.Int)
    (cond (k == 3) (Some (type.Interval a t))
    (cond (k == 4) (Some (type.Array t a)) None))))

-- which way values pass, by the tail
abbrev pub way_of : ℕ → Option Direction
way_of t = cond (t == 1) (Some Receives) (cond (t == 2) (Some Sends) (cond (t == 3) (Some Either) None))

abbrev pub port_of : ℕ → ℕ → ℤ → Option PortForm
port_of k t a =
    cond (k == 9 && (t == 0 && is_zero a)) (Some Plain)
    (cond (k == 9) (option_map (λ way. Carries way a) (way_of t)) None)

abbrev pub unary_of : ℕ → Option UnaryOp
unary_of k = cond (k == 12) (Some Not) (cond (k == 13) (Some Minus) (cond (k == 14) (Some Coerce) None))

abbrev pub binary_of : ℕ → Option BinaryOp
binary_of k =
    cond (k == 15) (Some And)
    (cond (k == 16) (Some Or)
    (cond (k == 17) (Some Add)
    (cond (k == 18) (Some Sub)
    (cond (k == 19) (Some Mul)
    (cond (k == 20) (Some Div)
    (cond (k == 21) (Some Rem)
    (cond (k == 22) (Some Equal)
    (cond (k == 23) (Some Unequal)
    (cond (k == 24) (Some Less)
    (cond (k == 25) (Some AtMost)
    (cond (k == 30) (Some Greater)
    (cond (k == 31) (Some AtLeast) None))))))))))))

-- an operator of one operand, and else one of two
abbrev pub operator_of : Option UnaryOp → Option BinaryOp → ℕ → ℤ → Option ExprForm
operator_of (Some op) other t a = Some (Unary op t a)
operator_of None (Some op) t a = Some (Binary op t a)
operator_of None None t a = None

abbrev pub expr_of : ℕ → ℕ → ℤ → Option ExprForm
expr_of k t a =
    cond (k == 10) (Some (Literal t a))
    (cond (k == 11) (Some (Read t a))
    (cond (k == 26) (Some (Conditional t a))
    (cond (k == 27 && t == 0) (Some (Pair a))
    (cond (k == 28) (Some (Variable t a))
    (cond (k == 29) (Some (Element t a))
    (operator_of (unary_of k) (binary_of k) t a))))))

abbrev pub stmt_of : ℕ → ℕ → ℤ → Option StmtForm
stmt_of k t a =
    cond (k == 32 && (t == 0 && is_zero a)) (Some Null)
    (cond (k == 33 && t == 0) (Some (On a))
    (cond (k == 34) (Some (Assign t a))
    (cond (k == 35) (Some (Further t a))
    (cond (k == 36 && t == 0) (Some (Any a))
    (cond (k == 37) (Some (While t a))
    (cond (k == 38) (Some (If t a))
    (cond (k == 39) (Some (Sequence t a))
    (cond (k == 40) (Some (Select t a))
    (cond (k == 41 && t == 0) (Some (To a))
    (cond (k == 42 && (t == 0 && is_zero a)) (Some Loop)
    (cond (k == 43 && t == 0) (Some (Synchronise a))
    (cond (k == 44) (Some (Send t a))
    (cond (k == 45) (Some (Receive t a)) None)))))))))))))

abbrev pub form_of : Section → ℕ → ℕ → ℤ → Option Form
form_of Types k t a = option_map TypeRow (type_of k t a)
form_of Variables k t a = cond (k == 8 && t == 0) (Some (VariableRow a)) None
form_of Ports k t a = option_map PortRow (port_of k t a)
form_of Expressions k t a = option_map ExprRow (expr_of k t a)
form_of Statements k t a = option_map StmtRow (stmt_of k t a)
form_of States k t a = cond (k == 48 && t == 0) (Some (StateRow a)) None

-- what row r is, if it is anything
unfoldable pub form_at : Rows → ℕ → Option Form
form_at m r = cond (int_le (pos 0) (m.code r)) (form_of (section_of m r) (kind m r) (tail m r) (m.arg r)) None

-- a row of one form, or of none: the form, and the fields that it stands for; or that no form stands for them
abbrev pub Decoded : Rows → ℕ → Option Form → Type 0
Decoded m r None = (f : Form) → Is m r f → ⊥
Decoded m r (Some f) = Is m r f

-- what a row is named as
abbrev pub expr_sort : ExprForm → Sort
expr_sort (Literal of value) = sort.Value
expr_sort (Read of place) = sort.Value
expr_sort (Unary op of operand) = sort.Value
expr_sort (Binary op of left) = sort.Value
expr_sort (Conditional of condition) = sort.Value
expr_sort (Pair if_true) = sort.Pair
expr_sort (Variable of variable) = sort.Place
expr_sort (Element of base) = sort.Place

abbrev pub sort_of : Form → Sort
sort_of (TypeRow f) = sort.DataType
sort_of (VariableRow of) = sort.Variable
sort_of (PortRow f) = sort.Port
sort_of (ExprRow f) = expr_sort f
sort_of (StmtRow f) = sort.Statement
sort_of (StateRow statement) = sort.State

-- row q is of this sort
abbrev pub SortAt : Rows → ℕ → Sort → Type 0
SortAt m q s = MatchOption (form_at m q) ⊥ (λ f. sort_of f ≡ s)

-- values and places have a type
abbrev pub HasType : Sort → Type 0
HasType sort.DataType = ⊥
HasType sort.Variable = ⊥
HasType sort.Port = ⊥
HasType sort.Value = Unit {0}
HasType sort.Place = Unit {0}
HasType sort.Pair = ⊥
HasType sort.Statement = ⊥
HasType sort.State = ⊥
