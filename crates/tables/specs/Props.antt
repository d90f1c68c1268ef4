-- Each rule holds in at most one way, so that the type of a row and of a model can carry that all are kept.
use Rattle.std.proofs.Common.{◌≡◌, ℕ, ◌-◌, List, [], ◌∷◌, length, ℤ, Some, None, Option, MatchOption}
use std.HLevel.{Π_prop}
use native.Mathlib.Bridge.{le_prop}
use denote.Struct.Props.{props}
use denote.Struct.Record.{Also-prop}
use Rattle.tables.specs.contracts.form.Sort as sort_row
use Rattle.tables.specs.contracts.section.Section as section_row
use Rattle.tables.specs.declared.rule.Rule.{Rule}
use Rattle.tables.specs.declared.rule.Rule.TheVariants.{Shape, Naming, Extent, Typing, Statement, Communication, Chain}
use Rattle.tables.specs.declared.form.TypeForm.{TypeForm}
use Rattle.tables.specs.declared.form.TypeForm.TheVariants as type
use Rattle.tables.specs.declared.form.Direction.{Direction}
use Rattle.tables.specs.declared.form.Direction.TheVariants.{Receives, Sends, Either}
use Rattle.tables.specs.declared.form.PortForm.{PortForm}
use Rattle.tables.specs.declared.form.PortForm.TheVariants.{Plain, Carries}
use Rattle.tables.specs.declared.form.UnaryOp.{UnaryOp}
use Rattle.tables.specs.declared.form.UnaryOp.TheVariants.{Not, Minus, Coerce}
use Rattle.tables.specs.declared.form.BinaryOp.{BinaryOp}
use Rattle.tables.specs.declared.form.BinaryOp.TheVariants.{And, Or, Add, Sub, Mul, Div, Rem, Equal, Unequal, Less, AtMost, Greater, AtLeast}
use Rattle.tables.specs.declared.form.ExprForm.{ExprForm}
use Rattle.tables.specs.declared.form.ExprForm.TheVariants.{Literal, Read, Unary, Binary, Conditional, Pair, Variable, Element}
use Rattle.tables.specs.declared.form.StmtForm.{StmtForm}
use Rattle.tables.specs.declared.form.StmtForm.TheVariants.{Null, On, Assign, Further, Any, While, If, Sequence, Select, To, Loop, Synchronise, Send, Receive}
use Rattle.tables.specs.declared.form.Form.{Form}
use Rattle.tables.specs.declared.form.Form.TheVariants.{TypeRow, VariableRow, PortRow, ExprRow, StmtRow, StateRow}
use Rattle.tables.specs.declared.form.Sort.{Sort}
use Rattle.tables.specs.declared.form.Sort.TheVariants as sort
use Rattle.tables.specs.declared.section.Section.{Section}
use Rattle.tables.specs.declared.section.Section.TheVariants as section
use Rattle.tables.specs.declared.layout.Layout.{Layout}
use Rattle.tables.specs.Layouts.{LaidOut}
use Rattle.tables.specs.Rows.{Rows, whole, kind, tail, section_of}
use Rattle.tables.specs.Forms.{form_at, sort_of, SortAt, Is, Stands, TypeStands, PortStands, ExprStands, StmtStands}
use Rattle.tables.specs.Types.{IsBool, Numeric, Scalar, Alike, Has, Fits, Indexes}
use Rattle.tables.specs.Cells.{type_at, type_of_row, port_at, targets}
use Rattle.tables.specs.Rules.{Refers, Assigns, IsAssignment, TypeNames, PortNames, ExprNames, StmtNames, Names, TypeExtends, PortExtends, Extends, UnaryTypes, BinaryTypes, ElementTypes, ExprTypes, Types, MaySend, MayReceive, Meets, SendsAt, ReceivesAt, StmtTypes, TypesStatement, StmtOnce, Once, Apart, WithEach, Pairwise, StmtChains, Chains, Asks, Obeys, GoodBelow}

cases_prop : {F : Type 0} (o : Option F) (P : Type 0) (Q : F → Type 0) → IsProp P → ((f : F) → IsProp (Q f)) → IsProp (MatchOption o P Q)
cases_prop None P Q p q = p
cases_prop (Some f) P Q p q = q f

bool_prop : (f : TypeForm) → IsProp (IsBool f)
bool_prop type.Bool = hlevel props
bool_prop type.Nat = hlevel props
bool_prop type.Int = hlevel props
bool_prop (type.Interval low span) = hlevel props
bool_prop (type.Array length element) = hlevel props

numeric_prop : (f : TypeForm) → IsProp (Numeric f)
numeric_prop type.Bool = hlevel props
numeric_prop type.Nat = hlevel props
numeric_prop type.Int = hlevel props
numeric_prop (type.Interval low span) = hlevel props
numeric_prop (type.Array length element) = hlevel props

scalar_prop : (f : TypeForm) → IsProp (Scalar f)
scalar_prop type.Bool = hlevel props
scalar_prop type.Nat = hlevel props
scalar_prop type.Int = hlevel props
scalar_prop (type.Interval low span) = hlevel props
scalar_prop (type.Array length element) = hlevel props

has_prop : (z : ℤ) (f : TypeForm) → IsProp (Has f z)
has_prop z type.Bool = hlevel props
has_prop z type.Nat = hlevel props
has_prop z type.Int = hlevel props
has_prop z (type.Interval low span) = hlevel props
has_prop z (type.Array length element) = hlevel props

alike_prop : (s t : TypeForm) → IsProp (Alike s t)
alike_prop type.Bool t = bool_prop t
alike_prop type.Nat t = numeric_prop t
alike_prop type.Int t = numeric_prop t
alike_prop (type.Interval low span) t = numeric_prop t
alike_prop (type.Array length element) t = hlevel props

fits_prop : (s t : TypeForm) → IsProp (Fits s t)
fits_prop s t = Also-prop (alike_prop s t) (λ a. Π_prop (λ z. Π_prop (λ h. has_prop z t)))

indexes_prop : (n : ℕ) (s : TypeForm) → IsProp (Indexes n s)
indexes_prop n s = let p = numeric_prop s in hlevel props

sort_at_prop : (m : Rows) (q : ℕ) (s : Sort) → IsProp (SortAt m q s)
sort_at_prop m q s = cases_prop (form_at m q) ⊥ (λ f. sort_of f ≡ s) (hlevel props) (λ f. hlevel (props, (sort_row.the_row).coded))

refers_prop : (m : Rows) (r : ℕ) (s : Sort) (z : ℤ) → IsProp (Refers m r s z)
refers_prop m r s z = let p = sort_at_prop m (whole z) s in hlevel props

type_stands_prop : (k t : ℕ) (a : ℤ) (f : TypeForm) → IsProp (TypeStands f k t a)
type_stands_prop k t a type.Bool = hlevel props
type_stands_prop k t a type.Nat = hlevel props
type_stands_prop k t a type.Int = hlevel props
type_stands_prop k t a (type.Interval low span) = hlevel props
type_stands_prop k t a (type.Array length element) = hlevel props

port_stands_prop : (k t : ℕ) (a : ℤ) (f : PortForm) → IsProp (PortStands f k t a)
port_stands_prop k t a Plain = hlevel props
port_stands_prop k t a (Carries way of) = hlevel props

expr_stands_prop : (k t : ℕ) (a : ℤ) (f : ExprForm) → IsProp (ExprStands f k t a)
expr_stands_prop k t a (Literal of value) = hlevel props
expr_stands_prop k t a (Read of place) = hlevel props
expr_stands_prop k t a (Unary op of operand) = hlevel props
expr_stands_prop k t a (Binary op of left) = hlevel props
expr_stands_prop k t a (Conditional of condition) = hlevel props
expr_stands_prop k t a (Pair if_true) = hlevel props
expr_stands_prop k t a (Variable of variable) = hlevel props
expr_stands_prop k t a (Element of base) = hlevel props

stmt_stands_prop : (k t : ℕ) (a : ℤ) (f : StmtForm) → IsProp (StmtStands f k t a)
stmt_stands_prop k t a Null = hlevel props
stmt_stands_prop k t a (On guard) = hlevel props
stmt_stands_prop k t a (Assign place value) = hlevel props
stmt_stands_prop k t a (Further place value) = hlevel props
stmt_stands_prop k t a (Any place) = hlevel props
stmt_stands_prop k t a (While condition body) = hlevel props
stmt_stands_prop k t a (If condition then) = hlevel props
stmt_stands_prop k t a (Sequence first second) = hlevel props
stmt_stands_prop k t a (Select left right) = hlevel props
stmt_stands_prop k t a (To state) = hlevel props
stmt_stands_prop k t a Loop = hlevel props
stmt_stands_prop k t a (Synchronise port) = hlevel props
stmt_stands_prop k t a (Send port value) = hlevel props
stmt_stands_prop k t a (Receive port place) = hlevel props

at_section : (s t : Section) → IsProp (s ≡ t)
at_section s t = hlevel (props, (section_row.the_row).coded)

stands_prop : (s : Section) (k t : ℕ) (a : ℤ) (f : Form) → IsProp (Stands f s k t a)
stands_prop s k t a (TypeRow f) = Also-prop (at_section s section.Types) (λ e. type_stands_prop k t a f)
stands_prop s k t a (VariableRow of) = Also-prop (at_section s section.Variables) (λ e. hlevel props)
stands_prop s k t a (PortRow f) = Also-prop (at_section s section.Ports) (λ e. port_stands_prop k t a f)
stands_prop s k t a (ExprRow f) = Also-prop (at_section s section.Expressions) (λ e. expr_stands_prop k t a f)
stands_prop s k t a (StmtRow f) = Also-prop (at_section s section.Statements) (λ e. stmt_stands_prop k t a f)
stands_prop s k t a (StateRow statement) = Also-prop (at_section s section.States) (λ e. hlevel props)

is_prop : (m : Rows) (r : ℕ) (f : Form) → IsProp (Is m r f)
is_prop m r f = Also-prop (hlevel props) (λ e. stands_prop (section_of m r) (kind m r) (tail m r) (m.arg r) f)

assigns_prop : (f : StmtForm) → IsProp (Assigns f)
assigns_prop Null = hlevel props
assigns_prop (On guard) = hlevel props
assigns_prop (Assign place value) = hlevel props
assigns_prop (Further place value) = hlevel props
assigns_prop (Any place) = hlevel props
assigns_prop (While condition body) = hlevel props
assigns_prop (If condition then) = hlevel props
assigns_prop (Sequence first second) = hlevel props
assigns_prop (Select left right) = hlevel props
assigns_prop (To state) = hlevel props
assigns_prop Loop = hlevel props
assigns_prop (Synchronise port) = hlevel props
assigns_prop (Send port value) = hlevel props
assigns_prop (Receive port place) = hlevel props

pub assignment_prop : (o : Option Form) → IsProp (IsAssignment o)
assignment_prop None = hlevel props
assignment_prop (Some (TypeRow f)) = hlevel props
assignment_prop (Some (VariableRow of)) = hlevel props
assignment_prop (Some (PortRow f)) = hlevel props
assignment_prop (Some (ExprRow f)) = hlevel props
assignment_prop (Some (StmtRow f)) = assigns_prop f
assignment_prop (Some (StateRow statement)) = hlevel props

type_names_prop : (m : Rows) (r : ℕ) (f : TypeForm) → IsProp (TypeNames m r f)
type_names_prop m r type.Bool = hlevel props
type_names_prop m r type.Nat = hlevel props
type_names_prop m r type.Int = hlevel props
type_names_prop m r (type.Interval low span) = hlevel props
type_names_prop m r (type.Array length element) = refers_prop m r sort.DataType element

port_names_prop : (m : Rows) (r : ℕ) (f : PortForm) → IsProp (PortNames m r f)
port_names_prop m r Plain = hlevel props
port_names_prop m r (Carries way of) = refers_prop m r sort.DataType of

expr_names_prop : (m : Rows) (r : ℕ) (f : ExprForm) → IsProp (ExprNames m r f)
expr_names_prop m r (Literal of value) = hlevel (props, refers_prop)
expr_names_prop m r (Read of place) = hlevel (props, refers_prop)
expr_names_prop m r (Unary op of operand) = hlevel (props, refers_prop)
expr_names_prop m r (Binary op of left) = hlevel (props, refers_prop)
expr_names_prop m r (Conditional of condition) = hlevel (props, refers_prop)
expr_names_prop m r (Pair if_true) = hlevel (props, refers_prop)
expr_names_prop m r (Variable of variable) = hlevel (props, refers_prop)
expr_names_prop m r (Element of base) = hlevel (props, refers_prop)

stmt_names_prop : (m : Rows) (r : ℕ) (f : StmtForm) → IsProp (StmtNames m r f)
stmt_names_prop m r Null = hlevel props
stmt_names_prop m r (On guard) = hlevel (props, refers_prop)
stmt_names_prop m r (Assign place value) = hlevel (props, refers_prop)
stmt_names_prop m r (Further place value) = let p = assignment_prop (form_at m (r - 1)) in hlevel (props, refers_prop)
stmt_names_prop m r (Any place) = hlevel (props, refers_prop)
stmt_names_prop m r (While condition body) = hlevel (props, refers_prop)
stmt_names_prop m r (If condition then) = hlevel (props, refers_prop)
stmt_names_prop m r (Sequence first second) = hlevel (props, refers_prop)
stmt_names_prop m r (Select left right) = hlevel (props, refers_prop)
stmt_names_prop m r (To state) = hlevel props
stmt_names_prop m r Loop = hlevel props
stmt_names_prop m r (Synchronise port) = hlevel (props, refers_prop)
stmt_names_prop m r (Send port value) = hlevel (props, refers_prop)
stmt_names_prop m r (Receive port place) = hlevel (props, refers_prop)

names_prop : (m : Rows) (r : ℕ) (f : Form) → IsProp (Names m r f)
names_prop m r (TypeRow f) = type_names_prop m r f
names_prop m r (VariableRow of) = hlevel (props, refers_prop)
names_prop m r (PortRow f) = port_names_prop m r f
names_prop m r (ExprRow f) = expr_names_prop m r f
names_prop m r (StmtRow f) = stmt_names_prop m r f
names_prop m r (StateRow statement) = hlevel (props, refers_prop)

type_extends_prop : (m : Rows) (r : ℕ) (f : TypeForm) → IsProp (TypeExtends m r f)
type_extends_prop m r type.Bool = hlevel props
type_extends_prop m r type.Nat = hlevel props
type_extends_prop m r type.Int = hlevel props
type_extends_prop m r (type.Interval low span) = hlevel props
type_extends_prop m r (type.Array length element) = hlevel props

port_extends_prop : (m : Rows) (f : PortForm) → IsProp (PortExtends m f)
port_extends_prop m Plain = hlevel props
port_extends_prop m (Carries way of) = scalar_prop (type_at m (whole of))

extends_prop : (m : Rows) (r : ℕ) (f : Form) → IsProp (Extends m r f)
extends_prop m r (TypeRow f) = type_extends_prop m r f
extends_prop m r (VariableRow of) = hlevel props
extends_prop m r (PortRow f) = port_extends_prop m f
extends_prop m r (ExprRow f) = hlevel props
extends_prop m r (StmtRow f) = hlevel props
extends_prop m r (StateRow statement) = hlevel props

unary_prop : (own a : TypeForm) (f : UnaryOp) → IsProp (UnaryTypes f own a)
unary_prop own a Not = hlevel (props, bool_prop)
unary_prop own a Minus = hlevel (props, numeric_prop, fits_prop)
unary_prop own a Coerce = hlevel (props, numeric_prop)

binary_prop : (own a b : TypeForm) (f : BinaryOp) → IsProp (BinaryTypes f own a b)
binary_prop own a b And = hlevel (props, bool_prop)
binary_prop own a b Or = hlevel (props, bool_prop)
binary_prop own a b Add = hlevel (props, numeric_prop, fits_prop)
binary_prop own a b Sub = hlevel (props, numeric_prop, fits_prop)
binary_prop own a b Mul = hlevel (props, numeric_prop, fits_prop)
binary_prop own a b Div = hlevel (props, numeric_prop, fits_prop)
binary_prop own a b Rem = hlevel (props, numeric_prop, fits_prop)
binary_prop own a b Equal = hlevel (props, bool_prop, alike_prop)
binary_prop own a b Unequal = hlevel (props, bool_prop, alike_prop)
binary_prop own a b Less = hlevel (props, bool_prop, numeric_prop)
binary_prop own a b AtMost = hlevel (props, bool_prop, numeric_prop)
binary_prop own a b Greater = hlevel (props, bool_prop, numeric_prop)
binary_prop own a b AtLeast = hlevel (props, bool_prop, numeric_prop)

element_prop : (of : ℕ) (index : TypeForm) (f : TypeForm) → IsProp (ElementTypes f of index)
element_prop of index type.Bool = hlevel props
element_prop of index type.Nat = hlevel props
element_prop of index type.Int = hlevel props
element_prop of index (type.Interval low span) = hlevel props
element_prop of index (type.Array length element) = hlevel (props, indexes_prop)

expr_types_prop : (m : Rows) (r : ℕ) (f : ExprForm) → IsProp (ExprTypes m r f)
expr_types_prop m r (Literal of value) = has_prop value (type_at m of)
expr_types_prop m r (Read of place) = fits_prop (type_of_row m (whole place)) (type_at m of)
expr_types_prop m r (Unary op of operand) = unary_prop (type_at m of) (type_of_row m (whole operand)) op
expr_types_prop m r (Binary op of left) = binary_prop (type_at m of) (type_of_row m (whole left)) (type_of_row m (r - 1)) op
expr_types_prop m r (Conditional of condition) = hlevel (props, bool_prop, fits_prop)
expr_types_prop m r (Pair if_true) = hlevel props
expr_types_prop m r (Variable of variable) = hlevel props
expr_types_prop m r (Element of base) = element_prop of (type_of_row m (r - 1)) (type_of_row m (whole base))

types_prop : (m : Rows) (r : ℕ) (f : Form) → IsProp (Types m r f)
types_prop m r (TypeRow f) = hlevel props
types_prop m r (VariableRow of) = hlevel props
types_prop m r (PortRow f) = hlevel props
types_prop m r (ExprRow f) = expr_types_prop m r f
types_prop m r (StmtRow f) = hlevel props
types_prop m r (StateRow statement) = hlevel props

may_send_prop : (f : Direction) → IsProp (MaySend f)
may_send_prop Receives = hlevel props
may_send_prop Sends = hlevel props
may_send_prop Either = hlevel props

may_receive_prop : (f : Direction) → IsProp (MayReceive f)
may_receive_prop Receives = hlevel props
may_receive_prop Sends = hlevel props
may_receive_prop Either = hlevel props

meets_prop : (f : PortForm) → IsProp (Meets f)
meets_prop Plain = hlevel props
meets_prop (Carries way of) = hlevel props

sends_prop : (m : Rows) (v : TypeForm) (f : PortForm) → IsProp (SendsAt m f v)
sends_prop m v Plain = hlevel props
sends_prop m v (Carries way of) = Also-prop (may_send_prop way) (λ e. fits_prop v (type_at m (whole of)))

receives_prop : (m : Rows) (p : TypeForm) (f : PortForm) → IsProp (ReceivesAt m f p)
receives_prop m p Plain = hlevel props
receives_prop m p (Carries way of) = Also-prop (may_receive_prop way) (λ e. fits_prop (type_at m (whole of)) p)

stmt_types_prop : (m : Rows) (r : ℕ) (f : StmtForm) → IsProp (StmtTypes m r f)
stmt_types_prop m r Null = hlevel props
stmt_types_prop m r (On guard) = bool_prop (type_of_row m (whole guard))
stmt_types_prop m r (Assign place value) = fits_prop (type_of_row m (whole value)) (type_of_row m place)
stmt_types_prop m r (Further place value) = fits_prop (type_of_row m (whole value)) (type_of_row m place)
stmt_types_prop m r (Any place) = scalar_prop (type_of_row m (whole place))
stmt_types_prop m r (While condition body) = bool_prop (type_of_row m condition)
stmt_types_prop m r (If condition then) = bool_prop (type_of_row m condition)
stmt_types_prop m r (Sequence first second) = hlevel props
stmt_types_prop m r (Select left right) = hlevel props
stmt_types_prop m r (To state) = hlevel props
stmt_types_prop m r Loop = hlevel props
stmt_types_prop m r (Synchronise port) = meets_prop (port_at m (whole port))
stmt_types_prop m r (Send port value) = sends_prop m (type_of_row m (whole value)) (port_at m port)
stmt_types_prop m r (Receive port place) = receives_prop m (type_of_row m (whole place)) (port_at m port)

statement_prop : (m : Rows) (r : ℕ) (f : Form) → IsProp (TypesStatement m r f)
statement_prop m r (TypeRow f) = hlevel props
statement_prop m r (VariableRow of) = hlevel props
statement_prop m r (PortRow f) = hlevel props
statement_prop m r (ExprRow f) = hlevel props
statement_prop m r (StmtRow f) = stmt_types_prop m r f
statement_prop m r (StateRow statement) = hlevel props

stmt_once_prop : (m : Rows) (f : StmtForm) → IsProp (StmtOnce m f)
stmt_once_prop m Null = hlevel props
stmt_once_prop m (On guard) = hlevel props
stmt_once_prop m (Assign place value) = hlevel props
stmt_once_prop m (Further place value) = hlevel props
stmt_once_prop m (Any place) = hlevel props
stmt_once_prop m (While condition body) = hlevel props
stmt_once_prop m (If condition then) = hlevel props
stmt_once_prop m (Sequence first second) = hlevel props
stmt_once_prop m (Select left right) = hlevel props
stmt_once_prop m (To state) = hlevel props
stmt_once_prop m Loop = hlevel props
stmt_once_prop m (Synchronise port) = hlevel props
stmt_once_prop m (Send port value) = hlevel props
stmt_once_prop m (Receive port place) = hlevel props

once_prop : (m : Rows) (f : Form) → IsProp (Once m f)
once_prop m (TypeRow f) = hlevel props
once_prop m (VariableRow of) = hlevel props
once_prop m (PortRow f) = hlevel props
once_prop m (ExprRow f) = hlevel props
once_prop m (StmtRow f) = stmt_once_prop m f
once_prop m (StateRow statement) = hlevel props

each_prop : (m : Rows) (x : ℕ) (xs : List ℕ) → IsProp (WithEach (Apart m) x xs)
each_prop m x [] = hlevel props
each_prop m x (y ∷ ys) = let p = each_prop m x ys in hlevel props

pairwise_prop : (m : Rows) (xs : List ℕ) → IsProp (Pairwise (Apart m) xs)
pairwise_prop m [] = hlevel props
pairwise_prop m (x ∷ xs) = Also-prop (each_prop m x xs) (λ e. pairwise_prop m xs)

stmt_chains_prop : (m : Rows) (r : ℕ) (f : StmtForm) → IsProp (StmtChains m r f)
stmt_chains_prop m r Null = hlevel props
stmt_chains_prop m r (On guard) = hlevel props
stmt_chains_prop m r (Assign place value) = hlevel props
stmt_chains_prop m r (Further place value) = Also-prop le_prop (λ e. pairwise_prop m (targets m r))
stmt_chains_prop m r (Any place) = hlevel props
stmt_chains_prop m r (While condition body) = hlevel props
stmt_chains_prop m r (If condition then) = hlevel props
stmt_chains_prop m r (Sequence first second) = hlevel props
stmt_chains_prop m r (Select left right) = hlevel props
stmt_chains_prop m r (To state) = hlevel props
stmt_chains_prop m r Loop = hlevel props
stmt_chains_prop m r (Synchronise port) = hlevel props
stmt_chains_prop m r (Send port value) = hlevel props
stmt_chains_prop m r (Receive port place) = hlevel props

chains_prop : (m : Rows) (r : ℕ) (f : Form) → IsProp (Chains m r f)
chains_prop m r (TypeRow f) = hlevel props
chains_prop m r (VariableRow of) = hlevel props
chains_prop m r (PortRow f) = hlevel props
chains_prop m r (ExprRow f) = hlevel props
chains_prop m r (StmtRow f) = stmt_chains_prop m r f
chains_prop m r (StateRow statement) = hlevel props

asks_prop : (n : Rule) (m : Rows) (r : ℕ) (f : Form) → IsProp (Asks n m r f)
asks_prop Shape m r f = is_prop m r f
asks_prop Naming m r f = names_prop m r f
asks_prop Extent m r f = extends_prop m r f
asks_prop Typing m r f = types_prop m r f
asks_prop Statement m r f = statement_prop m r f
asks_prop Communication m r f = once_prop m f
asks_prop Chain m r f = chains_prop m r f

obeys_prop : (n : Rule) (m : Rows) (r : ℕ) → IsProp (Obeys n m r)
obeys_prop n m r = cases_prop (form_at m r) ⊥ (Asks n m r) (hlevel props) (asks_prop n m r)

seven_prop : {A B C D E F G : Type 0} → IsProp A → IsProp B → IsProp C → IsProp D → IsProp E → IsProp F → IsProp G → IsProp (A × B × C × D × E × F × G)
seven_prop a b c d e f g p q =
    λ i. (a p.0 q.0 i, b p.1 q.1 i, c p.2 q.2 i, d p.3 q.3 i, e p.4 q.4 i, f p.5 q.5 i, g p.6 q.6 i)

pub good_below_prop : (m : Rows) (n : ℕ) → IsProp (GoodBelow m n)
good_below_prop m n =
    Π_prop
    (λ q. Π_prop
    (λ l. let p : (n : Rule) → IsProp (Obeys n m q) = λ n. obeys_prop n m q in seven_prop (p Shape) (p Naming) (p Extent) (p Typing) (p Statement) (p Communication) (p Chain)))

pub laid_out_prop : (m : Rows) (r : ℕ) (l : Layout) → IsProp (LaidOut m r l)
laid_out_prop m r l = hlevel props
