-- What the sort of a row tells, and what a good row tells of its type.
use Rattle.std.proofs.Common.{◌≡◌, ℕ, ◌<◌, ◌≤◌, Bool, true, false, cond, ltb, pos, ◌≤ℤ◌, IfSome, Some, None, Option, refl, arith, MatchOption}
use Rattle.std.proofs.lemmas.Int.{ints, to_z-of_z}
use Rattle.std.proofs.lemmas.Bool.Decides.{nat_tests}
use Rattle.tables.specs.declared.section.Section.{Section}
use Rattle.tables.specs.declared.section.Section.TheVariants.{Types, Variables, Ports, Expressions, Statements, States}
use Rattle.tables.specs.declared.form.ExprForm.{ExprForm}
use Rattle.tables.specs.declared.form.ExprForm.TheVariants.{Literal, Read, Unary, Binary, Conditional, Pair, Variable, Element}
use Rattle.tables.specs.declared.form.Form.{Form}
use Rattle.tables.specs.declared.form.Form.TheVariants.{TypeRow, VariableRow, PortRow, ExprRow, StmtRow, StateRow}
use Rattle.tables.specs.declared.form.Sort.{Sort}
use Rattle.tables.specs.declared.form.Sort.TheVariants as sort
use Rattle.tables.specs.Rows.{Rows, whole, tail, section_of, WithinSection}
use Rattle.tables.specs.Forms.{form_at, expr_sort, sort_of, SortAt, HasType, Is}
use Rattle.tables.specs.Cells.{port_in, port_at}
use Rattle.tables.specs.Rules.{Asks, All, Good, Names, ExprNames, PortNames, Refers}
use Rattle.tables.specs.Places.{IsVariable}
use Rattle.tables.proofs.Sections.{section_is, Ordered}
use Rattle.tables.proofs.FormLaws.{form_is}

-- where a row of a section lies
pub section_within : (m : Rows) (r : ℕ) → WithinSection (section_of m r) m r
unfolding section_of
section_within m r = types (ltb r m.types) refl
  where
    statements : (b : Bool) → ltb r m.statements ≡ b → (m.expressions ≤ r) → WithinSection (cond b Statements States) m r
    statements true e l = (l, grind (arith, nat_tests))
    statements false e l = grind (arith, nat_tests)

    expressions : (b : Bool) → ltb r m.expressions ≡ b → (m.ports ≤ r) → WithinSection (cond b Expressions (cond (ltb r m.statements) Statements States)) m r
    expressions true e l = (l, grind (arith, nat_tests))
    expressions false e l = statements (ltb r m.statements) refl (grind (arith, nat_tests))

    ports : (b : Bool) → ltb r m.ports ≡ b → (m.variables ≤ r) → WithinSection (cond b Ports (cond (ltb r m.expressions) Expressions (cond (ltb r m.statements) Statements States))) m r
    ports true e l = (l, grind (arith, nat_tests))
    ports false e l = expressions (ltb r m.expressions) refl (grind (arith, nat_tests))

    variables : (b : Bool) → ltb r m.variables ≡ b → (m.types ≤ r) → WithinSection (cond b Variables (cond (ltb r m.ports) Ports (cond (ltb r m.expressions) Expressions (cond (ltb r m.statements) Statements States)))) m r
    variables true e l = (l, grind (arith, nat_tests))
    variables false e l = ports (ltb r m.ports) refl (grind (arith, nat_tests))

    types : (b : Bool) → ltb r m.types ≡ b → WithinSection (cond b Types (cond (ltb r m.variables) Variables (cond (ltb r m.ports) Ports (cond (ltb r m.expressions) Expressions (cond (ltb r m.statements) Statements States))))) m r
    types true e = grind (arith, nat_tests)
    types false e = variables (ltb r m.variables) refl (grind (arith, nat_tests))

pub in_section : (m : Rows) (r : ℕ) (s : Section) → section_of m r ≡ s → WithinSection s m r
in_section m r s e = rw e at (section_within m r)

never : {A : Type 0} → ◌≡◌ {A = ℕ} 0 1 → A
never e = absurd (omega arith)

-- expressions, places and pairs have a sort of their own
abbrev OfExpressions : Sort → Type 0
OfExpressions sort.DataType = ⊥
OfExpressions sort.Variable = ⊥
OfExpressions sort.Port = ⊥
OfExpressions sort.Value = Unit {0}
OfExpressions sort.Place = Unit {0}
OfExpressions sort.Pair = Unit {0}
OfExpressions sort.Statement = ⊥
OfExpressions sort.State = ⊥

of_expression : (f : ExprForm) → OfExpressions (expr_sort f)
of_expression (Literal of value) = tt
of_expression (Read of place) = tt
of_expression (Unary op of operand) = tt
of_expression (Binary op of left) = tt
of_expression (Conditional of condition) = tt
of_expression (Pair if_true) = tt
of_expression (Variable of variable) = tt
of_expression (Element of base) = tt

-- a row that is a type lies among the types
pub type_row : (m : Rows) (q : ℕ) → SortAt m q sort.DataType → q < m.types
type_row m q s = in_section m q Types (from (form_at m q) (form_is m q) s)
  where
    from : (o : Option Form) → IfSome o (Is m q) → MatchOption o ⊥ (λ f. sort_of f ≡ sort.DataType) → section_of m q ≡ Types
    from None i e = absurd e
    from (Some (TypeRow f)) i e = i.1.0
    from (Some (VariableRow of)) i e = never (cc)
    from (Some (PortRow f)) i e = never (cc)
    from (Some (ExprRow f)) i e = absurd (rw e at (of_expression f))
    from (Some (StmtRow f)) i e = never (cc)
    from (Some (StateRow statement)) i e = never (cc)

-- a good row is a form that keeps the rules
pub at_form : (m : Rows) (q : ℕ) (f : Form) → Good m q → form_at m q ≡ Some f → All (λ n. Asks n m q f)
at_form m q f g e = (
  rw e at g.0,
  rw e at g.1,
  rw e at g.2,
  rw e at g.3,
  rw e at g.4,
  rw e at g.5,
  rw e at g.6,
)

sort_has : (m : Rows) (q : ℕ) (s : Sort) → HasType s → SortAt m q s → MatchOption (form_at m q) ⊥ (λ f. HasType (sort_of f))
sort_has m q s h a = from (form_at m q) a
  where
    from : (o : Option Form) → MatchOption o ⊥ (λ f. sort_of f ≡ s) → MatchOption o ⊥ (λ f. HasType (sort_of f))
    from None e = absurd e
    from (Some f) e = rw e h

-- the code of a good value or place is not negative, and its tail is an earlier row that is a type
pub record TypedRow (m : Rows) (q : ℕ) : Type 0 where
  pub sign : pos 0 ≤ℤ m.code q
  pub earlier : tail m q < q
  pub is_type : SortAt m (tail m q) sort.DataType

typed_expr : (m : Rows) (q : ℕ) (f : ExprForm) → Is m q (ExprRow f) → ExprNames m q f → HasType (expr_sort f) → TypedRow m q
typed_expr m q (Literal of value) i n h = record { sign = i.0; earlier = omega (arith, ints); is_type = rw i.1.1.1 n.1 }
typed_expr m q (Read of place) i n h = record { sign = i.0; earlier = omega (arith, ints); is_type = rw i.1.1.1 n.0.1 }
typed_expr m q (Unary op of operand) i n h = record { sign = i.0; earlier = omega (arith, ints); is_type = rw i.1.1.1 n.0.1 }
typed_expr m q (Binary op of left) i n h = record { sign = i.0; earlier = omega (arith, ints); is_type = rw i.1.1.1 n.0.1 }
typed_expr m q (Conditional of condition) i n h = record { sign = i.0; earlier = omega (arith, ints); is_type = rw i.1.1.1 n.0.1 }
typed_expr m q (Pair if_true) i n h = absurd h
typed_expr m q (Variable of variable) i n h = record { sign = i.0; earlier = omega (arith, ints); is_type = rw i.1.1.1 n.0.1 }
typed_expr m q (Element of base) i n h = record { sign = i.0; earlier = omega (arith, ints); is_type = rw i.1.1.1 n.0.1 }

pub typed_row : (m : Rows) (q : ℕ) (s : Sort) → HasType s → Good m q → SortAt m q s → TypedRow m q
typed_row m q s h g a = from (form_at m q) g.0 g.1 (sort_has m q s h a)
  where
    from : (o : Option Form) → MatchOption o ⊥ (Is m q) → MatchOption o ⊥ (Names m q) → MatchOption o ⊥ (λ f. HasType (sort_of f)) → TypedRow m q
    from None i n e = absurd e
    from (Some (TypeRow f)) i n e = absurd e
    from (Some (VariableRow of)) i n e = absurd e
    from (Some (PortRow f)) i n e = absurd e
    from (Some (ExprRow f)) i n e = typed_expr m q f i n e
    from (Some (StmtRow f)) i n e = absurd e
    from (Some (StateRow statement)) i n e = absurd e

-- a good port names what its form says
pub port_names : (m : Rows) (q : ℕ) → Good m q → SortAt m q sort.Port → PortNames m q (port_at m q)
unfolding port_at
port_names m q g s = from (form_at m q) g.1 s
  where
    from : (o : Option Form) → MatchOption o ⊥ (Names m q) → MatchOption o ⊥ (λ f. sort_of f ≡ sort.Port) → PortNames m q (port_in o)
    from None n e = absurd e
    from (Some (TypeRow f)) n e = never (cc)
    from (Some (VariableRow of)) n e = never (cc)
    from (Some (PortRow f)) n e = n
    from (Some (ExprRow f)) n e = absurd (rw e at (of_expression f))
    from (Some (StmtRow f)) n e = never (cc)
    from (Some (StateRow statement)) n e = never (cc)

-- the type of a good variable is an earlier row that is one
variable_type : (m : Rows) (v : ℕ) → Good m v → section_of m v ≡ Variables → Refers m v sort.DataType (m.arg v)
variable_type m v g s = from (form_at m v) g.0 g.1
  where
    from : (o : Option Form) → MatchOption o ⊥ (Is m v) → MatchOption o ⊥ (Names m v) → Refers m v sort.DataType (m.arg v)
    from None i n = absurd i
    from (Some (TypeRow f)) i n = (let e = i.1.0 in never (cc))
    from (Some (VariableRow of)) i n = rw i.1.1.2 n
    from (Some (PortRow f)) i n = (let e = i.1.0 in never (cc))
    from (Some (ExprRow f)) i n = (let e = i.1.0 in never (cc))
    from (Some (StmtRow f)) i n = (let e = i.1.0 in never (cc))
    from (Some (StateRow statement)) i n = (let e = i.1.0 in never (cc))

-- a good variable names a type, which is one of the types' rows
pub variable_names : (m : Rows) (v : ℕ) → Good m v → Ordered m → IsVariable m v → Refers m v sort.DataType (m.arg v) × (whole (m.arg v) < m.types)
variable_names m v g o i =
    let t = variable_type m v g (section_is m v Variables o i) in
    (t, type_row m (whole (m.arg v)) t.1)

pub is_some : (m : Rows) (q : ℕ) → Good m q → form_at m q ≡ None → ⊥
is_some m q g e = rw e at g.0

-- a row that is a variable: its form, which has the row's arg
pub variable_row : (m : Rows) (q : ℕ) → SortAt m q sort.Variable → form_at m q ≡ Some (VariableRow (m.arg q))
variable_row m q s = from (form_at m q) refl (form_is m q) s
  where
    from : (o : Option Form) → form_at m q ≡ o → IfSome o (Is m q) → MatchOption o ⊥ (λ f. sort_of f ≡ sort.Variable) → form_at m q ≡ Some (VariableRow (m.arg q))
    from None i e s = absurd s
    from (Some (TypeRow f)) i e s = never (cc)
    from (Some (VariableRow of)) i e s = (let a = e.1.1.2 in cc)
    from (Some (PortRow f)) i e s = never (cc)
    from (Some (ExprRow f)) i e s = absurd (rw s at (of_expression f))
    from (Some (StmtRow f)) i e s = never (cc)
    from (Some (StateRow statement)) i e s = never (cc)

pub variable_within : (m : Rows) (q : ℕ) → SortAt m q sort.Variable → (m.types ≤ q) × (q < m.variables)
variable_within m q s = in_section m q Variables (section (form_at m q) (variable_row m q s) (form_is m q))
  where
    section : (o : Option Form) → o ≡ Some (VariableRow (m.arg q)) → IfSome o (Is m q) → section_of m q ≡ Variables
    section o e i = (rw e at i).1.0

pub ruleset variables = (variable_names, ints, to_z-of_z)
