-- How cells, variables, targets and communication go from a row to those that it names.
use Rattle.std.proofs.Common.{◌≡◌, ℕ, ◌+◌, ◌-◌, ◌*◌, ◌<◌, false, [], ◌∷◌, ℤ, Some, refl, ap, ◌∙◌, add-one, arith}
use Rattle.std.proofs.lemmas.Int.{ints}
use Rattle.tables.specs.declared.form.TypeForm.{TypeForm}
use Rattle.tables.specs.declared.form.TypeForm.TheVariants as type
use Rattle.tables.specs.declared.form.ExprForm.TheVariants.{Variable, Element}
use Rattle.tables.specs.declared.form.StmtForm.{StmtForm}
use Rattle.tables.specs.declared.form.StmtForm.TheVariants.{Null, On, Assign, Further, Any, While, If, Sequence, Select, To, Loop, Synchronise, Send, Receive}
use Rattle.tables.specs.declared.form.Form.TheVariants.{TypeRow, ExprRow, StmtRow}
use Rattle.tables.specs.Rows.{Rows, whole}
use Rattle.tables.specs.Forms.{form_at}
use Rattle.tables.specs.Descent.{below, descend}
use Rattle.tables.specs.Types.{Scalar}
use Rattle.tables.specs.Cells.{type_at, cells_by, cells, scalar_by, scalar_of, taken_by, taken, variable_in, variable_of, targets_in, targets, communicates_by, communicates_in, communicates}
use Rattle.tables.specs.Rules.{StmtNames}
use Rattle.tables.proofs.Descents.{descend_is, below_at}

pub type_at_lem : (m : Rows) (t : ℕ) (f : TypeForm) → form_at m t ≡ Some (TypeRow f) → type_at m t ≡ f
unfolding type_at
type_at_lem m t f e = rw e

cells_is : (m : Rows) (t : ℕ) → cells m t ≡ cells_by (type_at m t) (below 0 t (cells m))
unfolding cells
cells_is m t = descend_is (λ t f. cells_by (type_at m t) f) 0 t

pub cells_array : (m : Rows) (t length : ℕ) (element : ℤ) → type_at m t ≡ type.Array length element → whole element < t → cells m t ≡ length * cells m (whole element)
cells_array m t length element e l =
    let p = cells_is m t in
    let q : cells m t ≡ cells_by (type.Array length element) (below 0 t (cells m)) = rw e at p in
    q ∙ ap (λ n. length * n) (below_at 0 t (whole element) (cells m) l)

one_cell : (f : TypeForm) (g : ℕ → ℕ) → Scalar f → cells_by f g ≡ 1
one_cell type.Bool g s = refl
one_cell type.Nat g s = refl
one_cell type.Int g s = refl
one_cell (type.Interval low span) g s = refl
one_cell (type.Array length element) g s = absurd s

pub cells_scalar : (m : Rows) (t : ℕ) → Scalar (type_at m t) → cells m t ≡ 1
cells_scalar m t s = cells_is m t ∙ one_cell (type_at m t) (below 0 t (cells m)) s

scalar_is : (m : Rows) (t : ℕ) → scalar_of m t ≡ scalar_by (type_at m t) (below type.Bool t (scalar_of m))
unfolding scalar_of
scalar_is m t = descend_is (λ t f. scalar_by (type_at m t) f) type.Bool t

itself : (f : TypeForm) (g : ℕ → TypeForm) → Scalar f → scalar_by f g ≡ f
itself type.Bool g s = refl
itself type.Nat g s = refl
itself type.Int g s = refl
itself (type.Interval low span) g s = refl
itself (type.Array length element) g s = absurd s

pub scalar_own : (m : Rows) (t : ℕ) → Scalar (type_at m t) → scalar_of m t ≡ type_at m t
scalar_own m t s = scalar_is m t ∙ itself (type_at m t) (below type.Bool t (scalar_of m)) s

pub scalar_element : (m : Rows) (t length : ℕ) (element : ℤ) → type_at m t ≡ type.Array length element → whole element < t → scalar_of m t ≡ scalar_of m (whole element)
scalar_element m t length element e l =
    let p = scalar_is m t in
    let q : scalar_of m t ≡ scalar_by (type.Array length element) (below type.Bool t (scalar_of m)) = rw e at p in
    q ∙ below_at type.Bool t (whole element) (scalar_of m) l

pub taken_more : (m : Rows) (r : ℕ) → taken m (r + 1) ≡ taken m r + taken_by m (form_at m r)
unfolding taken
taken_more m r = rw add-one refl

pub variable_own : (m : Rows) (q of : ℕ) (v : ℤ) → form_at m q ≡ Some (ExprRow (Variable of v)) → variable_of m q ≡ whole v
unfolding variable_of
variable_own m q of v e = descend_is (λ q f. variable_in (form_at m q) q f) 0 q ∙ rw e

pub variable_base : (m : Rows) (q of : ℕ) (b : ℤ) → form_at m q ≡ Some (ExprRow (Element of b)) → whole b < q → variable_of m q ≡ variable_of m (whole b)
unfolding variable_of
variable_base m q of b e l = descend_is (λ q f. variable_in (form_at m q) q f) 0 q ∙ rw e (below_at 0 q (whole b) (descend (λ q f. variable_in (form_at m q) q f) 0) l)

pub targets_one : (m : Rows) (r p : ℕ) (v : ℤ) → form_at m r ≡ Some (StmtRow (Assign p v)) → targets m r ≡ p ∷ []
unfolding targets
targets_one m r p v e = descend_is (λ r f. targets_in (form_at m r) r f) [] r ∙ rw e

pub targets_more : (m : Rows) (r p : ℕ) (v : ℤ) → form_at m r ≡ Some (StmtRow (Further p v)) → r - 1 < r → targets m r ≡ p ∷ targets m (r - 1)
unfolding targets
targets_more m r p v e l =
    descend_is (λ r f. targets_in (form_at m r) r f) [] r
    ∙ rw e (ap (λ ps. p ∷ ps) (below_at [] r (r - 1) (descend (λ r f. targets_in (form_at m r) r f) []) l))

pub communicates_is : (m : Rows) (r : ℕ) → communicates m r ≡ communicates_in (form_at m r) r (below false r (communicates m))
unfolding communicates
communicates_is m r = descend_is (λ r f. communicates_in (form_at m r) r f) false r

-- the parts of a statement are smaller rows
parts_below : (m : Rows) (r : ℕ) (f : StmtForm) → StmtNames m r f → communicates_by f r (below false r (communicates m)) ≡ communicates_by f r (communicates m)
parts_below m r Null n = refl
parts_below m r (On guard) n = refl
parts_below m r (Assign place value) n = refl
parts_below m r (Further place value) n = refl
parts_below m r (Any place) n = refl
parts_below m r (While condition body) n = below_at false r (whole body) (communicates m) (omega (arith, ints))
parts_below m r (If condition then) n =
    let a = below_at false r (whole then) (communicates m) (omega (arith, ints)) in
    let b = below_at false r (r - 1) (communicates m) (omega (arith, ints)) in
    rw (a, b)
parts_below m r (Sequence first second) n =
    let a = below_at false r first (communicates m) (omega (arith, ints)) in
    let b = below_at false r (whole second) (communicates m) (omega (arith, ints)) in
    rw (a, b)
parts_below m r (Select left right) n =
    let a = below_at false r left (communicates m) (omega (arith, ints)) in
    let b = below_at false r (whole right) (communicates m) (omega (arith, ints)) in
    rw (a, b)
parts_below m r (To state) n = refl
parts_below m r Loop n = refl
parts_below m r (Synchronise port) n = refl
parts_below m r (Send port value) n = refl
parts_below m r (Receive port place) n = refl

pub stmt_communicates : (m : Rows) (r : ℕ) (f : StmtForm) → form_at m r ≡ Some (StmtRow f) → StmtNames m r f → communicates m r ≡ communicates_by f r (communicates m)
stmt_communicates m r f e n = communicates_is m r ∙ rw e (parts_below m r f n)
