-- The form that a row's fields give stands for just those fields, and no other form does.
use Rattle.std.proofs.Common.{◌≡◌, ℕ, Bool, true, false, cond, ◌&&◌, eqb, ℤ, pos, ◌≤ℤ◌, IfSome, Some, None, Option, sym, refl, arith}
use lib.Signed.{le_z}
use Rattle.std.proofs.lemmas.Bool.Decides.{nat_tests}
use Rattle.std.specs.Option.{option_map}
use Rattle.tables.specs.declared.section.Section.{Section}
use Rattle.tables.specs.declared.section.Section.TheVariants.{Types, Variables, Ports, Expressions, Statements, States}
use Rattle.tables.specs.declared.form.TypeForm.{TypeForm}
use Rattle.tables.specs.declared.form.TypeForm.TheVariants as type
use Rattle.tables.specs.declared.form.Direction.{Direction}
use Rattle.tables.specs.declared.form.Direction.TheVariants.{Receives, Sends, Either}
use Rattle.tables.specs.declared.form.PortForm.{PortForm}
use Rattle.tables.specs.declared.form.PortForm.TheVariants.{Plain, Carries}
use Rattle.tables.specs.declared.form.UnaryOp.{UnaryOp}
use Rattle.tables.specs.declared.form.UnaryOp.TheVariants.{Not, Minus, Coerce}
use Rattle.tables.specs.declared.form.BinaryOp.{BinaryOp}
use Rattle.tables.specs.declared.form.BinaryOp.TheVariants.{And, Or, Add, Sub, Mul, Div, Rem, Equal, Unequal, Less, AtMost, Greater, AtLeast}
use Rattle.tables.specs.declared.form.ExprForm.{ExprForm}
use Rattle.tables.specs.declared.form.ExprForm.TheVariants.{Literal, Read, Unary, Binary, Conditional, Pair, Variable, Element}
use Rattle.tables.specs.declared.form.StmtForm.{StmtForm}
use Rattle.tables.specs.declared.form.StmtForm.TheVariants.{Null, On, Assign, Further, Any, While, If, Sequence, Select, To, Loop, Synchronise, Send, Receive}
use Rattle.tables.specs.declared.form.Form.{Form}
use Rattle.tables.specs.declared.form.Form.TheVariants.{TypeRow, VariableRow, PortRow, ExprRow, StmtRow, StateRow}
use Rattle.tables.specs.declared.raw.Raw.{Raw}
use Rattle.tables.specs.Rows.{Rows, section_of, kind, tail}
use Rattle.tables.specs.Forms.{unary_kind, binary_kind, way_tail, is_zero, type_of, way_of, port_of, unary_of, binary_of, operator_of, expr_of, stmt_of, form_of, form_at, TypeStands, PortStands, ExprStands, StmtStands, Stands, Is, Decoded}

-- what the chosen one of two has
either : {F : Type 0} (b : Bool) (x : F) (o : Option F) (P : F → Type 0) → (b ≡ true → P x) → IfSome o P → IfSome (cond b (Some x) o) P
either true x o P p q = p refl
either false x o P p q = q

lift : {F G : Type 0} (f : F → G) (o : Option F) (P : F → Type 0) (Q : G → Type 0) → ((x : F) → P x → Q (f x)) → IfSome o P → IfSome (option_map f o) Q
lift f None P Q h c = tt
lift f (Some x) P Q h c = h x c

module _ (k t : ℕ) (a : ℤ) where
  type_stands : IfSome (type_of k t a) (λ f. TypeStands f k t a)
  type_stands =
      let P : TypeForm → Type 0 = λ f. TypeStands f k t a in
      either (eqb k 0 && (eqb t 0 && is_zero a)) type.Bool _ P (λ h. grind (arith, nat_tests))
      (either (eqb k 1 && (eqb t 0 && is_zero a)) type.Nat _ P (λ h. grind (arith, nat_tests))
      (either (eqb k 2 && (eqb t 0 && is_zero a)) type.Int _ P (λ h. grind (arith, nat_tests))
      (either (eqb k 3) (type.Interval a t) _ P (λ h. grind (arith, nat_tests))
      (either (eqb k 4) (type.Array t a) None P (λ h. grind (arith, nat_tests)) tt))))

  way_stands : IfSome (way_of t) (λ w. t ≡ way_tail w)
  way_stands =
      let P : Direction → Type 0 = λ w. t ≡ way_tail w in
      either (eqb t 1) Receives _ P (λ h. grind (arith, nat_tests))
      (either (eqb t 2) Sends _ P (λ h. grind (arith, nat_tests))
      (either (eqb t 3) Either None P (λ h. grind (arith, nat_tests)) tt))

  port_stands : IfSome (port_of k t a) (λ f. PortStands f k t a)
  port_stands =
      let P : PortForm → Type 0 = λ f. PortStands f k t a in
      either (eqb k 9 && (eqb t 0 && is_zero a)) Plain _ P (λ h. grind (arith, nat_tests)) (carries (eqb k 9) refl)
    where
      carries : (b : Bool) → eqb k 9 ≡ b → IfSome (cond b (option_map (λ way. Carries way a) (way_of t)) None) (λ f. PortStands f k t a)
      carries true e = lift (λ way. Carries way a) (way_of t) (λ w. t ≡ way_tail w) (λ f. PortStands f k t a) (λ w h. (grind (arith, nat_tests), h, refl)) way_stands
      carries false e = tt

  unary_stands : IfSome (unary_of k) (λ o. k ≡ unary_kind o)
  unary_stands =
      let P : UnaryOp → Type 0 = λ o. k ≡ unary_kind o in
      either (eqb k 12) Not _ P (λ h. grind (arith, nat_tests))
      (either (eqb k 13) Minus _ P (λ h. grind (arith, nat_tests))
      (either (eqb k 14) Coerce None P (λ h. grind (arith, nat_tests)) tt))

  binary_stands : IfSome (binary_of k) (λ o. k ≡ binary_kind o)
  binary_stands =
      let P : BinaryOp → Type 0 = λ o. k ≡ binary_kind o in
      either (eqb k 15) And _ P (λ h. grind (arith, nat_tests))
      (either (eqb k 16) Or _ P (λ h. grind (arith, nat_tests))
      (either (eqb k 17) Add _ P (λ h. grind (arith, nat_tests))
      (either (eqb k 18) Sub _ P (λ h. grind (arith, nat_tests))
      (either (eqb k 19) Mul _ P (λ h. grind (arith, nat_tests))
      (either (eqb k 20) Div _ P (λ h. grind (arith, nat_tests))
      (either (eqb k 21) Rem _ P (λ h. grind (arith, nat_tests))
      (either (eqb k 22) Equal _ P (λ h. grind (arith, nat_tests))
      (either (eqb k 23) Unequal _ P (λ h. grind (arith, nat_tests))
      (either (eqb k 24) Less _ P (λ h. grind (arith, nat_tests))
      (either (eqb k 25) AtMost _ P (λ h. grind (arith, nat_tests))
      (either (eqb k 30) Greater _ P (λ h. grind (arith, nat_tests))
      (either (eqb k 31) AtLeast None P (λ h. grind (arith, nat_tests)) tt))))))))))))

  operator_stands : (u : Option UnaryOp) (b : Option BinaryOp) → IfSome u (λ o. k ≡ unary_kind o) → IfSome b (λ o. k ≡ binary_kind o) → IfSome (operator_of u b t a) (λ f. ExprStands f k t a)
  operator_stands (Some op) b p q = (p, refl, refl)
  operator_stands None (Some op) p q = (q, refl, refl)
  operator_stands None None p q = tt

  expr_stands : IfSome (expr_of k t a) (λ f. ExprStands f k t a)
  expr_stands =
      let P : ExprForm → Type 0 = λ f. ExprStands f k t a in
      either (eqb k 10) (Literal t a) _ P (λ h. grind (arith, nat_tests))
      (either (eqb k 11) (Read t a) _ P (λ h. grind (arith, nat_tests))
      (either (eqb k 26) (Conditional t a) _ P (λ h. grind (arith, nat_tests))
      (either (eqb k 27 && eqb t 0) (Pair a) _ P (λ h. grind (arith, nat_tests))
      (either (eqb k 28) (Variable t a) _ P (λ h. grind (arith, nat_tests))
      (either (eqb k 29) (Element t a) _ P (λ h. grind (arith, nat_tests))
      (operator_stands (unary_of k) (binary_of k) unary_stands binary_stands))))))

  stmt_stands : IfSome (stmt_of k t a) (λ f. StmtStands f k t a)
  stmt_stands =
      let P : StmtForm → Type 0 = λ f. StmtStands f k t a in
      either (eqb k 32 && (eqb t 0 && is_zero a)) Null _ P (λ h. grind (arith, nat_tests))
      (either (eqb k 33 && eqb t 0) (On a) _ P (λ h. grind (arith, nat_tests))
      (either (eqb k 34) (Assign t a) _ P (λ h. grind (arith, nat_tests))
      (either (eqb k 35) (Further t a) _ P (λ h. grind (arith, nat_tests))
      (either (eqb k 36 && eqb t 0) (Any a) _ P (λ h. grind (arith, nat_tests))
      (either (eqb k 37) (While t a) _ P (λ h. grind (arith, nat_tests))
      (either (eqb k 38) (If t a) _ P (λ h. grind (arith, nat_tests))
      (either (eqb k 39) (Sequence t a) _ P (λ h. grind (arith, nat_tests))
      (either (eqb k 40) (Select t a) _ P (λ h. grind (arith, nat_tests))
      (either (eqb k 41 && eqb t 0) (To a) _ P (λ h. grind (arith, nat_tests))
      (either (eqb k 42 && (eqb t 0 && is_zero a)) Loop _ P (λ h. grind (arith, nat_tests))
      (either (eqb k 43 && eqb t 0) (Synchronise a) _ P (λ h. grind (arith, nat_tests))
      (either (eqb k 44) (Send t a) _ P (λ h. grind (arith, nat_tests))
      (either (eqb k 45) (Receive t a) None P (λ h. grind (arith, nat_tests)) tt)))))))))))))

  form_stands : (s : Section) → IfSome (form_of s k t a) (λ f. Stands f s k t a)
  form_stands Types = lift TypeRow (type_of k t a) (λ f. TypeStands f k t a) (λ f. Stands f Types k t a) (λ f p. (refl, p)) type_stands
  form_stands Variables = either (eqb k 8 && eqb t 0) (VariableRow a) None (λ f. Stands f Variables k t a) (λ h. (refl, grind (arith, nat_tests))) tt
  form_stands Ports = lift PortRow (port_of k t a) (λ f. PortStands f k t a) (λ f. Stands f Ports k t a) (λ f p. (refl, p)) port_stands
  form_stands Expressions = lift ExprRow (expr_of k t a) (λ f. ExprStands f k t a) (λ f. Stands f Expressions k t a) (λ f p. (refl, p)) expr_stands
  form_stands Statements = lift StmtRow (stmt_of k t a) (λ f. StmtStands f k t a) (λ f. Stands f Statements k t a) (λ f p. (refl, p)) stmt_stands
  form_stands States = either (eqb k 48 && eqb t 0) (StateRow a) None (λ f. Stands f States k t a) (λ h. (refl, grind (arith, nat_tests))) tt

-- Fields that a form stands for give that form.
type_from : (f : TypeForm) (k t : ℕ) (a : ℤ) → TypeStands f k t a → type_of k t a ≡ Some f
type_from type.Bool k t a s = rw (s.0, s.1, s.2)
type_from type.Nat k t a s = rw (s.0, s.1, s.2)
type_from type.Int k t a s = rw (s.0, s.1, s.2)
type_from (type.Interval low span) k t a s = rw (s.0, s.1, s.2)
type_from (type.Array length element) k t a s = rw (s.0, s.1, s.2)

port_from : (f : PortForm) (k t : ℕ) (a : ℤ) → PortStands f k t a → port_of k t a ≡ Some f
port_from Plain k t a s = rw (s.0, s.1, s.2)
port_from (Carries Receives of) k t a s = rw (s.0, s.1, s.2)
port_from (Carries Sends of) k t a s = rw (s.0, s.1, s.2)
port_from (Carries Either of) k t a s = rw (s.0, s.1, s.2)

expr_from : (f : ExprForm) (k t : ℕ) (a : ℤ) → ExprStands f k t a → expr_of k t a ≡ Some f
expr_from (Literal of value) k t a s = rw (s.0, s.1, s.2)
expr_from (Read of place) k t a s = rw (s.0, s.1, s.2)
expr_from (Unary Not of operand) k t a s = rw (s.0, s.1, s.2)
expr_from (Unary Minus of operand) k t a s = rw (s.0, s.1, s.2)
expr_from (Unary Coerce of operand) k t a s = rw (s.0, s.1, s.2)
expr_from (Binary And of left) k t a s = rw (s.0, s.1, s.2)
expr_from (Binary Or of left) k t a s = rw (s.0, s.1, s.2)
expr_from (Binary Add of left) k t a s = rw (s.0, s.1, s.2)
expr_from (Binary Sub of left) k t a s = rw (s.0, s.1, s.2)
expr_from (Binary Mul of left) k t a s = rw (s.0, s.1, s.2)
expr_from (Binary Div of left) k t a s = rw (s.0, s.1, s.2)
expr_from (Binary Rem of left) k t a s = rw (s.0, s.1, s.2)
expr_from (Binary Equal of left) k t a s = rw (s.0, s.1, s.2)
expr_from (Binary Unequal of left) k t a s = rw (s.0, s.1, s.2)
expr_from (Binary Less of left) k t a s = rw (s.0, s.1, s.2)
expr_from (Binary AtMost of left) k t a s = rw (s.0, s.1, s.2)
expr_from (Binary Greater of left) k t a s = rw (s.0, s.1, s.2)
expr_from (Binary AtLeast of left) k t a s = rw (s.0, s.1, s.2)
expr_from (Conditional of condition) k t a s = rw (s.0, s.1, s.2)
expr_from (Pair if_true) k t a s = rw (s.0, s.1, s.2)
expr_from (Variable of variable) k t a s = rw (s.0, s.1, s.2)
expr_from (Element of base) k t a s = rw (s.0, s.1, s.2)

stmt_from : (f : StmtForm) (k t : ℕ) (a : ℤ) → StmtStands f k t a → stmt_of k t a ≡ Some f
stmt_from Null k t a s = rw (s.0, s.1, s.2)
stmt_from (On guard) k t a s = rw (s.0, s.1, s.2)
stmt_from (Assign place value) k t a s = rw (s.0, s.1, s.2)
stmt_from (Further place value) k t a s = rw (s.0, s.1, s.2)
stmt_from (Any place) k t a s = rw (s.0, s.1, s.2)
stmt_from (While condition body) k t a s = rw (s.0, s.1, s.2)
stmt_from (If condition then) k t a s = rw (s.0, s.1, s.2)
stmt_from (Sequence first second) k t a s = rw (s.0, s.1, s.2)
stmt_from (Select left right) k t a s = rw (s.0, s.1, s.2)
stmt_from (To state) k t a s = rw (s.0, s.1, s.2)
stmt_from Loop k t a s = rw (s.0, s.1, s.2)
stmt_from (Synchronise port) k t a s = rw (s.0, s.1, s.2)
stmt_from (Send port value) k t a s = rw (s.0, s.1, s.2)
stmt_from (Receive port place) k t a s = rw (s.0, s.1, s.2)

form_from : (f : Form) (s : Section) (k t : ℕ) (a : ℤ) → Stands f s k t a → form_of s k t a ≡ Some f
form_from (TypeRow f) s k t a h = rw h.0 (rw (type_from f k t a h.1))
form_from (VariableRow of) s k t a h = rw (h.0, h.1.0, h.1.1, h.1.2)
form_from (PortRow f) s k t a h = rw h.0 (rw (port_from f k t a h.1))
form_from (ExprRow f) s k t a h = rw h.0 (rw (expr_from f k t a h.1))
form_from (StmtRow f) s k t a h = rw h.0 (rw (stmt_from f k t a h.1))
form_from (StateRow statement) s k t a h = rw (h.0, h.1.0, h.1.1, h.1.2)

-- row r is the form that it gives, and no other
pub form_is : (m : Rows) (r : ℕ) → IfSome (form_at m r) (Is m r)
unfolding form_at
form_is m r = sign (le_z (pos 0) (m.code r)) refl
  where
    sign : (b : Bool) → le_z (pos 0) (m.code r) ≡ b → IfSome (cond b (form_of (section_of m r) (kind m r) (tail m r) (m.arg r)) None) (Is m r)
    sign true e = both (form_of (section_of m r) (kind m r) (tail m r) (m.arg r)) (form_stands (kind m r) (tail m r) (m.arg r) (section_of m r))
      where
        positive : pos 0 ≤ℤ m.code r
        positive = grind (arith, nat_tests)

        both : (o : Option Form) → IfSome o (λ f. Stands f (section_of m r) (kind m r) (tail m r) (m.arg r)) → IfSome o (Is m r)
        both None c = tt
        both (Some f) c = (positive, c)
    sign false e = tt

pub is_form : (m : Rows) (r : ℕ) (f : Form) → Is m r f → form_at m r ≡ Some f
unfolding form_at
is_form m r f i =
    let e : le_z (pos 0) (m.code r) ≡ true = grind (arith, nat_tests) in
    rw e (form_from f (section_of m r) (kind m r) (tail m r) (m.arg r) i.1)

pub decoded : (m : Rows) (r : ℕ) (o : Option Form) → o ≡ form_at m r → Decoded m r o
decoded m r None e = λ f i. (let p = is_form m r f i in let z : ◌≡◌ {A = ℕ} 0 1 = cc in omega arith)
decoded m r (Some f) e = let p = form_is m r in rw (sym e) at p

-- the form of row r, from its fields
pub form_raw : (m : Rows) (r : ℕ) (w : Raw) (s : Section) → (pos 0 ≤ℤ m.code r) × (w.kind ≡ kind m r) × (w.tail ≡ tail m r) × (w.arg ≡ m.arg r) → section_of m r ≡ s → form_of s w.kind w.tail w.arg ≡ form_at m r
unfolding form_at
form_raw m r w s h e =
    let p : le_z (pos 0) (m.code r) ≡ true = grind (arith, nat_tests) in
    rw (p, e, h.1, h.2, h.3)

pub form_none : (m : Rows) (r : ℕ) → (pos 0 ≤ℤ m.code r → ⊥) → None ≡ form_at m r
unfolding form_at
form_none m r h =
    let p : le_z (pos 0) (m.code r) ≡ false = grind (arith, nat_tests) in
    rw p
