-- Places keep to their variables, and variables to their own cells.
use Rattle.std.proofs.Common.{◌≡◌, ℕ, zero, suc, ◌+◌, ◌-◌, ◌*◌, ◌<◌, ◌≤◌, ℤ, Some, None, Option, sym, refl, ap, ◌∙◌, inl, inr, mul-le-mul_right, add-mul, suc-add, zero-add, arith, MatchOption}
use Rattle.std.proofs.lemmas.Int.{ints, to_z-of_z}
use Rattle.tables.specs.declared.form.TypeForm.{TypeForm}
use Rattle.tables.specs.declared.form.TypeForm.TheVariants as type
use Rattle.tables.specs.declared.form.ExprForm.TheVariants.{Variable, Element}
use Rattle.tables.specs.declared.form.Form.{Form}
use Rattle.tables.specs.declared.form.Form.TheVariants.{TypeRow, VariableRow, PortRow, ExprRow, StmtRow, StateRow}
use Rattle.tables.specs.Rows.{Rows, whole, tail}
use Rattle.tables.specs.declared.form.Sort.TheVariants as sort
use Rattle.tables.specs.Forms.{form_at, SortAt}
use Rattle.tables.specs.Types.{Has, Scalar}
use Rattle.tables.specs.Cells.{type_in, type_at, type_of_row, cells, scalar_of, taken, variable_of}
use Rattle.tables.specs.Rules.{GoodBelow, Good, Names, TypeNames, ElementTypes}
use Rattle.tables.specs.Places.{Begins, own, element, CellOf, KeepsToVariable, NeverShare}
use Rattle.std.proofs.lemmas.Bool.{cases_eq, cases_lt}
use Rattle.tables.proofs.CellLaws.{cells_array, scalar_own, scalar_element, taken_more, variable_own, variable_base}
use Rattle.tables.proofs.SortLaws.{at_form, typed_row, variable_row, variable_within}

never : {A : Type 0} → ◌≡◌ {A = ℕ} 0 1 → A
never e = absurd (omega arith)

-- the element of a good array is an earlier row
pub array_element : (m : Rows) (t length : ℕ) (e : ℤ) → Good m t → type_at m t ≡ type.Array length e → whole e < t
unfolding type_at
array_element m t length e g h = from (form_at m t) g.1 h
  where
    from : (o : Option Form) → MatchOption o ⊥ (Names m t) → type_in o ≡ type.Array length e → whole e < t
    from None n i = absurd n
    from (Some (TypeRow f)) n i = (let k : TypeNames m t (type.Array length e) = rw i at n in omega (arith, ints))
    from (Some (VariableRow of)) n i = never (cc)
    from (Some (PortRow f)) n i = never (cc)
    from (Some (ExprRow f)) n i = never (cc)
    from (Some (StmtRow f)) n i = never (cc)
    from (Some (StateRow statement)) n i = never (cc)

-- the cells up to and with an element lie within the array
within_array : (m : Rows) (t of : ℕ) (f index : TypeForm) (z : ℤ) → Good m t → type_at m t ≡ f → ElementTypes f of index → Has index z → (whole z + 1) * cells m of ≤ cells m t
within_array m t of type.Bool index z g e h k = absurd h
within_array m t of type.Nat index z g e h k = absurd h
within_array m t of type.Int index z g e h k = absurd h
within_array m t of (type.Interval low span) index z g e h k = absurd h
within_array m t of (type.Array length el) index z g e h k =
    let l = array_element m t length el g e in
    let c = cells_array m t length el e l in
    let b = h.1.1 z k in
    let d : whole z + 1 ≤ length = omega (arith, ints) in
    let p : (whole z + 1) * cells m of ≤ length * cells m of = mul-le-mul_right (cells m of) d in
    let q : cells m (whole el) ≡ cells m of = ap (cells m) h.0 in
    rw c (rw q p)

module _ (m : Rows) (n : ℕ) (good : GoodBelow m n) where
  abbrev Within : ℕ → ℕ → Type 0
  Within p c = (taken m (variable_of m p) ≤ c) × (c + cells m (tail m p) ≤ taken m (variable_of m p) + cells m (whole (m.arg (variable_of m p))))

  within : (p c : ℕ) → p < n → Begins m p c → Within p c
  within p c l (own {of = of} {v = v} e) =
      let g = at_form m p (ExprRow (Variable of v)) (good p l) e in
      let o = variable_own m p of v e in
      let t : tail m p ≡ of = g.0.1.1.1 in
      rw o (omega arith, rw (t, g.3) (omega arith))
  within p c l (element {of = of} {c = base} {b = b} z e h k) =
      let g = at_form m p (ExprRow (Element of b)) (good p l) e in
      let lt : whole b < p = omega (arith, ints) in
      let o = variable_base m p of b e lt in
      let t : tail m p ≡ of = g.0.1.1.1 in
      let in_base = within (whole b) base (omega arith) h in
      let row = typed_row m (whole b) sort.Place tt (good (whole b) (omega arith)) g.1.1.1 in
      let w = within_array m (tail m (whole b)) of (type_of_row m (whole b)) (type_of_row m (p - 1)) z (good (tail m (whole b)) (omega (arith, row.earlier))) refl g.3 k in
      let s = add-mul (whole z) 1 (cells m of) in
      rw o (omega arith, rw t (omega (arith, s)))

  -- the variable of a place is one
  is_variable : (p c : ℕ) → p < n → Begins m p c → (variable_of m p < p) × SortAt m (variable_of m p) sort.Variable
  is_variable p c l (own {of = of} {v = v} e) =
      let g = at_form m p (ExprRow (Variable of v)) (good p l) e in
      rw (variable_own m p of v e) (omega (arith, ints), g.1.1.1)
  is_variable p c l (element {of = of} {c = base} {b = b} z e h k) =
      let g = at_form m p (ExprRow (Element of b)) (good p l) e in
      let lt : whole b < p = omega (arith, ints) in
      let r = is_variable (whole b) base (omega arith) h in
      rw (variable_base m p of b e lt) (omega arith, r.1)

  pub keeps_to_variable : (p : ℕ) → p < n → KeepsToVariable m p
  keeps_to_variable p l x k =
      let w = within p k.first l k.begins in
      let a = k.from in
      let b = k.before in
      (omega arith, omega arith)

grows : (m : Rows) (a b : ℕ) → taken m a ≤ taken m (b + a)
unfolding taken
grows m a zero = rw zero-add (omega arith)
grows m a (suc b) = let h = grows m a b in rw suc-add (omega arith)

-- a variable's cells end where the next row's begin
variable_ends : (m : Rows) (v : ℕ) → Good m v → SortAt m v sort.Variable → taken m (v + 1) ≡ taken m v + cells m (whole (m.arg v))
variable_ends m v g s = taken_more m v ∙ rw (variable_row m v s)

-- the cells of two variables are different
disjoint : (m : Rows) (v w x : ℕ) → Good m v → SortAt m v sort.Variable → v < w → CellOf m v x → CellOf m w x → ⊥
disjoint m v w x g s l a b =
    let e = variable_ends m v g s in
    let h : w - (v + 1) + (v + 1) ≡ w = omega arith in
    let k : taken m (v + 1) ≤ taken m w = rw h at (grows m (v + 1) (w - (v + 1))) in
    omega arith

pub never_share : (m : Rows) (n : ℕ) → GoodBelow m n → (p q : ℕ) → p < n → q < n → NeverShare m p q
never_share m n good p q lp lq apart x a b =
    let v = is_variable m n good p a.first lp a.begins in
    let w = is_variable m n good q b.first lq b.begins in
    let c = keeps_to_variable m n good p lp x a in
    let d = keeps_to_variable m n good q lq x b in
    elim (cases_lt (variable_of m p) (variable_of m q)) [
      | inl l ↦ disjoint m (variable_of m p) (variable_of m q) x (good (variable_of m p) (omega arith)) v.1 l c d
      | inr ge ↦
          (let ne : variable_of m q < variable_of m p = below (variable_of m q) (variable_of m p) ge (λ e. apart (sym e)) in
          disjoint m (variable_of m q) (variable_of m p) x (good (variable_of m q) (omega arith)) w.1 ne d c)
    ]
  where
    below : (a b : ℕ) → a ≤ b → (a ≡ b → ⊥) → a < b
    below a b l ne = elim (cases_eq a b) [ inl e ↦ absurd (ne e) | inr d ↦ omega arith ]

-- a good element lies in the variable of its base
pub base_variable : (m : Rows) (q of : ℕ) (b : ℤ) → Good m q → form_at m q ≡ Some (ExprRow (Element of b)) → variable_of m q ≡ variable_of m (whole b)
base_variable m q of b g e =
    let names = (at_form m q (ExprRow (Element of b)) g e).1 in
    variable_base m q of b e (omega (arith, ints))

pub plain_scalar : (m : Rows) (t : ℕ) (f : TypeForm) → f ≡ type_at m t → Scalar f → f ≡ scalar_of m t
plain_scalar m t f a s = let h : Scalar (type_at m t) = rw a at s in a ∙ sym (scalar_own m t h)

pub no_array : (f : TypeForm) → ((length : ℕ) (e : ℤ) → f ≡ type.Array length e → ⊥) → Scalar f
no_array type.Bool n = tt
no_array type.Nat n = tt
no_array type.Int n = tt
no_array (type.Interval low span) n = tt
no_array (type.Array length e) n = n length e refl

-- from the form of a place, or of a type, to its variable, or its scalar
pub ruleset descents = (variable_own, base_variable, array_element, scalar_element, plain_scalar, no_array, ints, to_z-of_z)

-- what a place keeps to
pub ruleset places = (keeps_to_variable, never_share, variable_within)
