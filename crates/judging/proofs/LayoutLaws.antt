-- The cells that a row brings, from its form.
use Rattle.std.proofs.Common.{◌≡◌, ℕ, ◌+◌, ◌*◌, ◌<◌, ◌≤◌, ◌⊎◌, ℤ, sym, ap, ◌∙◌, inl, inr, arith}
use Rattle.std.proofs.lemmas.Int.{ints, to_z-of_z}
use Rattle.tables.specs.declared.form.TypeForm.{TypeForm}
use Rattle.tables.specs.declared.form.TypeForm.TheVariants as type
use Rattle.tables.specs.declared.form.Form.TheVariants.{TypeRow, VariableRow}
use Rattle.tables.specs.Rows.{Rows, whole, Between}
use Rattle.tables.specs.Forms.{Is}
use Rattle.tables.specs.Types.{Scalar}
use Rattle.tables.specs.Cells.{cells, taken, taken_by}
use Rattle.tables.proofs.FormLaws.{is_form}
use Rattle.tables.proofs.CellLaws.{type_at_lem, cells_array, cells_scalar, taken_more}
use Rattle.tables.proofs.SortLaws.{type_row, port_names}
use Rattle.judging.specs.Judging.{Keeps}

pub array_cells : (m : Rows) (r length : ℕ) (element : ℤ) (n : ℕ) → Is m r (TypeRow (type.Array length element)) → Between 0 r element → n ≡ cells m (whole element) → length * n ≡ cells m r
array_cells m r length element n i b e =
    let l : whole element < r = omega (arith, ints) in
    let a = cells_array m r length element (type_at_lem m r (type.Array length element) (is_form m r (TypeRow (type.Array length element)) i)) l in
    ap (λ k. length * k) e ∙ sym a

pub scalar_cells : (m : Rows) (r : ℕ) (f : TypeForm) → Is m r (TypeRow f) → Scalar f → cells m r ≡ 1
scalar_cells m r f i s = cells_scalar m r (rw (type_at_lem m r f (is_form m r (TypeRow f) i)) s)

pub interval_cells : (m : Rows) (r : ℕ) (low : ℤ) (span : ℕ) → Is m r (TypeRow (type.Interval low span)) → cells m r ≡ 1
interval_cells m r low span i = scalar_cells m r (type.Interval low span) i tt

pub variable_cells : (m : Rows) (r : ℕ) (of : ℤ) → Is m r (VariableRow of) → taken m (r + 1) ≡ taken m r + cells m (whole of)
variable_cells m r of i = taken_more m r ∙ ap (λ o. taken m r + taken_by m o) (is_form m r (VariableRow of) i)

plain : (m : Rows) (r : ℕ) (f g : TypeForm) → f ≡ g → Scalar g → (Is m r (TypeRow g) → Keeps m r (TypeRow g)) → Is m r (TypeRow f) → Keeps m r (TypeRow f) × ((1 ≡ cells m r) × (1 ≤ 4096))
plain m r f g e s k i = rw e (let j : Is m r (TypeRow g) = rw e at i in (k j, (sym (scalar_cells m r g j s), omega arith)))

-- the types without fields keep every rule
pub plain_type : (m : Rows) (r : ℕ) (f : TypeForm) → (f ≡ type.Bool) ⊎ ((f ≡ type.Nat) ⊎ (f ≡ type.Int)) → Is m r (TypeRow f) → Keeps m r (TypeRow f) × ((1 ≡ cells m r) × (1 ≤ 4096))
plain_type m r f (inl e) i = plain m r f type.Bool e tt (λ j. (j, tt, tt, tt, tt, tt, tt)) i
plain_type m r f (inr (inl e)) i = plain m r f type.Nat e tt (λ j. (j, tt, tt, tt, tt, tt, tt)) i
plain_type m r f (inr (inr e)) i = plain m r f type.Int e tt (λ j. (j, tt, tt, tt, tt, tt, tt)) i

-- from a row's form to its cells
pub ruleset layouts = (array_cells, interval_cells, scalar_cells, variable_cells, plain_type, to_z-of_z)

-- from a named type to its cells
pub ruleset named_types = (type_row, ints, to_z-of_z)

-- from a port to the type that it names
pub ruleset ports = (port_names, to_z-of_z)
