-- Types: their values, and when one fits another.
use Rattle.std.specs.Prelude.{ℕ, ℤ, pos, negsuc, ◌+ℤ◌, ◌≤ℤ◌}
use Rattle.tables.specs.declared.form.TypeForm.{TypeForm}
use Rattle.tables.specs.declared.form.TypeForm.TheVariants as type

abbrev pub IsBool : TypeForm → Type 0
IsBool type.Bool = Unit {0}
IsBool type.Nat = ⊥
IsBool type.Int = ⊥
IsBool (type.Interval low span) = ⊥
IsBool (type.Array length element) = ⊥

abbrev pub Numeric : TypeForm → Type 0
Numeric type.Bool = ⊥
Numeric type.Nat = Unit {0}
Numeric type.Int = Unit {0}
Numeric (type.Interval low span) = Unit {0}
Numeric (type.Array length element) = ⊥

-- all but arrays
abbrev pub Scalar : TypeForm → Type 0
Scalar type.Bool = Unit {0}
Scalar type.Nat = Unit {0}
Scalar type.Int = Unit {0}
Scalar (type.Interval low span) = Unit {0}
Scalar (type.Array length element) = ⊥

-- two bools, or two numeric types
abbrev pub Alike : TypeForm → TypeForm → Type 0
Alike type.Bool t = IsBool t
Alike type.Nat t = Numeric t
Alike type.Int t = Numeric t
Alike (type.Interval low span) t = Numeric t
Alike (type.Array length element) t = ⊥

-- z is a value of the type
abbrev pub Has : TypeForm → ℤ → Type 0
Has type.Bool z = (pos 0 ≤ℤ z) × (z ≤ℤ pos 1)
Has type.Nat z = (pos 0 ≤ℤ z) × (z ≤ℤ pos 2147483647)
Has type.Int z = (negsuc 2147483647 ≤ℤ z) × (z ≤ℤ pos 2147483647)
Has (type.Interval low span) z = (low ≤ℤ z) × (z ≤ℤ (low +ℤ pos span))
Has (type.Array length element) z = ⊥

-- each value of the one is a value of the other, and both are numeric or both bool
abbrev pub Fits : TypeForm → TypeForm → Type 0
Fits s t = Alike s t × ((z : ℤ) → Has s z → Has t z)

-- the least and the greatest value of a scalar type
abbrev pub least : TypeForm → ℤ
least type.Bool = pos 0
least type.Nat = pos 0
least type.Int = negsuc 2147483647
least (type.Interval low span) = low
least (type.Array length element) = pos 0

abbrev pub greatest : TypeForm → ℤ
greatest type.Bool = pos 1
greatest type.Nat = pos 2147483647
greatest type.Int = pos 2147483647
greatest (type.Interval low span) = low +ℤ pos span
greatest (type.Array length element) = pos 0

-- a value of the type is an index of an array of so many elements
abbrev pub Indexes : ℕ → TypeForm → Type 0
Indexes length s = Numeric s × ((z : ℤ) → Has s z → (pos 0 ≤ℤ z) × ((z +ℤ pos 1) ≤ℤ pos length))
