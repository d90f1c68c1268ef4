-- The bounds of a scalar type tell what it has, and so when one type fits another.
use Rattle.std.proofs.Common.{ℕ, ℤ, pos, ◌+ℤ◌, ◌≤ℤ◌, arith}
use Rattle.std.proofs.lemmas.Int.{ints}
use Rattle.tables.specs.declared.form.TypeForm.{TypeForm}
use Rattle.tables.specs.declared.form.TypeForm.TheVariants as type
use Rattle.tables.specs.Types.{IsBool, Numeric, Scalar, Alike, Has, Fits, Indexes, least, greatest}

pub has_bounds : (t : TypeForm) (z : ℤ) → Has t z → (least t ≤ℤ z) × (z ≤ℤ greatest t)
has_bounds type.Bool z h = h
has_bounds type.Nat z h = h
has_bounds type.Int z h = h
has_bounds (type.Interval low span) z h = h
has_bounds (type.Array length element) z h = absurd h

bounds_has : (t : TypeForm) (z : ℤ) → Scalar t → (least t ≤ℤ z) × (z ≤ℤ greatest t) → Has t z
bounds_has type.Bool z s h = h
bounds_has type.Nat z s h = h
bounds_has type.Int z s h = h
bounds_has (type.Interval low span) z s h = h
bounds_has (type.Array length element) z s h = absurd s

-- no scalar type is empty
ordered : (t : TypeForm) → Scalar t → least t ≤ℤ greatest t
ordered type.Bool s = omega (arith, ints)
ordered type.Nat s = omega (arith, ints)
ordered type.Int s = omega (arith, ints)
ordered (type.Interval low span) s = omega (arith, ints)
ordered (type.Array length element) s = absurd s

pub numeric_scalar : (t : TypeForm) → Numeric t → Scalar t
numeric_scalar type.Bool n = tt
numeric_scalar type.Nat n = tt
numeric_scalar type.Int n = tt
numeric_scalar (type.Interval low span) n = tt
numeric_scalar (type.Array length element) n = absurd n

bool_scalar : (t : TypeForm) → IsBool t → Scalar t
bool_scalar type.Bool n = tt
bool_scalar type.Nat n = tt
bool_scalar type.Int n = tt
bool_scalar (type.Interval low span) n = tt
bool_scalar (type.Array length element) n = absurd n

pub alike_scalar : (s t : TypeForm) → Alike s t → Scalar s × Scalar t
alike_scalar type.Bool t a = (tt, bool_scalar t a)
alike_scalar type.Nat t a = (tt, numeric_scalar t a)
alike_scalar type.Int t a = (tt, numeric_scalar t a)
alike_scalar (type.Interval low span) t a = (tt, numeric_scalar t a)
alike_scalar (type.Array length element) t a = absurd a

least_has : (t : TypeForm) → Scalar t → Has t (least t)
least_has t s = let o = ordered t s in bounds_has t (least t) s (omega (arith, ints), o)

greatest_has : (t : TypeForm) → Scalar t → Has t (greatest t)
greatest_has t s = let o = ordered t s in bounds_has t (greatest t) s (o, omega (arith, ints))

-- comparing the bounds decides inclusion
pub fits_tells : (s t : TypeForm) → Alike s t → ((least t ≤ℤ least s) → (greatest s ≤ℤ greatest t) → Fits s t) × (Fits s t → (least t ≤ℤ least s) × (greatest s ≤ℤ greatest t))
fits_tells s t a =
    let c = alike_scalar s t a in (
      (λ l g. (a, λ z h. (let b = has_bounds s z h in bounds_has t z c.1 (omega (arith, ints), omega (arith, ints))))),
      (λ f.
          let l = has_bounds t (least s) (f.1 (least s) (least_has s c.0)) in
          let g = has_bounds t (greatest s) (f.1 (greatest s) (greatest_has s c.0)) in
          (l.0, g.1)),
    )

pub indexes_tells : (length : ℕ) (s : TypeForm) → Numeric s → ((pos 0 ≤ℤ least s) → ((greatest s +ℤ pos 1) ≤ℤ pos length) → Indexes length s) × (Indexes length s → (pos 0 ≤ℤ least s) × ((greatest s +ℤ pos 1) ≤ℤ pos length))
indexes_tells length s n =
    let c = numeric_scalar s n in (
      (λ l g. (n, λ z h. (let b = has_bounds s z h in (omega (arith, ints), omega (arith, ints))))),
      (λ f. ((f.1 (least s) (least_has s c)).0, (f.1 (greatest s) (greatest_has s c)).1)),
    )
