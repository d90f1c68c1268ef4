-- Cells in bytes: how many, which, and what a write of four bytes does.
use Rattle.std.proofs.Common.{◌≡◌, ℕ, ◌+◌, ◌*◌, ◌/◌, ◌%◌, ◌^◌, ◌<◌, ◌≢◌, List, length, get_or, set, ℤ, pos, sym, ap, ◌∙◌, subst, ⊎_elim, mod-eq_of_lt, arith, w32, SFits, to_z, of_z}
use Rattle.std.proofs.lemmas.List.FromFn.{length-map-range_with_len, get_or-map-range_with_len}
use Rattle.std.proofs.lemmas.List.{drop-set-lt, get_or-set_same, get_or-set_other, length-set, ext_get_or}
use Rattle.std.proofs.lemmas.Int.{to_z-of_z}
use Rattle.std.proofs.lemmas.Bool.{cases_eq}
use Rattle.stores.specs.Bytes.{cell_at, cells_of, put, spare}
use mir.Facts.{Fits-of_z}
use native.Mathlib.Nat.{div-div-eq-div-mul}

pub length-cells_of : (bs : List ℕ) → length (cells_of bs) ≡ length bs / 4
length-cells_of bs = length-map-range_with_len (cell_at bs) 0 (length bs / 4)

pub get_or-cells_of : (bs : List ℕ) (i : ℕ) → i < length bs / 4 → get_or (cells_of bs) i (pos 0) ≡ cell_at bs i
get_or-cells_of bs i h = get_or-map-range_with_len (cell_at bs) 0 (length bs / 4) i i (pos 0) h (omega arith)

pub length-put : (bs : List ℕ) (i : ℕ) (v : ℤ) → length (put bs i v) ≡ length bs
length-put bs i v = simp length-set

-- the four bytes of a cell make it
pub cell_of_is : (n : ℕ) → n < 2 ^ 32
    → n % 256 + n / 256 % 256 * 256 + n / 65536 % 256 * 65536 + n / 16777216 % 256 * 16777216 ≡ n
cell_of_is n h =
    let q : n / 16777216 < 256 = omega arith in
    let m : n / 16777216 % 256 ≡ n / 16777216 = mod-eq_of_lt q in
    omega (arith, div-div-eq-div-mul n 256 256, div-div-eq-div-mul n 65536 256)

-- a byte outside of the cell stays
put_other : (bs : List ℕ) (i : ℕ) (v : ℤ) (j : ℕ) → j ≢ 4 * i → j ≢ 4 * i + 1 → j ≢ 4 * i + 2 → j ≢ 4 * i + 3
    → get_or (put bs i v) j 0 ≡ get_or bs j 0
put_other bs i v j h0 h1 h2 h3 = grind (arith, get_or-set_other)

cell_other : (bs : List ℕ) (i : ℕ) (v : ℤ) (k : ℕ) → k ≢ i → cell_at (put bs i v) k ≡ cell_at bs k
cell_other bs i v k ne = grind (arith, put_other)

cell_same : (bs : List ℕ) (i : ℕ) (v : ℤ) → SFits w32 v → i < length bs / 4 → cell_at (put bs i v) i ≡ v
cell_same bs i v f h =
    let n = of_z w32 v in
    let l : 4 * i + 3 < length bs = omega arith in
    let e0 : get_or (put bs i v) (4 * i) 0 ≡ n % 256 = grind (arith, get_or-set_same, get_or-set_other, length-set) in
    let e1 : get_or (put bs i v) (4 * i + 1) 0 ≡ n / 256 % 256 = grind (arith, get_or-set_same, get_or-set_other, length-set) in
    let e2 : get_or (put bs i v) (4 * i + 2) 0 ≡ n / 65536 % 256 = grind (arith, get_or-set_same, get_or-set_other, length-set) in
    let e3 : get_or (put bs i v) (4 * i + 3) 0 ≡ n / 16777216 % 256 = grind (arith, get_or-set_same, get_or-set_other, length-set) in
    let s : get_or (put bs i v) (4 * i) 0 + get_or (put bs i v) (4 * i + 1) 0 * 256 + get_or (put bs i v) (4 * i + 2) 0 * 65536
    + get_or (put bs i v) (4 * i + 3) 0 * 16777216 ≡ n = rw (e0, e1, e2, e3) (cell_of_is n (Fits-of_z f).fits) in
    ap (to_z w32) s ∙ to_z-of_z w32 v f

pub cells_of-put : (bs : List ℕ) (i : ℕ) (v : ℤ) → SFits w32 v → i < length bs / 4 → cells_of (put bs i v) ≡ set (cells_of bs) i v
cells_of-put bs i v f h =
    let m : length (put bs i v) / 4 ≡ length bs / 4 = ap (λ n. n / 4) (length-put bs i v) in
    let b = length-cells_of bs in
    ext_get_or (pos 0) _ _ (length-cells_of (put bs i v) ∙ m ∙ sym b ∙ sym (length-set (cells_of bs) i v))
    (λ k l.
    let k' : k < length (put bs i v) / 4 = omega (arith, length-cells_of (put bs i v)) in
    let k'' : k < length bs / 4 = omega arith in
    let i' : i < length (cells_of bs) = omega arith in
    get_or-cells_of (put bs i v) k k'
    ∙ ⊎_elim
    (λ (e : k ≡ i). subst (λ (j : ℕ). cell_at (put bs i v) j ≡ get_or (set (cells_of bs) i v) j (pos 0)) (sym e)
    (cell_same bs i v f h ∙ sym (get_or-set_same (cells_of bs) i v (pos 0) i')))
    (λ ne. cell_other bs i v k ne ∙ sym (get_or-cells_of bs k k'') ∙ sym (get_or-set_other (cells_of bs) i k v (pos 0) ne))
    (cases_eq k i))

-- the bytes past the last cell stay
pub spare-put : (bs : List ℕ) (i : ℕ) (v : ℤ) → i < length bs / 4 → spare (put bs i v) ≡ spare bs
spare-put bs i v h = grind (arith, length-put, drop-set-lt)

-- what the calls of bytes need
pub ruleset laying = (length-cells_of, get_or-cells_of, cells_of-put, spare-put)
