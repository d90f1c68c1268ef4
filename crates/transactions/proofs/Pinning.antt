-- The cells and the spare bytes pin all bytes.
use Rattle.std.proofs.Common.{◌≡◌, ℕ, ◌+◌, ◌-◌, ◌*◌, ◌/◌, ◌<◌, ◌≤◌, ◌⊎◌, List, length, get_or, drop, set, ℤ, pos, sym, ap, ◌∙◌, subst, ⊎_elim, arith, w8, w32, Fits, SFits}
use Rattle.stores.proofs.Laying.{cells_of-put, get_or-cells_of, length-cells_of, length-put, spare-put}
use Rattle.stores.specs.Bytes.{cell_of, cell_at, cells_of, put, spare}
use Rattle.std.proofs.lemmas.List.{get_or-set_same, get_or-set_other, get_or-drop, ext_get_or, set_past}
use Rattle.std.proofs.lemmas.Int.{of_z-to_z}
use Rattle.std.proofs.lemmas.Bool.{cases_lt}

abbrev pub Fit : List ℕ → Type 0
Fit bs = (k : ℕ) → Fits w8 (get_or bs k 0)

low_same : (a x b y : ℕ) → a < 256 → b < 256 → a + 256 * x ≡ b + 256 * y → (a ≡ b) × (x ≡ y)
low_same a x b y h k e = (omega arith, omega arith)

four_same : (a b c d p q r s : ℕ) → a < 256 → b < 256 → c < 256 → d < 256 → p < 256 → q < 256 → r < 256 → s < 256
    → cell_of a b c d ≡ cell_of p q r s → (a ≡ p) × (b ≡ q) × (c ≡ r) × (d ≡ s)
four_same a b c d p q r s ha hb hc hd hp hq hr hs e = grind (arith, of_z-to_z, low_same)

fit_lt : (bs : List ℕ) → Fit bs → (k : ℕ) → get_or bs k 0 < 256
fit_lt bs f k = (f k).fits

quad_same : (bs ds : List ℕ) → Fit bs → Fit ds → (i : ℕ) → cell_at bs i ≡ cell_at ds i
    → (get_or bs (4 * i) 0 ≡ get_or ds (4 * i) 0) × (get_or bs (4 * i + 1) 0 ≡ get_or ds (4 * i + 1) 0)
    × (get_or bs (4 * i + 2) 0 ≡ get_or ds (4 * i + 2) 0) × (get_or bs (4 * i + 3) 0 ≡ get_or ds (4 * i + 3) 0)
quad_same bs ds f g i e = grind (arith, four_same, fit_lt)

quarters : (k : ℕ) → ((k ≡ 4 * (k / 4)) ⊎ (k ≡ 4 * (k / 4) + 1)) ⊎ ((k ≡ 4 * (k / 4) + 2) ⊎ (k ≡ 4 * (k / 4) + 3))
quarters k = grind arith

cell_byte : (bs ds : List ℕ) → Fit bs → Fit ds → (k : ℕ) → cell_at bs (k / 4) ≡ cell_at ds (k / 4) → get_or bs k 0 ≡ get_or ds k 0
cell_byte bs ds f g k e = grind (arith, quad_same, quarters)

pub same_bytes : (bs ds : List ℕ) → Fit bs → Fit ds → length bs ≡ length ds → cells_of bs ≡ cells_of ds → spare bs ≡ spare ds → bs ≡ ds
same_bytes bs ds f g l e s =
    let m = 4 * (length bs / 4) in
    let t : drop m bs ≡ drop m ds = s ∙ ap (λ n. drop (4 * (n / 4)) ds) (sym l) in
    ext_get_or 0 bs ds l
    (λ k h.
    ⊎_elim
    (λ (lt : k < m).
    let a : k / 4 < length bs / 4 = omega arith in
    let b : k / 4 < length ds / 4 = omega (arith, ap (λ n. n / 4) l) in
    cell_byte bs ds f g k (sym (get_or-cells_of bs (k / 4) a) ∙ ap (λ cs. get_or cs (k / 4) (pos 0)) e ∙ get_or-cells_of ds (k / 4) b))
    (λ (ge : m ≤ k).
    let z : m + (k - m) ≡ k = omega arith in
    let P : ℕ → Type 0 = λ n. get_or bs n 0 ≡ get_or ds n 0 in
    subst P z (sym (get_or-drop m bs (k - m) 0) ∙ ap (λ xs. get_or xs (k - m) 0) t ∙ get_or-drop m ds (k - m) 0))
    (cases_lt k m))

fit_set : (bs : List ℕ) (i a : ℕ) → a < 256 → Fit bs → Fit (set bs i a)
fit_set bs i a h f k = grind (arith, get_or-set_same, get_or-set_other, set_past, fit_lt)

fit_put : (bs : List ℕ) (i : ℕ) (v : ℤ) → Fit bs → Fit (put bs i v)
fit_put bs i v f =
    fit_set _ _ _ (omega arith) (fit_set _ _ _ (omega arith) (fit_set _ _ _ (omega arith) (fit_set bs _ _ (omega arith) f)))

-- bytes whose cells and spare bytes are those of two writes are the bytes of two writes
pub two_pinned : (bs ds : List ℕ) (i : ℕ) (v : ℤ) (j : ℕ) (w : ℤ) → Fit bs → Fit ds → SFits w32 v → SFits w32 w
    → length ds ≡ length bs → i < length (cells_of bs) → j < length (cells_of bs)
    → cells_of ds ≡ set (set (cells_of bs) i v) j w → spare ds ≡ spare bs → ds ≡ put (put bs i v) j w
two_pinned bs ds i v j w f g fv fw l hi hj e s =
    let i' : i < length bs / 4 = omega (arith, length-cells_of bs) in
    let j₀ : j < length bs / 4 = omega (arith, length-cells_of bs) in
    let l1 = length-put bs i v in
    let l2 = length-put (put bs i v) j w in
    let j' : j < length (put bs i v) / 4 = omega (arith, ap (λ n. n / 4) l1) in
    same_bytes ds (put (put bs i v) j w) g (fit_put (put bs i v) j w (fit_put bs i v f))
    (l ∙ sym l1 ∙ sym l2)
    (e ∙ ap (λ xs. set xs j w) (sym (cells_of-put bs i v fv i')) ∙ sym (cells_of-put (put bs i v) j w fw j'))
    (s ∙ sym (spare-put bs i v i') ∙ sym (spare-put (put bs i v) j w j'))
