-- What two changes of a caller's bytes come to, from what they do to the cells and the spare bytes.
use Rattle.std.proofs.Common.{◌≡◌, ℕ, ◌+◌, ◌<◌, ◌≤◌, ◌⊎◌, List, [], ◌∷◌, length, Ok, Err, Result, arith, lit<, w32, SFits}
use Rattle.stores.proofs.Laying.{length-cells_of}
use Rattle.stores.proofs.Seeing.{length-shown, window_both, window_same}
use Rattle.stores.specs.Bytes.{cells_of, spare}
use Rattle.stores.specs.Windows.{shown}
use Rattle.stores.specs.declared.fault.StoreFault.{StoreFault}
use Rattle.stores.specs.declared.fault.StoreFault.TheVariants.{NoCell}
use Rattle.transactions.proofs.Pinning.{Fit, same_bytes, two_pinned}
use Rattle.transactions.specs.Changes.{ChangesShown, Unchangeable}
use Rattle.transactions.specs.Patches.{PutsTwoShown}
use Rattle.transactions.specs.declared.change.Change.{Change}

-- two changes are refused only for a missing cell
pub two_refused : (n : ℕ) (a b : Change) (e : StoreFault) → Unchangeable n (a ∷ b ∷ []) e → ((n ≤ a.cell) ⊎ (n ≤ b.cell)) × (e ≡ NoCell)
two_refused n a b e h = grind arith

module _ (bs ds : List ℕ) (a b : Change) (fit : Fit bs) (fit' : Fit ds) (fa : SFits w32 a.value) (fb : SFits w32 b.value)
    (same : length ds ≡ length bs) (spared : spare ds ≡ spare bs) where
  pub shown-put : {U : Type 0} (f n : ℕ) (r : Result U StoreFault) → f + n ≤ length (cells_of bs)
      → ChangesShown f n (cells_of bs) (cells_of ds) (a ∷ b ∷ []) r → PutsTwoShown f n bs ds a b r
  shown-put f n (Ok x) le h =
      let l : length (shown f n (cells_of bs)) ≡ n = omega (arith, length-shown f n (cells_of bs)) in
      let i : a.cell < n = omega (arith, h.cells.0.0.1 0 (lit< tt)) in
      let j : b.cell < n = omega (arith, h.cells.0.0.1 1 (lit< tt)) in (
        i,
        j,
        two_pinned bs ds (f + a.cell) a.value (f + b.cell) b.value fit fit' fa fb same (omega arith) (omega arith)
            (window_both f n a.cell b.cell (cells_of bs) (cells_of ds) a.value b.value i j h.ahead h.behind h.cells.0.1) spared,
      )
  shown-put f n (Err e) le h =
      let l : length (shown f n (cells_of bs)) ≡ n = omega (arith, length-shown f n (cells_of bs)) in
      let u = two_refused _ a b e h.cells.0 in
      (grind arith, u.1, same_bytes ds bs fit' fit same (window_same f n (cells_of bs) (cells_of ds) h.ahead h.behind h.cells.1) spared)

-- what the calls on bytes need
pub ruleset patching = (two_refused, two_pinned, shown-put, same_bytes, length-cells_of)
