-- Two cells in a caller's bytes are written, or none: every byte is said.
use Rattle.std.specs.Prelude.{◌≡◌, ℕ, ◌+◌, ◌/◌, ◌<◌, ◌≤◌, ◌⊎◌, List, length, Result, MatchResult}
use Rattle.stores.specs.Bytes.{put}
use Rattle.stores.specs.declared.fault.StoreFault.{StoreFault}
use Rattle.stores.specs.declared.fault.StoreFault.TheVariants.{NoCell}
use Rattle.transactions.specs.declared.change.Change.{Change}

-- the bytes were bs and are ds
abbrev pub PutsTwo : {U : Type 0} → List ℕ → List ℕ → Change → Change → Result U StoreFault → Type 0
PutsTwo bs ds a b r =
    MatchResult r
    (λ _. (a.cell < length bs / 4) × (b.cell < length bs / 4) × (ds ≡ put (put bs a.cell a.value) b.cell b.value))
    (λ e. ((length bs / 4 ≤ a.cell) ⊎ (length bs / 4 ≤ b.cell)) × (e ≡ NoCell) × (ds ≡ bs))

-- the same of the n cells from f on
abbrev pub PutsTwoShown : {U : Type 0} → ℕ → ℕ → List ℕ → List ℕ → Change → Change → Result U StoreFault → Type 0
PutsTwoShown f n bs ds a b r =
    MatchResult r
    (λ _. (a.cell < n) × (b.cell < n) × (ds ≡ put (put bs (f + a.cell) a.value) (f + b.cell) b.value))
    (λ e. ((n ≤ a.cell) ⊎ (n ≤ b.cell)) × (e ≡ NoCell) × (ds ≡ bs))
