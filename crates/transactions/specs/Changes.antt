-- Several changes that are made in their order, all or none.
use Rattle.std.specs.Prelude.{◌≡◌, ℕ, zero, suc, ◌+◌, ◌<◌, ◌≤◌, ◌⊎◌, List, length, ℤ, pos, Result, MatchResult, OnErr, slice_index_or, slice_set}
use Rattle.stores.specs.Meaning.{Meaning, max_writes}
use Rattle.stores.specs.Windows.{ahead, behind, shown}
use Rattle.stores.specs.declared.fault.StoreFault.{StoreFault}
use Rattle.stores.specs.declared.fault.StoreFault.TheVariants.{NoCell, TransactionFull}
use Rattle.transactions.specs.declared.change.Change.{Change}

-- the change at place k
abbrev pub change_at : List Change → ℕ → Change
change_at changes k = slice_index_or changes k (record { cell = 0; value = pos 0 })

-- the cells after the first k changes
abbrev pub changed : List ℤ → List Change → ℕ → List ℤ
changed cs changes zero = cs
changed cs changes (suc k) = slice_set (changed cs changes k) (change_at changes k).cell (change_at changes k).value

-- each of the first k changes is of a cell below n
abbrev pub Within : ℕ → List Change → ℕ → Type 0
Within n changes k = (j : ℕ) → j < k → (change_at changes j).cell < n

-- changes of n cells that a transaction can make
abbrev pub Changeable : ℕ → List Change → Type 0
Changeable n changes = (length changes ≤ max_writes) × Within n changes (length changes)

-- why it refuses others: of the first change too many a missing cell is told first, and none after it is tried
abbrev pub Unchangeable : ℕ → List Change → StoreFault → Type 0
Unchangeable n changes e =
    ((e ≡ NoCell) × ((j : ℕ) × (j < length changes) × (j < max_writes + 1) × (n ≤ (change_at changes j).cell)))
    ⊎ ((e ≡ TransactionFull) × (max_writes < length changes) × Within n changes (max_writes + 1))

-- r answers an attempt on the cells cs: if it is not refused, they are changed to ds
abbrev pub Attempts : {U : Type 0} → List ℤ → List ℤ → List Change → Result U StoreFault → Type 0
Attempts cs ds changes r =
    MatchResult r
    (λ _. Changeable (length cs) changes × (ds ≡ changed cs changes (length changes)))
    (λ e. Unchangeable (length cs) changes e)

-- all changes are made, or none
abbrev pub Changes : {U : Type 0} → List ℤ → List ℤ → List Change → Result U StoreFault → Type 0
Changes cs ds changes r = Attempts cs ds changes r × OnErr r (ds ≡ cs)

-- the same of what a transactional store means; no transaction is open before or after
abbrev pub Applies : {U : Type 0} → List Change → Result U StoreFault → Meaning → Meaning → Type 0
Applies changes r m n = Changes m.cells n.cells changes r × (n.transaction ≡ m.transaction)

-- all changes are made of the n cells from f on, or none; the other cells stay
pub record ChangesShown {U : Type 0} (f n : ℕ) (cs ds : List ℤ) (changes : List Change) (r : Result U StoreFault) : Type 0 where
  pub cells : Changes (shown f n cs) (shown f n ds) changes r
  pub ahead : ahead f ds ≡ ahead f cs
  pub behind : behind f n ds ≡ behind f n cs
