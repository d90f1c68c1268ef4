-- What the calls of a store promise, over what the store means before and after.
use Rattle.std.specs.Prelude.{◌≡◌, ℕ, ◌+◌, ◌<◌, ◌≤◌, Bool, true, false, ◌⊎◌, Option, None, Some, List, length, ℤ, pos, Result, MatchResult, slice_index_or, slice_set}
use Rattle.stores.specs.Beside.{Beside}
use Rattle.stores.specs.declared.fault.StoreFault.{StoreFault}
use Rattle.stores.specs.declared.fault.StoreFault.TheVariants.{NoCell, TransactionFull}

-- r answers a read of cell i, the cells being cs
abbrev pub Reads : List ℤ → ℕ → Result ℤ StoreFault → Type 0
Reads cs i r =
    MatchResult r (λ v. (i < length cs) × (v ≡ slice_index_or cs i (pos 0))) (λ e. (length cs ≤ i) × (e ≡ NoCell))

-- r answers a write of v to cell i that only a missing cell can refuse; the cells were cs and are ds
abbrev pub Writes : {U : Type 0} → List ℤ → List ℤ → ℕ → ℤ → Result U StoreFault → Type 0
Writes cs ds i v r =
    MatchResult r (λ _. (i < length cs) × (ds ≡ slice_set cs i v)) (λ e. (length cs ≤ i) × (e ≡ NoCell) × (ds ≡ cs))

-- r is a refusal by f, and P holds
abbrev pub RefusedBy : {U : Type 0} → StoreFault → Result U StoreFault → Type 0 → Type 0
RefusedBy f r P = MatchResult r (λ _. ⊥) (λ e. (e ≡ f) × P)

-- the transaction of a store: none, or one with its start, the cells when it began, and a count of its writes
pub data Transaction : Type 0 where
  closed : Transaction
  opened : List ℤ → ℕ → Transaction

abbrev pub is_open : Transaction → Bool
is_open closed = false
is_open (opened start writes) = true

-- what a transactional store means
pub record Meaning : Type 0 where
  pub cells : List ℤ
  pub transaction : Transaction

abbrev pub means : List ℤ → Transaction → Meaning
means cs t = record { cells = cs; transaction = t }

-- A call takes a store from a to b; C and T give the cells and the transaction of a store.
-- If no transaction is open, P holds of what a means and of what b means.
abbrev pub Outside : {S : Type 0} → (S → List ℤ) → (S → Transaction) → S → S → (Meaning → Meaning → Type 0) → Type 0
Outside C T a b P = T a ≡ closed → P (means (C a) (T a)) (means (C b) (T b))

-- If one is open, P holds also of its start and of its count.
abbrev pub Inside : {S : Type 0} → (S → List ℤ) → (S → Transaction) → S → S → (List ℤ → ℕ → Meaning → Meaning → Type 0) → Type 0
Inside C T a b P = (start : List ℤ) (writes : ℕ) → T a ≡ opened start writes → P start writes (means (C a) (T a)) (means (C b) (T b))

-- m has these cells and this transaction, each at hand by its name
pub record Is (m : Meaning) (cs : List ℤ) (t : Transaction) : Type 0 where
  pub cells : m.cells ≡ cs
  pub transaction : m.transaction ≡ t

-- the store stays as it was
abbrev pub Stays : Meaning → Meaning → Type 0
Stays m n = Is n m.cells m.transaction

-- the call is refused by f, and the store stays
abbrev pub Refuses : {U : Type 0} → StoreFault → Result U StoreFault → Meaning → Meaning → Type 0
Refuses f r m n = RefusedBy f r (Stays m n)

-- a beginning: the cells stay, and are the start
abbrev pub Begins : {U : Type 0} → Result U StoreFault → Meaning → Meaning → Type 0
Begins r m n = MatchResult r (λ _. Is n m.cells (opened m.cells 0)) (λ e. ⊥)

-- a commit: the cells stay
abbrev pub Commits : {U : Type 0} → Result U StoreFault → Meaning → Meaning → Type 0
Commits r m n = MatchResult r (λ _. Is n m.cells closed) (λ e. ⊥)

-- a rollback: the cells are those of the start
abbrev pub RollsBack : {U : Type 0} → List ℤ → Result U StoreFault → Meaning → Meaning → Type 0
RollsBack start r m n = MatchResult r (λ _. Is n start closed) (λ e. ⊥)

-- a write outside of a transaction: as of a plain store
abbrev pub WritesOutside : {U : Type 0} → ℕ → ℤ → Result U StoreFault → Meaning → Meaning → Type 0
WritesOutside i v r m n = Writes m.cells n.cells i v r × (n.transaction ≡ m.transaction)

-- how many writes a transaction takes
abbrev pub max_writes : ℕ
max_writes = 256

-- why a write to cell i is refused in a transaction with so many writes: a missing cell is told first
abbrev pub Unwritable : List ℤ → ℕ → ℕ → StoreFault → Type 0
Unwritable cs writes i e =
    ((length cs ≤ i) × (e ≡ NoCell)) ⊎ ((i < length cs) × (max_writes ≤ writes) × (e ≡ TransactionFull))

-- a write in a transaction
abbrev pub WritesInside : {U : Type 0} → List ℤ → ℕ → ℕ → ℤ → Result U StoreFault → Meaning → Meaning → Type 0
WritesInside start writes i v r m n =
    MatchResult r
    (λ _. (i < length m.cells) × (writes < max_writes) × Is n (slice_set m.cells i v) (opened start (writes + 1)))
    (λ e. Unwritable m.cells writes i e × Stays m n)

-- what lies beside after a beginning: what the store makes of it, or the same if it refused
abbrev pub BesideBegun : {U : Type 0} → (List ℤ → Beside → Beside) → List ℤ → Beside → Beside → Result U StoreFault → Type 0
BesideBegun begun cs b d r = MatchResult r (λ _. d ≡ begun cs b) (λ _. d ≡ b)

-- the transaction of a store that counts its writes while one is open, and holds its start
abbrev pub transaction_of : Option ℕ → List ℤ → Transaction
transaction_of None start = closed
transaction_of (Some writes) start = opened start writes
