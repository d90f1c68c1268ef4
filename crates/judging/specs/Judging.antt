-- What judging a row answers.
use Rattle.std.specs.Prelude.{◌≡◌, ℕ, ◌%◌, ◌<◌, ◌≤◌, List, length, ℤ, Result, MatchResult, ◌==◌, slice_index}
use denote.Struct.Props.{props}
use Rattle.tables.specs.declared.rule.Rule.{Rule}
use Rattle.tables.specs.declared.rule.Rule.TheVariants.{Naming}
use Rattle.tables.specs.declared.form.Form.{Form}
use Rattle.tables.specs.declared.form.Sort.{Sort}
use Rattle.tables.specs.Rows.{Rows}
use Rattle.tables.specs.Cells.{communicates}
use Rattle.tables.specs.Rules.{Asks, All, First, Refers}

-- row r keeps all rules as the form f; or this is the first that it breaks
abbrev pub Keeps : Rows → ℕ → Form → Type 0
Keeps m r f = All (λ n. Asks n m r f)

abbrev pub Breaks : Rows → ℕ → Form → Rule → Type 0
Breaks m r f = First (λ n. Asks n m r f)

-- the verdict on row r as the form f, with what is found of a good one
abbrev pub Judges : {A : Type 0} → Rows → ℕ → Form → (A → Type 0) → Result A Rule → Type 0
Judges m r f Finds o = MatchResult o (λ a. Keeps m r f × Finds a) (Breaks m r f)

-- z is named as this sort, with what is found there; or it is not, and that breaks the rule of naming
abbrev pub Named : {A : Type 0} → Rows → ℕ → Sort → ℤ → (A → Type 0) → Result A Rule → Type 0
Named m r s z Finds o = MatchResult o (λ a. Refers m r s z × Finds a) (λ e. (e ≡ Naming) × (Refers m r s z → ⊥))

-- nothing more is found
abbrev pub Nothing : Unit {0} → Type 0
Nothing x = Unit {0}

-- the notes below r tell, by their last bit, which rows communicate
abbrev pub NotedBelow : Rows → ℕ → List ℕ → Type 0
NotedBelow m r notes = (r ≤ length notes) × ((q : ℕ) → q < r → (slice_index notes q % 2 == 1) ≡ communicates m q)

pub noted_below_prop : (m : Rows) (r : ℕ) (notes : List ℕ) → IsProp (NotedBelow m r notes)
noted_below_prop m r notes = hlevel props
