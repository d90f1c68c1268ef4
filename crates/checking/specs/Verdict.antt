-- What the check answers.
use Rattle.std.specs.Prelude.{◌≡◌, ℕ, ◌<◌, ◌≤◌, true, cond, List, length, ℤ, is_ok, Ok, Err, Result, slice_index}
use Rattle.tables.specs.declared.rule.Rule.{Rule}
use Rattle.tables.specs.declared.layout.Layout.{Layout}
use Rattle.tables.specs.Layouts.{LaidOut}
use Rattle.tables.specs.Rows.{Rows}
use Rattle.tables.specs.Words.{rows_of, Sized}
use Rattle.tables.specs.Cells.{communicates}
use Rattle.tables.specs.Rules.{Obeys, First, GoodBelow}
use Rattle.checking.specs.declared.fault.Broken.{Broken}
use Rattle.checking.specs.declared.fault.CheckFault.{CheckFault}
use Rattle.checking.specs.declared.fault.CheckFault.TheVariants.{Sizes, Notes, Row}

-- the sizes are right, and every row keeps all seven rules
pub record WellFormed (ws : List ℤ) : Type 0 where
  pub sized : Sized ws
  pub rows : GoodBelow (rows_of ws) (rows_of ws).total

-- the rows before r are good, and n is the first rule that row r breaks
pub record FirstBroken (m : Rows) (r : ℕ) (n : Rule) : Type 0 where
  pub inside : r < m.total
  pub good : GoodBelow m r
  pub breaks : First (λ k. Obeys k m r) n

-- the fault is the first that there is, of these words and so many notes
abbrev pub Faulty : List ℤ → ℕ → CheckFault → Type 0
Faulty ws notes Sizes = Sized ws → ⊥
Faulty ws notes Notes = Sized ws × (notes < (rows_of ws).total)
Faulty ws notes (Row r n) = Sized ws × ((rows_of ws).total ≤ notes) × FirstBroken (rows_of ws) r n

-- accepted are well-formed words with notes enough; others are refused with their first fault
abbrev pub Verdict : List ℤ → ℕ → Result (Unit {0}) CheckFault → Type 0
Verdict ws notes (Ok x) = WellFormed ws × ((rows_of ws).total ≤ notes)
Verdict ws notes (Err f) = Faulty ws notes f

-- well-formed words with notes enough are always accepted, and a fault that there is is the one that is told
pub record Exactly (ws : List ℤ) (notes : ℕ) (o : Result (Unit {0}) CheckFault) : Type 0 where
  pub accepts : WellFormed ws → (rows_of ws).total ≤ notes → is_ok o ≡ true
  pub refuses : (f : CheckFault) → Faulty ws notes f → o ≡ Err f

-- how many rows were judged good
abbrev pub judged_by : CheckFault → ℕ
judged_by Sizes = 0
judged_by Notes = 0
judged_by (Row r n) = r

abbrev pub judged_good : List ℤ → Result (Unit {0}) CheckFault → ℕ
judged_good ws (Ok x) = (rows_of ws).total
judged_good ws (Err f) = judged_by f

-- the note of a row
abbrev pub note_of : Rows → ℕ → ℕ
note_of m r = cond (communicates m r) 1 0

-- the notes of the first n rows are written, and the others stay
pub record Noted (m : Rows) (n : ℕ) (before after : List ℕ) : Type 0 where
  pub as_long : length after ≡ length before
  pub written : (k : ℕ) → k < n → slice_index after k ≡ note_of m k
  pub stays : (k : ℕ) → n ≤ k → slice_index after k ≡ slice_index before k

-- all rows are good; or this is the first that is not, with the first rule that it breaks
abbrev pub JudgedRows : Rows → List ℕ → List ℕ → Layout → Result (Unit {0}) Broken → Type 0
JudgedRows m before after l (Ok x) = GoodBelow m m.total × LaidOut m m.total l × Noted m m.total before after
JudgedRows m before after l (Err b) = FirstBroken m b.row b.rule × Noted m b.row before after
