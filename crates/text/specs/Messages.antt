-- What is printed of an error, a verdict, notes and words.
use Rattle.std.specs.Prelude.{◌≡◌, ℕ, ◌<◌, List, [], ◌∷◌, ◌++◌, ℤ, codes, decimal, Option}
use Rattle.std.specs.List.{flat_map}
use Rattle.std.specs.Fmt.{signed_decimal}
use Rattle.tables.specs.declared.form.Form.{Form}
use Rattle.tables.specs.Words.{Sized, rows_of}
use Rattle.tables.specs.Forms.{form_at}
use Rattle.checking.specs.declared.fault.CheckFault.{CheckFault}
use Rattle.checking.specs.declared.fault.CheckFault.TheVariants.{Sizes, Notes, Row}
use Rattle.checking.specs.Faults.{number}
use Rattle.text.specs.declared.reason.Reason.{Reason}
use Rattle.text.specs.declared.reason.Reason.TheVariants.{SizesWrong, NotesShort, NoForm, NoRow, NoState, IntervalEnd, ArrayLength, ManyCells, PortArray, IllTyped, IllStated, Communicates, ChainTargets}
use Rattle.text.specs.Reasons.{fault_reason}
use Rattle.text.specs.declared.error.ReadError.{ReadError}
use Rattle.text.specs.declared.error.ReadError.TheVariants.{NotANumber, TooLarge, NoMemory}

abbrev pub message : ReadError → List ℕ
message (NotANumber line) = codes "line " ++ (decimal line ++ codes ": not a number")
message (TooLarge line) = codes "line " ++ (decimal line ++ codes ": a number outside -2147483648..2147483647")
message NoMemory = codes "out of memory"

abbrev pub accepted_line : ℕ → ℕ → ℕ → List ℕ
accepted_line rows cells states =
    codes "accepted: rows " ++ (decimal rows ++ (codes ", cells " ++ (decimal cells ++ (codes ", states " ++ decimal states))))

abbrev pub phrase : Reason → List ℕ
phrase SizesWrong = codes "the sizes are wrong"
phrase NotesShort = codes "there are fewer notes than rows"
phrase NoForm = codes "the kind, the tail or the arg is not of the section's form"
phrase NoRow = codes "a named row is not an earlier one of the right sort"
phrase NoState = codes "there is no such state"
phrase IntervalEnd = codes "an interval's end passes 2147483647"
phrase ArrayLength = codes "an array's length is not 1 to 1024"
phrase ManyCells = codes "a type or the variables take more than 4096 cells"
phrase PortArray = codes "a port carries an array"
phrase IllTyped = codes "the expression or the place is ill typed"
phrase IllStated = codes "the statement is ill typed"
phrase Communicates = codes "a sequence or a while communicates wrongly"
phrase ChainTargets = codes "a chain has more than 8 targets or two in one variable"

-- this is the form of the row that the fault tells, where the words have such a row
abbrev pub FormTold : List ℤ → CheckFault → Option Form → Type 0
FormTold ws Sizes o = Unit {0}
FormTold ws Notes o = Unit {0}
FormTold ws (Row r rule) o = Sized ws → r < (rows_of ws).total → o ≡ form_at (rows_of ws) r

abbrev pub placed : CheckFault → List ℕ → List ℕ
placed Sizes rest = rest
placed Notes rest = rest
placed (Row r rule) rest = codes " at row " ++ (decimal r ++ rest)

abbrev pub refused_line : CheckFault → List ℕ → List ℕ
refused_line fault reason = codes "refused " ++ (decimal (number fault) ++ placed fault (codes ": " ++ reason))

-- the line says why, by the form of the row at fault
abbrev pub Explained : List ℤ → CheckFault → List ℕ → Type 0
Explained ws fault bs = (o : Option Form) × FormTold ws fault o × (bs ≡ refused_line fault (phrase (fault_reason fault o)))

abbrev pub notes_line : List ℕ → List ℕ
notes_line notes = codes "notes:" ++ flat_map (λ n. 32 ∷ decimal n) notes

-- each word, and a blank after it
abbrev pub words_line : List ℤ → List ℕ
words_line words = flat_map (λ z. signed_decimal z ++ (32 ∷ [])) words
