-- What a text means: the words that stand in it, or its first line that is at fault.
use Rattle.std.specs.Prelude.{◌≡◌, ℕ, ◌+◌, if◌then◌else◌, List, [], ◌∷◌, ◌++◌, ℤ, Ok, Err, vec_items, Result, Vec, ◌==◌}
use Rattle.std.specs.declared.alloc.Global.{Global}
use Rattle.std.specs.Option.{option_to_list}
use Rattle.text.specs.declared.error.ReadError.{ReadError}
use Rattle.text.specs.declared.error.ReadError.TheVariants as fault
use Rattle.text.specs.declared.scan.Class.{Class}
use Rattle.text.specs.declared.scan.Class.TheVariants.{LineEnd}
use Rattle.text.specs.declared.scan.Mode.{Mode}
use Rattle.text.specs.declared.scan.Mode.TheVariants.{Between}
use Rattle.text.specs.declared.scan.Flaw.{Flaw}
use Rattle.text.specs.declared.scan.Flaw.TheVariants.{NotANumber, TooLarge}
use Rattle.text.specs.declared.scan.Step.{Step}
use Rattle.text.specs.Scan.{class_of, step}

-- a flaw, with its line
abbrev pub at : ℕ → Flaw → ReadError
at line NotANumber = fault.NotANumber line
at line TooLarge = fault.TooLarge line

-- words before those of the rest
abbrev pub before : List ℤ → Result (List ℤ) ReadError → Result (List ℤ) ReadError
before ws (Ok vs) = Ok (ws ++ vs)
before ws (Err e) = Err e

-- a step on this line, and what the rest of the text means in the mode after it
abbrev pub following : ℕ → Result Step Flaw → (Mode → Result (List ℤ) ReadError) → Result (List ℤ) ReadError
following line (Ok s) rest = before (option_to_list s.word) (rest s.mode)
following line (Err f) rest = Err (at line f)

abbrev pub line_after : ℕ → ℕ → ℕ
line_after line b = if b == 10 then line + 1 else line

-- what bytes mean from this line on, in this mode; the end of the text ends its last line
abbrev pub means : ℕ → Mode → List ℕ → Result (List ℤ) ReadError
means line mode [] = following line (step mode LineEnd) (λ m. Ok [])
means line mode (b ∷ bs) = following line (step mode (class_of b)) (λ m. means (line_after line b) m bs)

-- a byte of this class was taken on this line: the words after it, and the mode, or the fault
abbrev pub Fed : Mode → Class → ℕ → List ℤ → List ℤ → Result Mode ReadError → Type 0
Fed mode c line old new (Ok m) = (s : Step) × (step mode c ≡ Ok s) × (s.mode ≡ m) × (new ≡ old ++ option_to_list s.word)
Fed mode c line old new (Err (fault.NotANumber l)) = (step mode c ≡ Err NotANumber) × (l ≡ line)
Fed mode c line old new (Err (fault.TooLarge l)) = (step mode c ≡ Err TooLarge) × (l ≡ line)
Fed mode c line old new (Err fault.NoMemory) = Unit {0}

-- lines are counted from 1
abbrev pub meaning : List ℕ → Result (List ℤ) ReadError
meaning bs = means 1 Between bs

-- what reading a text answers; nothing is said where memory fails
abbrev pub Read : List ℕ → Result (Vec ℤ Global) ReadError → Type 0
Read bs (Ok v) = meaning bs ≡ Ok (vec_items v)
Read bs (Err (fault.NotANumber line)) = meaning bs ≡ Err (fault.NotANumber line)
Read bs (Err (fault.TooLarge line)) = meaning bs ≡ Err (fault.TooLarge line)
Read bs (Err fault.NoMemory) = Unit {0}
