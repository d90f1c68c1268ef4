-- How bytes make up whole numbers, one byte after another.
use Rattle.std.specs.Prelude.{ℕ, ◌-◌, Bool, true, false, if◌then◌else◌, ◌&&◌, ◌||◌, ℤ, pos, negsuc, ◌+ℤ◌, ◌-ℤ◌, ◌*ℤ◌, neg_ℤ, Some, None, Ok, Err, Result, ◌==◌, int_le, nat_le}
use Rattle.text.specs.declared.scan.Class.{Class}
use Rattle.text.specs.declared.scan.Class.TheVariants.{Blank, LineEnd, Hash, Dash, Digit, Other}
use Rattle.text.specs.declared.scan.Mode.{Mode}
use Rattle.text.specs.declared.scan.Mode.TheVariants.{Between, Comment, Minus, Number}
use Rattle.text.specs.declared.scan.Numeral.{Numeral}
use Rattle.text.specs.declared.scan.Flaw.{Flaw}
use Rattle.text.specs.declared.scan.Flaw.TheVariants.{NotANumber, TooLarge}
use Rattle.text.specs.declared.scan.Step.{Step}

-- space, tab and carriage return; line feed; #; -; the digits
abbrev pub class_of : ℕ → Class
class_of b =
    if b == 32 || (b == 9 || b == 13) then Blank
    else if b == 10 then LineEnd
    else if b == 35 then Hash
    else if b == 45 then Dash
    else if nat_le 48 b && nat_le b 57 then Digit (b - 48)
    else Other

-- the mode after a byte, and no word
abbrev pub onward : Mode → Step
onward m = record { mode = m; word = None }

-- the step to a mode, if there is one
abbrev pub wordless_step : Result Mode Flaw → Result Step Flaw
wordless_step (Ok m) = Ok (onward m)
wordless_step (Err f) = Err f

-- the mode after a byte that ends a word
abbrev pub ending : ℤ → Mode → Step
ending z m = record { mode = m; word = Some z }

abbrev pub in_range : ℤ → Bool
in_range z = int_le (negsuc 2147483647) z && int_le z (pos 2147483647)

-- one digit more
abbrev pub shifted : Bool → ℤ → ℕ → ℤ
shifted negative z d = if negative then pos 10 *ℤ z -ℤ pos d else pos 10 *ℤ z +ℤ pos d

-- the number, if it is in range
abbrev pub ranged : Bool → ℤ → Result Mode Flaw
ranged negative z = if in_range z then Ok (Number (record { negative = negative; value = z })) else Err TooLarge

-- the number with one digit more
abbrev pub longer : Numeral → ℕ → Result Mode Flaw
longer n d = ranged n.negative (shifted n.negative n.value d)

abbrev pub in_comment : Class → Mode
in_comment Blank = Comment
in_comment LineEnd = Between
in_comment Hash = Comment
in_comment Dash = Comment
in_comment (Digit d) = Comment
in_comment Other = Comment

abbrev pub between : Class → Result Mode Flaw
between Blank = Ok Between
between LineEnd = Ok Between
between Hash = Ok Comment
between Dash = Ok Minus
between (Digit d) = Ok (Number (record { negative = false; value = pos d }))
between Other = Err NotANumber

abbrev pub after_minus : Class → Result Mode Flaw
after_minus Blank = Err NotANumber
after_minus LineEnd = Err NotANumber
after_minus Hash = Err NotANumber
after_minus Dash = Err NotANumber
after_minus (Digit d) = Ok (Number (record { negative = true; value = neg_ℤ (pos d) }))
after_minus Other = Err NotANumber

abbrev pub in_number : Numeral → Class → Result Step Flaw
in_number n Blank = Ok (ending n.value Between)
in_number n LineEnd = Ok (ending n.value Between)
in_number n Hash = Ok (ending n.value Comment)
in_number n Dash = Err NotANumber
in_number n (Digit d) = wordless_step (longer n d)
in_number n Other = Err NotANumber

abbrev pub step : Mode → Class → Result Step Flaw
step Between c = wordless_step (between c)
step Comment c = Ok (onward (in_comment c))
step Minus c = wordless_step (after_minus c)
step (Number n) c = in_number n c
