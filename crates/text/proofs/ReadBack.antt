-- What is written of words is read as the same words.
use Rattle.std.proofs.Common.{◌≡◌, ℕ, suc, ◌+◌, ◌/◌, ◌%◌, ◌^◌, ◌<◌, ◌≤◌, Bool, true, false, cond, List, [], ◌∷◌, ◌++◌, length, get_or, ℤ, pos, negsuc, neg_ℤ, Ok, Err, decimal, Result, sym, refl, ap, ◌∙◌, append_assoc, arith}
use lib.Signed.{mag}
use Rattle.std.specs.Fmt.{signed_decimal}
use Rattle.std.proofs.lemmas.Fmt.{decimal_by_steps}
use Rattle.std.proofs.lemmas.Int.{ints}
use Rattle.std.proofs.lemmas.Bool.Decides.{nat_tests}
use Rattle.text.specs.declared.error.ReadError.{ReadError}
use Rattle.text.specs.declared.scan.Class.TheVariants.{Digit}
use Rattle.text.specs.declared.scan.Flaw.TheVariants.{TooLarge}
use Rattle.text.specs.declared.scan.Mode.{Mode}
use Rattle.text.specs.declared.scan.Mode.TheVariants.{Between, Minus, Number}
use Rattle.text.specs.Scan.{class_of, step, onward, wordless_step, ranged, shifted, in_range}
use Rattle.text.specs.Meaning.{before, following, line_after, means, meaning}
use Rattle.text.specs.Messages.{words_line}

before_none : (r : Result (List ℤ) ReadError) → before [] r ≡ r
before_none (Ok ws) = refl
before_none (Err e) = refl

class_digit : (d : ℕ) → d < 10 → class_of (48 + d) ≡ Digit d
class_digit d h = grind (arith, nat_tests)

line_kept : (line b : ℕ) → (b ≡ 10 → ⊥) → line ≡ line_after line b
line_kept line b h = grind (arith, nat_tests)

-- one digit, in a mode that takes it and goes on in mode m
digit_read : (line d : ℕ) (mode m : Mode) (rest : List ℕ) → d < 10 → step mode (Digit d) ≡ Ok (onward m) → means line mode ((48 + d) ∷ rest) ≡ means line m rest
digit_read line d mode m rest h e =
    ap (λ c. following line (step mode c) (λ k. means (line_after line (48 + d)) k rest)) (class_digit d h)
    ∙ ap (λ s. following line s (λ k. means (line_after line (48 + d)) k rest)) e
    ∙ before_none (means (line_after line (48 + d)) m rest)
    ∙ ap (λ l. means l m rest) (sym (line_kept line (48 + d) (λ ten. omega arith)))

-- the mode before the first digit, and the number that digits stand for
abbrev start : Bool → Mode
start negative = cond negative Minus Between

abbrev number : Bool → ℕ → ℤ
number negative n = cond negative (neg_ℤ (pos n)) (pos n)

-- the mode after the digits
abbrev after : Bool → ℕ → Mode
after negative n = Number (record { negative = negative; value = number negative n })

abbrev limit : Bool → ℕ
limit negative = cond negative 2147483648 2147483647

shifted-number : (negative : Bool) (n : ℕ) → shifted negative (number negative (n / 10)) (n % 10) ≡ number negative n
shifted-number true n = omega (arith, ints)
shifted-number false n = omega (arith, ints)

in_range_lem : (negative : Bool) (n : ℕ) → n ≤ limit negative → in_range (number negative n) ≡ true
in_range_lem true n h = grind (arith, ints, nat_tests)
in_range_lem false n h = grind (arith, ints, nat_tests)

begins : (negative : Bool) (d : ℕ) → step (start negative) (Digit d) ≡ Ok (onward (after negative d))
begins true d = refl
begins false d = refl

goes_on : (negative : Bool) (n : ℕ) → n ≤ limit negative → step (after negative (n / 10)) (Digit (n % 10)) ≡ Ok (onward (after negative n))
goes_on negative n h =
    ap (λ z. wordless_step (ranged negative z)) (shifted-number negative n) ∙ ap (λ b. wordless_step (cond b (Ok (after negative n)) (Err TooLarge))) (in_range_lem negative n h)

-- the digits of n, read from the mode before the first, lead to n
abbrev Leads : Bool → ℕ → ℕ → List ℕ → Type 0
Leads negative line n ds = n ≤ limit negative → (rest : List ℕ) → means line (start negative) (ds ++ rest) ≡ means line (after negative n) rest

digits_read : (negative : Bool) (line n : ℕ) → n < 2 ^ 64 → Leads negative line n (decimal n)
digits_read negative line =
    decimal_by_steps (Leads negative line)
    (λ n small le rest. digit_read line n (start negative) _ rest small (begins negative n))
    (λ n ds big led le rest.
    ap (means line (start negative)) (append_assoc ds ((48 + n % 10) ∷ []) rest)
    ∙ led (omega arith) ((48 + n % 10) ∷ rest)
    ∙ digit_read line (n % 10) (after negative (n / 10)) _ rest (omega arith) (goes_on negative n le))

word_read : (line : ℕ) (z : ℤ) (rest : List ℕ) → mag z < 2147483648 → means line Between ((signed_decimal z ++ (32 ∷ [])) ++ rest) ≡ before (z ∷ []) (means line Between rest)
word_read line (pos n) rest h =
    ap (means line Between) (append_assoc (decimal n) (32 ∷ []) rest) ∙ digits_read false line n (omega arith) (omega arith) (32 ∷ rest)
word_read line (negsuc n) rest h =
    before_none (means line Minus ((decimal (suc n) ++ (32 ∷ [])) ++ rest))
    ∙ ap (means line Minus) (append_assoc (decimal (suc n)) (32 ∷ []) rest)
    ∙ digits_read true line (suc n) (omega arith) (omega arith) (32 ∷ rest)

pub reads_back : (ws : List ℤ) → ((i : ℕ) → i < length ws → mag (get_or ws i (pos 0)) < 2147483648) → meaning (words_line ws) ≡ Ok ws
reads_back [] fit = refl
reads_back (z ∷ zs) fit =
    word_read 1 z (words_line zs) (fit 0 (omega arith)) ∙ ap (before (z ∷ [])) (reads_back zs (λ i lt. fit (suc i) (omega arith)))
