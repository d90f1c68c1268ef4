-- Words in two halves, the cells and a copy. If they are odd in number, the last is in neither.
use Rattle.std.specs.Prelude.{◌≡◌, ℕ, ◌+◌, ◌/◌, List, length, take, drop, ℤ}
use Rattle.stores.specs.Beside.{Beside, nothing, a_number, some_bytes, some_words}

abbrev pub half : List ℤ → ℕ
half ws = length ws / 2

-- the cells
abbrev pub front : List ℤ → List ℤ
front ws = take (half ws) ws

-- the copy
abbrev pub back : List ℤ → List ℤ
back ws = take (half ws) (drop (half ws) ws)

-- an odd last word
abbrev pub odd : List ℤ → List ℤ
odd ws = drop (half ws + half ws) ws

-- ws has these cells, this copy and this odd last word
pub record HasHalves (ws cs bs os : List ℤ) : Type 0 where
  pub cells : front ws ≡ cs
  pub copy : back ws ≡ bs
  pub last : odd ws ≡ os

-- what lies beside the cells: the copy, where the words are, and an odd last word
abbrev pub beside_half : ℕ → List ℤ → Beside
beside_half place ws = some_words (back ws) (a_number place (some_words (odd ws) nothing))

-- what a beginning makes of that: the copy is fresh
abbrev pub fresh_copy : List ℤ → Beside → Beside
fresh_copy cs nothing = nothing
fresh_copy cs (a_number n rest) = a_number n rest
fresh_copy cs (some_bytes bs rest) = some_bytes bs rest
fresh_copy cs (some_words copy rest) = some_words cs rest
