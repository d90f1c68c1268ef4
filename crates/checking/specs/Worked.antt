-- Worked cases of the check: words written out, and what the check says of each.
use Rattle.std.specs.Prelude.{ℕ, ◌+◌, ◌*◌, List, [], ◌∷◌, ℤ, pos, negsuc}
use Rattle.tables.specs.declared.rule.Rule.TheVariants.{Extent, Typing}
use Rattle.checking.specs.declared.fault.CheckFault.TheVariants.{Row}
use Rattle.checking.specs.Verdict.{WellFormed, Faulty}

-- a gate that counts: in its one state it adds one to a variable of 0..3, sends the variable on a port, and comes back
abbrev pub counting_gate : List ℤ
counting_gate =
    pos 2 ∷ pos 1 ∷ pos 1 ∷ pos 4 ∷ pos 5 ∷ pos 1
    ∷ pos 0 ∷ pos 195 ∷ pos 8 ∷ pos 137 ∷ pos 92 ∷ pos 75 ∷ pos 74 ∷ pos 81 ∷ pos 290 ∷ pos 236 ∷ pos 41 ∷ pos 615 ∷ pos 551 ∷ pos 48
    ∷ pos 0 ∷ pos 0 ∷ pos 1 ∷ pos 1 ∷ pos 2 ∷ pos 4 ∷ pos 1 ∷ pos 5 ∷ pos 7 ∷ pos 5 ∷ pos 0 ∷ pos 10 ∷ pos 11 ∷ pos 12 ∷ []

-- one type and one idle state: the type is an interval that starts at the greatest number and goes so far above it
abbrev pub interval : ℕ → List ℤ
interval span = pos 1 ∷ pos 0 ∷ pos 0 ∷ pos 0 ∷ pos 0 ∷ pos 1 ∷ pos (3 + 64 * span) ∷ pos 48 ∷ pos 2147483647 ∷ negsuc 0 ∷ []

-- an element of an array of 4 bools, at an index whose type is the interval from 0 to `last`: the rows are
-- bool, the array, the interval, the variable, its place, the index 3, the element, and an idle state
abbrev pub indexed : ℕ → List ℤ
indexed last =
    pos 3 ∷ pos 1 ∷ pos 0 ∷ pos 3 ∷ pos 0 ∷ pos 1
    ∷ pos 0 ∷ pos 260 ∷ pos (3 + 64 * last) ∷ pos 8 ∷ pos 92 ∷ pos 138 ∷ pos 29 ∷ pos 48
    ∷ pos 0 ∷ pos 0 ∷ pos 0 ∷ pos 1 ∷ pos 3 ∷ pos 3 ∷ pos 4 ∷ negsuc 0 ∷ []

-- each good model is accepted, and each other is refused at just this row for just this rule
pub record CasesOfTheCheck : Type 0 where
  pub gate : WellFormed counting_gate
  -- the greatest number alone is an interval, and nothing lies above it
  pub greatest : WellFormed (interval 0)
  pub too_great : Faulty (interval 1) 2 (Row 0 Extent)
  -- each value of the index's type has to be an index of the array, whatever value the index has
  pub inside : WellFormed (indexed 3)
  pub outside : Faulty (indexed 4) 8 (Row 6 Typing)
