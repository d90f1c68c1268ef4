-- The number of each fault, and the row that it tells.
use Rattle.std.specs.Prelude.{ℕ, ℤ, pos, negsuc, Some, None, Option}
use Rattle.tables.specs.declared.rule.Rule.{Rule}
use Rattle.tables.specs.declared.rule.Rule.TheVariants.{Shape, Naming, Extent, Typing, Statement, Communication, Chain}
use Rattle.checking.specs.declared.fault.CheckFault.{CheckFault}
use Rattle.checking.specs.declared.fault.CheckFault.TheVariants.{Sizes, Notes, Row}

abbrev pub rule_number : Rule → ℕ
rule_number Shape = 3
rule_number Naming = 4
rule_number Extent = 5
rule_number Typing = 6
rule_number Statement = 7
rule_number Communication = 8
rule_number Chain = 9

abbrev pub number : CheckFault → ℕ
number Sizes = 1
number Notes = 2
number (Row r n) = rule_number n

-- the row, -1 for none
abbrev pub row_told : CheckFault → ℤ
row_told Sizes = negsuc 0
row_told Notes = negsuc 0
row_told (Row r n) = pos r

abbrev pub or_minus_one : Option ℕ → ℤ
or_minus_one None = negsuc 0
or_minus_one (Some r) = pos r
