-- Sections follow in order, and each row lies in one.
use Rattle.std.proofs.Common.{◌≡◌, ℕ, ◌≤◌, arith}
use Rattle.std.proofs.lemmas.Bool.Decides.{nat_tests}
use Rattle.tables.specs.declared.section.Section.{Section}
use Rattle.tables.specs.declared.section.Section.TheVariants.{Types, Variables, Ports, Expressions, Statements, States}
use Rattle.tables.specs.Rows.{Rows, section_of, WithinSection}

abbrev pub Ordered : Rows → Type 0
Ordered m = (m.types ≤ m.variables) × (m.variables ≤ m.ports) × (m.ports ≤ m.expressions) × (m.expressions ≤ m.statements)

pub section_is : (m : Rows) (r : ℕ) (s : Section) → Ordered m → WithinSection s m r → section_of m r ≡ s
unfolding section_of
section_is m r Types o w = grind (arith, nat_tests)
section_is m r Variables o w = grind (arith, nat_tests)
section_is m r Ports o w = grind (arith, nat_tests)
section_is m r Expressions o w = grind (arith, nat_tests)
section_is m r Statements o w = grind (arith, nat_tests)
section_is m r States o w = grind (arith, nat_tests)
