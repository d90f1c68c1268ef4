-- The worked cases, shown row by row: on words that are written out each rule computes to a few orders and equations.
use Rattle.std.proofs.Common.{pos, refl, arith, rules, below_none, below_more}
use mathlib.Core.Bool.{false≢true}
use Rattle.std.proofs.lemmas.Int.{ints}
use Rattle.tables.specs.Rows.{section_of}
use Rattle.tables.specs.Words.{rows_of, Sized}
use Rattle.tables.specs.Forms.{form_at}
use Rattle.tables.specs.Descent.{descend, descend_in}
use Rattle.tables.specs.Cells.{type_at, port_at, cells, taken, communicates}
use Rattle.tables.specs.Rules.{Good, GoodBelow}
use Rattle.tables.specs.declared.rule.Rule.TheVariants.{Extent, Typing}
use Rattle.checking.specs.declared.fault.CheckFault.TheVariants.{Row}
use Rattle.checking.specs.Verdict.{WellFormed, Faulty}
use Rattle.checking.specs.Worked.{counting_gate, interval, indexed, CasesOfTheCheck}

-- The counting gate.
-- bool
gate_0 : Good (rows_of counting_gate) 0
unfolding rows_of section_of form_at
gate_0 = ((search rules, (refl, (refl, refl, refl))), tt, tt, tt, tt, tt, tt)

-- 0..3
gate_1 : Good (rows_of counting_gate) 1
unfolding rows_of section_of form_at
gate_1 = ((search rules, (refl, (refl, refl, refl))), tt, search rules, tt, tt, tt, tt)

-- the variable
gate_2 : Good (rows_of counting_gate) 2
unfolding rows_of section_of form_at type_at cells taken descend descend_in
gate_2 = ((search rules, (refl, (refl, refl, refl))), ((search rules, search rules), refl), search rules, tt, tt, tt, tt)

-- the port
gate_3 : Good (rows_of counting_gate) 3
unfolding rows_of section_of form_at type_at
gate_3 = ((search rules, (refl, (refl, refl, refl))), ((search rules, search rules), refl), tt, tt, tt, tt, tt)

-- the variable's place
gate_4 : Good (rows_of counting_gate) 4
unfolding rows_of section_of form_at
gate_4 = ((search rules, (refl, (refl, refl, refl))), (((search rules, search rules), refl), ((search rules, search rules), refl)), tt, refl, tt, tt, tt)

-- its value
gate_5 : Good (rows_of counting_gate) 5
unfolding rows_of section_of form_at type_at
gate_5 = ((search rules, (refl, (refl, refl, refl))), (((search rules, search rules), refl), ((search rules, search rules), refl)), tt, (tt, λ z h. h), tt, tt, tt)

-- one
gate_6 : Good (rows_of counting_gate) 6
unfolding rows_of section_of form_at type_at
gate_6 = ((search rules, (refl, (refl, refl, refl))), ((search rules, search rules), refl), tt, (search rules, search rules), tt, tt, tt)

-- one more
gate_7 : Good (rows_of counting_gate) 7
unfolding rows_of section_of form_at type_at
gate_7 = ((search rules, (refl, (refl, refl, refl))), (((search rules, search rules), refl), ((search rules, search rules), refl), ((search rules, search rules), refl)), tt, (tt, (tt, λ z h. h), (tt, λ z h. h)), tt, tt, tt)

-- the variable becomes one more
gate_8 : Good (rows_of counting_gate) 8
unfolding rows_of section_of form_at type_at
gate_8 = ((search rules, (refl, (refl, refl, refl))), (((search rules, search rules), refl), ((search rules, search rules), refl)), tt, tt, (tt, λ z h. h), tt, tt)

-- the value is sent
gate_9 : Good (rows_of counting_gate) 9
unfolding rows_of section_of form_at type_at port_at
gate_9 = ((search rules, (refl, (refl, refl, refl))), (((search rules, search rules), refl), ((search rules, search rules), refl)), tt, tt, (tt, (tt, λ z h. h)), tt, tt)

-- to the state
gate_10 : Good (rows_of counting_gate) 10
unfolding rows_of section_of form_at
gate_10 = ((search rules, (refl, (refl, refl, refl))), (search rules, search rules), tt, tt, tt, tt, tt)

-- sending, then going
gate_11 : Good (rows_of counting_gate) 11
unfolding rows_of section_of form_at communicates descend descend_in
gate_11 = ((search rules, (refl, (refl, refl, refl))), (((search rules, search rules), refl), ((search rules, search rules), refl)), tt, tt, tt, λ sends goes. false≢true goes, tt)

-- assigning, then both
gate_12 : Good (rows_of counting_gate) 12
unfolding rows_of section_of form_at communicates descend descend_in
gate_12 = ((search rules, (refl, (refl, refl, refl))), (((search rules, search rules), refl), ((search rules, search rules), refl)), tt, tt, tt, λ assigns both. false≢true assigns, tt)

-- the state
gate_13 : Good (rows_of counting_gate) 13
unfolding rows_of section_of form_at
gate_13 = ((search rules, (refl, (refl, refl, refl))), λ no. ((search rules, search rules), refl), tt, tt, tt, tt, tt)

gate_below : GoodBelow (rows_of counting_gate) 14
gate_below = below_more _ 13 (below_more _ 12 (below_more _ 11 (below_more _ 10 (below_more _ 9 (below_more _ 8 (below_more _ 7 (below_more _ 6 (below_more _ 5 (below_more _ 4 (below_more _ 3 (below_more _ 2 (below_more _ 1 (below_more _ 0 (below_none (Good (rows_of counting_gate))) gate_0) gate_1) gate_2) gate_3) gate_4) gate_5) gate_6) gate_7) gate_8) gate_9) gate_10) gate_11) gate_12) gate_13

gate_sized : Sized counting_gate
gate_sized = record { six = search rules; types = (search rules, search rules); variables = (search rules, search rules); ports = (search rules, search rules); expressions = (search rules, search rules); statements = (search rules, search rules); states = (search rules, search rules); inhabited = search rules; exact = refl }

gate_well : WellFormed counting_gate
unfolding rows_of
gate_well = record { sized = gate_sized; rows = gate_below }

-- The interval of the greatest number alone.
-- the interval
greatest_0 : Good (rows_of (interval 0)) 0
unfolding rows_of section_of form_at
greatest_0 = ((search rules, (refl, (refl, refl, refl))), tt, search rules, tt, tt, tt, tt)

-- the state
greatest_1 : Good (rows_of (interval 0)) 1
unfolding rows_of section_of form_at
greatest_1 = ((search rules, (refl, (refl, refl, refl))), λ no. absurd (no refl), tt, tt, tt, tt, tt)

greatest_below : GoodBelow (rows_of (interval 0)) 2
greatest_below = below_more _ 1 (below_more _ 0 (below_none (Good (rows_of (interval 0)))) greatest_0) greatest_1

greatest_sized : Sized (interval 0)
greatest_sized = record { six = search rules; types = (search rules, search rules); variables = (search rules, search rules); ports = (search rules, search rules); expressions = (search rules, search rules); statements = (search rules, search rules); states = (search rules, search rules); inhabited = search rules; exact = refl }

greatest_well : WellFormed (interval 0)
unfolding rows_of
greatest_well = record { sized = greatest_sized; rows = greatest_below }

-- The interval of one number more.
too_great_sized : Sized (interval 1)
too_great_sized = record { six = search rules; types = (search rules, search rules); variables = (search rules, search rules); ports = (search rules, search rules); expressions = (search rules, search rules); statements = (search rules, search rules); states = (search rules, search rules); inhabited = search rules; exact = refl }

too_great_faulty : Faulty (interval 1) 2 (Row 0 Extent)
unfolding rows_of section_of form_at
too_great_faulty = (
  too_great_sized,
  search rules,
  record { inside = search rules; good = below_none _; breaks = ((search rules, (refl, (refl, refl, refl))), tt, λ h. omega (arith, ints)) },
)

-- An index whose type is 0..3.
-- bool
inside_0 : Good (rows_of (indexed 3)) 0
unfolding rows_of section_of form_at
inside_0 = ((search rules, (refl, (refl, refl, refl))), tt, tt, tt, tt, tt, tt)

-- the array
inside_1 : Good (rows_of (indexed 3)) 1
unfolding rows_of section_of form_at type_at cells descend descend_in
inside_1 = ((search rules, (refl, (refl, refl, refl))), ((search rules, search rules), refl), (search rules, search rules, search rules), tt, tt, tt, tt)

-- the type of the index
inside_2 : Good (rows_of (indexed 3)) 2
unfolding rows_of section_of form_at
inside_2 = ((search rules, (refl, (refl, refl, refl))), tt, search rules, tt, tt, tt, tt)

-- the variable
inside_3 : Good (rows_of (indexed 3)) 3
unfolding rows_of section_of form_at type_at cells taken descend descend_in
inside_3 = ((search rules, (refl, (refl, refl, refl))), ((search rules, search rules), refl), search rules, tt, tt, tt, tt)

-- its place
inside_4 : Good (rows_of (indexed 3)) 4
unfolding rows_of section_of form_at
inside_4 = ((search rules, (refl, (refl, refl, refl))), (((search rules, search rules), refl), ((search rules, search rules), refl)), tt, refl, tt, tt, tt)

-- the index
inside_5 : Good (rows_of (indexed 3)) 5
unfolding rows_of section_of form_at type_at
inside_5 = ((search rules, (refl, (refl, refl, refl))), ((search rules, search rules), refl), tt, (search rules, search rules), tt, tt, tt)

-- the element
inside_6 : Good (rows_of (indexed 3)) 6
unfolding rows_of section_of form_at type_at
inside_6 = ((search rules, (refl, (refl, refl, refl))), (((search rules, search rules), refl), ((search rules, search rules), refl), ((search rules, search rules), refl)), tt, (refl, (tt, λ z h. (h.0, omega (arith, ints)))), tt, tt, tt)

-- the state
inside_7 : Good (rows_of (indexed 3)) 7
unfolding rows_of section_of form_at
inside_7 = ((search rules, (refl, (refl, refl, refl))), λ no. absurd (no refl), tt, tt, tt, tt, tt)

inside_below : GoodBelow (rows_of (indexed 3)) 8
inside_below = below_more _ 7 (below_more _ 6 (below_more _ 5 (below_more _ 4 (below_more _ 3 (below_more _ 2 (below_more _ 1 (below_more _ 0 (below_none (Good (rows_of (indexed 3)))) inside_0) inside_1) inside_2) inside_3) inside_4) inside_5) inside_6) inside_7

inside_sized : Sized (indexed 3)
inside_sized = record { six = search rules; types = (search rules, search rules); variables = (search rules, search rules); ports = (search rules, search rules); expressions = (search rules, search rules); statements = (search rules, search rules); states = (search rules, search rules); inhabited = search rules; exact = refl }

inside_well : WellFormed (indexed 3)
unfolding rows_of
inside_well = record { sized = inside_sized; rows = inside_below }

-- An index whose type is 0..4: 4 is a value of it, and no index.
-- bool
outside_0 : Good (rows_of (indexed 4)) 0
unfolding rows_of section_of form_at
outside_0 = ((search rules, (refl, (refl, refl, refl))), tt, tt, tt, tt, tt, tt)

-- the array
outside_1 : Good (rows_of (indexed 4)) 1
unfolding rows_of section_of form_at type_at cells descend descend_in
outside_1 = ((search rules, (refl, (refl, refl, refl))), ((search rules, search rules), refl), (search rules, search rules, search rules), tt, tt, tt, tt)

-- the type of the index
outside_2 : Good (rows_of (indexed 4)) 2
unfolding rows_of section_of form_at
outside_2 = ((search rules, (refl, (refl, refl, refl))), tt, search rules, tt, tt, tt, tt)

-- the variable
outside_3 : Good (rows_of (indexed 4)) 3
unfolding rows_of section_of form_at type_at cells taken descend descend_in
outside_3 = ((search rules, (refl, (refl, refl, refl))), ((search rules, search rules), refl), search rules, tt, tt, tt, tt)

-- its place
outside_4 : Good (rows_of (indexed 4)) 4
unfolding rows_of section_of form_at
outside_4 = ((search rules, (refl, (refl, refl, refl))), (((search rules, search rules), refl), ((search rules, search rules), refl)), tt, refl, tt, tt, tt)

-- the index
outside_5 : Good (rows_of (indexed 4)) 5
unfolding rows_of section_of form_at type_at
outside_5 = ((search rules, (refl, (refl, refl, refl))), ((search rules, search rules), refl), tt, (search rules, search rules), tt, tt, tt)

outside_below : GoodBelow (rows_of (indexed 4)) 6
outside_below = below_more _ 5 (below_more _ 4 (below_more _ 3 (below_more _ 2 (below_more _ 1 (below_more _ 0 (below_none (Good (rows_of (indexed 4)))) outside_0) outside_1) outside_2) outside_3) outside_4) outside_5

outside_sized : Sized (indexed 4)
outside_sized = record { six = search rules; types = (search rules, search rules); variables = (search rules, search rules); ports = (search rules, search rules); expressions = (search rules, search rules); statements = (search rules, search rules); states = (search rules, search rules); inhabited = search rules; exact = refl }

outside_faulty : Faulty (indexed 4) 8 (Row 6 Typing)
unfolding rows_of section_of form_at type_at
outside_faulty = (
  outside_sized,
  search rules,
  record {
    inside = search rules;
    good = outside_below;
    breaks = (
      (search rules, (refl, (refl, refl, refl))),
      (((search rules, search rules), refl), ((search rules, search rules), refl), ((search rules, search rules), refl)),
      tt,
      λ h. let no = h.1.1 (pos 4) (search rules, search rules) in omega (arith, ints),
    );
  },
)

pub cases : CasesOfTheCheck
cases = record { gate = gate_well; greatest = greatest_well; too_great = too_great_faulty; inside = inside_well; outside = outside_faulty }
