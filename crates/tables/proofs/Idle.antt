-- The idle model is a model.
use Rattle.std.proofs.Common.{refl, inl, inr, arith, rules}
use Rattle.std.proofs.lemmas.Bool.{cases_eq}
use Rattle.tables.specs.declared.layout.Layout.{Layout}
use Rattle.tables.specs.Rows.{section_of}
use Rattle.tables.specs.Words.{rows_of, idle_words}
use Rattle.tables.specs.Forms.{form_at}
use Rattle.tables.specs.Cells.{taken}
use Rattle.tables.specs.Rules.{Good, GoodBelow}
use Rattle.tables.specs.Layouts.{LaidOut, Empty}

first_good : Good (rows_of idle_words) 0
unfolding rows_of section_of form_at
first_good = ((search rules, (refl, (refl, refl, refl))), (λ no. absurd (no refl)), tt, tt, tt, tt, tt)

pub idle_good : GoodBelow (rows_of idle_words) (rows_of idle_words).total
unfolding rows_of
idle_good q l = elim (cases_eq q 0) [ inl e ↦ rw e first_good | inr ne ↦ absurd (omega arith) ]

pub idle_laid : (l : Layout) → Empty l → LaidOut (rows_of idle_words) (rows_of idle_words).total l
unfolding rows_of section_of form_at taken
idle_laid l e = record { sizes = λ t a b. absurd (omega arith); firsts = λ v a b c. absurd (omega arith); cells = e.cells; spare_sizes = λ t a. e.sizes t; spare_firsts = λ k a. e.firsts k }
