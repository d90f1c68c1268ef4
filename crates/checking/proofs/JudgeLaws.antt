-- From the verdict on a form to the verdict on the row that is this form.
use Rattle.std.proofs.Common.{◌≡◌, ℕ, ◌+◌, ◌≤◌, false, Some, Ok, Err, Option, Result, sym, ap, ◌∙◌, subst, arith, MatchResult}
use Rattle.std.specs.Option as options
use Rattle.tables.specs.declared.rule.Rule.{Rule}
use Rattle.tables.specs.declared.section.Section.TheVariants.{Types, Variables, Ports, Expressions, Statements, States}
use Rattle.tables.specs.declared.form.Form.{Form}
use Rattle.tables.specs.declared.form.Form.TheVariants.{TypeRow, VariableRow, PortRow, ExprRow, StmtRow, StateRow}
use Rattle.tables.specs.Rows.{Rows}
use Rattle.tables.specs.Forms.{form_at}
use Rattle.tables.specs.Descent.{below}
use Rattle.tables.specs.Cells.{taken, taken_by, communicates, communicates_in}
use Rattle.tables.specs.Rules.{Asks, All, First, Obeys, Good}
use Rattle.tables.proofs.Sections.{Ordered}
use Rattle.tables.proofs.CellLaws.{taken_more, communicates_is, stmt_communicates}
use Rattle.tables.proofs.SortLaws.{in_section}
use Rattle.checking.specs.declared.judged.Judged.{Judged}
use Rattle.judging.specs.Judging.{Keeps, Judges}
use Rattle.checking.specs.Found.{Found, Brings}

module _ (m : Rows) (r : ℕ) (ordered : Ordered m) (small : taken m r ≤ 4096) where
  silent : (f : Form) → form_at m r ≡ Some f → communicates m r ≡ communicates_in (Some f) r (below false r (communicates m))
  silent f e = communicates_is m r ∙ ap (λ o. communicates_in o r (below false r (communicates m))) e

  tells : (f : Form) (j : Judged) → form_at m r ≡ Some f → Keeps m r f → Found m r f j → j.communicates ≡ communicates m r
  tells (TypeRow f) j e k h = h.0 ∙ sym (silent (TypeRow f) e)
  tells (VariableRow of) j e k h = h.0 ∙ sym (silent (VariableRow of) e)
  tells (PortRow f) j e k h = h.0 ∙ sym (silent (PortRow f) e)
  tells (ExprRow f) j e k h = h.0 ∙ sym (silent (ExprRow f) e)
  tells (StmtRow f) j e k h = h.0 ∙ sym (stmt_communicates m r f e k.1)
  tells (StateRow statement) j e k h = h.0 ∙ sym (silent (StateRow statement) e)

  more : (f : Form) → form_at m r ≡ Some f → taken m (r + 1) ≡ taken m r + taken_by m (Some f)
  more f e = taken_more m r ∙ ap (λ o. taken m r + taken_by m o) e

  -- a row past the variables brings no cells
  brings_none : (f : Form) (n : ℕ) → n ≡ 0 → m.variables ≤ r → taken m (r + 1) ≡ taken m r + 0 → Brings m r n
  brings_none f n z l e = record {
    type = λ a. absurd (omega arith);
    variable = λ a b. absurd (omega arith);
    neither = λ a. omega arith;
    small = omega arith;
    all = omega arith;
  }

  brings : (f : Form) (j : Judged) → form_at m r ≡ Some f → Keeps m r f → Found m r f j → Brings m r j.cells
  brings (TypeRow f) j e k h =
      let l = in_section m r Types k.0.1.0 in
      let t = more (TypeRow f) e in
      record {
        type = λ a. h.1;
        variable = λ a b. absurd (omega arith);
        neither = λ a. omega arith;
        small = h.2;
        all = omega arith;
      }
  brings (VariableRow of) j e k h =
      let l = in_section m r Variables k.0.1.0 in
      record {
        type = λ a. absurd (omega arith);
        variable = λ a b. h.1;
        neither = λ no. absurd (no l.0 l.1);
        small = omega arith;
        all = k.2;
      }
  brings (PortRow f) j e k h =
      let l = in_section m r Ports k.0.1.0 in brings_none (PortRow f) j.cells h.1 (omega arith) (more (PortRow f) e)
  brings (ExprRow f) j e k h =
      let l = in_section m r Expressions k.0.1.0 in brings_none (ExprRow f) j.cells h.1 (omega arith) (more (ExprRow f) e)
  brings (StmtRow f) j e k h =
      let l = in_section m r Statements k.0.1.0 in brings_none (StmtRow f) j.cells h.1 (omega arith) (more (StmtRow f) e)
  brings (StateRow statement) j e k h =
      let l = in_section m r States k.0.1.0 in
      brings_none (StateRow statement) j.cells h.1 (omega arith) (more (StateRow statement) e)

  pub judged : (f : Form) (o : Result Judged Rule) → form_at m r ≡ Some f → Judges m r f (Found m r f) o → MatchResult o (λ j. Good m r × (j.communicates ≡ communicates m r) × Brings m r j.cells) (First (λ n. Obeys n m r))
  judged f (Ok j) e h = (
    subst (λ (o : Option Form). All (λ n. options.MatchOption o ⊥ (Asks n m r))) (sym e) h.0,
    tells f j e h.0 h.1,
    brings f j e h.0 h.1,
  )
  judged f (Err n) e h = subst (λ (o : Option Form). First (λ k. options.MatchOption o ⊥ (Asks k m r)) n) (sym e) h
