-- Chains, from row to row.
use Rattle.std.proofs.Common.{◌≡◌, ℕ, ◌-◌, ◌<◌, ◌≤◌, ◌∷◌, length, ℤ, Some, None, Option, refl, arith}
use Rattle.std.proofs.lemmas.Int.{ints}
use Rattle.tables.specs.declared.form.StmtForm.{StmtForm}
use Rattle.tables.specs.declared.form.StmtForm.TheVariants.{Null, On, Assign, Further, Any, While, If, Sequence, Select, To, Loop, Synchronise, Send, Receive}
use Rattle.tables.specs.declared.form.Form.{Form}
use Rattle.tables.specs.declared.form.Form.TheVariants.{TypeRow, VariableRow, PortRow, ExprRow, StmtRow, StateRow}
use Rattle.tables.specs.Rows.{Rows}
use Rattle.tables.specs.Forms.{form_at, Is}
use Rattle.tables.specs.Cells.{targets}
use Rattle.tables.specs.Rules.{Good, IsAssignment, Assigns, Apart, WithEach, Pairwise, StmtChains}
use Rattle.tables.proofs.CellLaws.{targets_one, targets_more}
use Rattle.tables.proofs.FormLaws.{is_form}
use Rattle.tables.proofs.SortLaws.{at_form}
use Rattle.judging.specs.declared.chain.Chain.{Chain}
use Rattle.judging.specs.Chains.{Links, chain_rows}

-- what a link of a chain tells, from its statement
pub link_last : (c : Chain) (place : ℕ) (v : ℤ) → Good (chain_rows c) c.last.row.number → form_at (chain_rows c) c.last.row.number ≡ Some (StmtRow (Assign place v)) → Links c (record { place = place; rest = None })
link_last c place v g e =
    let one = targets_one (chain_rows c) c.last.row.number place v e in
    record {
      place = (at_form (chain_rows c) c.last.row.number (StmtRow (Assign place v)) g e).1.0;
      few = rw one (omega arith);
      rest = one;
    }

pub link_more : (c d : Chain) (place : ℕ) (v : ℤ) → Good (chain_rows c) c.last.row.number → form_at (chain_rows c) c.last.row.number ≡ Some (StmtRow (Further place v)) → d.last.row.table ≡ c.last.row.table → d.last.row.number ≡ c.last.row.number - 1 → Links c (record { place = place; rest = Some d })
link_more c d place v g e t n =
    let all = at_form (chain_rows c) c.last.row.number (StmtRow (Further place v)) g e in
    let more = targets_more (chain_rows c) c.last.row.number place v e (omega (arith, ints)) in
    record {
      place = all.1.0;
      few = all.6.0;
      rest = record { targets = more; later = omega (arith, ints); table = t; number = n };
    }

-- the targets of a good assignment are apart
apart_targets : (m : Rows) (q : ℕ) (f : StmtForm) → Good m q → form_at m q ≡ Some (StmtRow f) → Assigns f → Pairwise (Apart m) (targets m q)
apart_targets m q Null g e a = absurd a
apart_targets m q (On guard) g e a = absurd a
apart_targets m q (Assign place value) g e a = rw (targets_one m q place value e) (tt, tt)
apart_targets m q (Further place value) g e a = (at_form m q (StmtRow (Further place value)) g e).6.1
apart_targets m q (Any place) g e a = absurd a
apart_targets m q (While condition body) g e a = absurd a
apart_targets m q (If condition then) g e a = absurd a
apart_targets m q (Sequence first second) g e a = absurd a
apart_targets m q (Select left right) g e a = absurd a
apart_targets m q (To state) g e a = absurd a
apart_targets m q Loop g e a = absurd a
apart_targets m q (Synchronise port) g e a = absurd a
apart_targets m q (Send port value) g e a = absurd a
apart_targets m q (Receive port place) g e a = absurd a

earlier_apart : (m : Rows) (q : ℕ) → Good m q → IsAssignment (form_at m q) → Pairwise (Apart m) (targets m q)
earlier_apart m q g a = from (form_at m q) refl a
  where
    from : (o : Option Form) → form_at m q ≡ o → IsAssignment o → Pairwise (Apart m) (targets m q)
    from None e a = absurd a
    from (Some (TypeRow f)) e a = absurd a
    from (Some (VariableRow of)) e a = absurd a
    from (Some (PortRow f)) e a = absurd a
    from (Some (ExprRow f)) e a = absurd a
    from (Some (StmtRow f)) e a = apart_targets m q f g e a
    from (Some (StateRow statement)) e a = absurd a

-- one target more keeps the rule of chains exactly if there were fewer than 8, and it is apart from each
pub joins : (m : Rows) (r place : ℕ) (v : ℤ) → Is m r (StmtRow (Further place v)) → r - 1 < r → Good m (r - 1) → IsAssignment (form_at m (r - 1)) → (length (targets m (r - 1)) < 8) × WithEach (Apart m) place (targets m (r - 1)) → StmtChains m r (Further place v)
joins m r place v i l g a h =
    let e = targets_more m r place v (is_form m r (StmtRow (Further place v)) i) l in
    rw e (omega arith, (h.1, earlier_apart m (r - 1) g a))

pub joined : (m : Rows) (r place : ℕ) (v : ℤ) → Is m r (StmtRow (Further place v)) → r - 1 < r → StmtChains m r (Further place v) → (length (targets m (r - 1)) < 8) × WithEach (Apart m) place (targets m (r - 1))
joined m r place v i l h =
    let e = targets_more m r place v (is_form m r (StmtRow (Further place v)) i) l in
    let k : (length (place ∷ targets m (r - 1)) ≤ 8) × Pairwise (Apart m) (place ∷ targets m (r - 1)) = rw e at h in
    (omega (arith, k.0), k.1.0)
