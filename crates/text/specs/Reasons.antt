-- Why a row is refused: by the rule that it breaks and, at some rules, by its form.
use Rattle.std.specs.Prelude.{if◌then◌else◌, ◌||◌, Some, None, Option, ◌==◌, nat_lt}
use Rattle.tables.specs.declared.form.Form.{Form}
use Rattle.tables.specs.declared.form.Form.TheVariants.{TypeRow, VariableRow, PortRow, ExprRow, StmtRow, StateRow}
use Rattle.tables.specs.declared.form.TypeForm.{TypeForm}
use Rattle.tables.specs.declared.form.TypeForm.TheVariants as type
use Rattle.tables.specs.declared.form.StmtForm.{StmtForm}
use Rattle.tables.specs.declared.form.StmtForm.TheVariants as stmt
use Rattle.tables.specs.declared.rule.Rule.{Rule}
use Rattle.tables.specs.declared.rule.Rule.TheVariants.{Shape, Naming, Extent, Typing, Statement, Communication, Chain}
use Rattle.checking.specs.declared.fault.CheckFault.{CheckFault}
use Rattle.checking.specs.declared.fault.CheckFault.TheVariants.{Sizes, Notes, Row}
use Rattle.text.specs.declared.reason.Reason.{Reason}
use Rattle.text.specs.declared.reason.Reason.TheVariants.{SizesWrong, NotesShort, NoForm, NoRow, NoState, IntervalEnd, ArrayLength, ManyCells, PortArray, IllTyped, IllStated, Communicates, ChainTargets}

abbrev pub type_reason : TypeForm → Reason
type_reason type.Bool = ManyCells
type_reason type.Nat = ManyCells
type_reason type.Int = ManyCells
type_reason (type.Interval low span) = IntervalEnd
type_reason (type.Array length element) = if length == 0 || nat_lt 1024 length then ArrayLength else ManyCells

-- what is too large about a row
abbrev pub extent_reason : Option Form → Reason
extent_reason None = ManyCells
extent_reason (Some (TypeRow f)) = type_reason f
extent_reason (Some (VariableRow of)) = ManyCells
extent_reason (Some (PortRow f)) = PortArray
extent_reason (Some (ExprRow f)) = ManyCells
extent_reason (Some (StmtRow f)) = ManyCells
extent_reason (Some (StateRow statement)) = ManyCells

abbrev pub statement_reason : StmtForm → Reason
statement_reason stmt.Null = NoRow
statement_reason (stmt.On guard) = NoRow
statement_reason (stmt.Assign place value) = NoRow
statement_reason (stmt.Further place value) = NoRow
statement_reason (stmt.Any place) = NoRow
statement_reason (stmt.While condition body) = NoRow
statement_reason (stmt.If condition body) = NoRow
statement_reason (stmt.Sequence first second) = NoRow
statement_reason (stmt.Select left right) = NoRow
statement_reason (stmt.To state) = NoState
statement_reason stmt.Loop = NoRow
statement_reason (stmt.Synchronise port) = NoRow
statement_reason (stmt.Send port value) = NoRow
statement_reason (stmt.Receive port place) = NoRow

-- what a row names that is not there
abbrev pub naming_reason : Option Form → Reason
naming_reason None = NoRow
naming_reason (Some (TypeRow f)) = NoRow
naming_reason (Some (VariableRow of)) = NoRow
naming_reason (Some (PortRow f)) = NoRow
naming_reason (Some (ExprRow f)) = NoRow
naming_reason (Some (StmtRow f)) = statement_reason f
naming_reason (Some (StateRow statement)) = NoRow

abbrev pub rule_reason : Rule → Option Form → Reason
rule_reason Shape form = NoForm
rule_reason Naming form = naming_reason form
rule_reason Extent form = extent_reason form
rule_reason Typing form = IllTyped
rule_reason Statement form = IllStated
rule_reason Communication form = Communicates
rule_reason Chain form = ChainTargets

abbrev pub fault_reason : CheckFault → Option Form → Reason
fault_reason Sizes form = SizesWrong
fault_reason Notes form = NotesShort
fault_reason (Row r rule) form = rule_reason rule form
