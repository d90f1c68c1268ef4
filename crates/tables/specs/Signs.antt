-- What a section, a way and an operator are printed as.
use Rattle.std.specs.Prelude.{ℕ, List, codes}
use Rattle.tables.specs.declared.section.Section.{Section}
use Rattle.tables.specs.declared.section.Section.TheVariants.{Types, Variables, Ports, Expressions, Statements, States}
use Rattle.tables.specs.declared.form.Direction.{Direction}
use Rattle.tables.specs.declared.form.Direction.TheVariants.{Receives, Sends, Either}
use Rattle.tables.specs.declared.form.UnaryOp.{UnaryOp}
use Rattle.tables.specs.declared.form.UnaryOp.TheVariants.{Not, Minus, Coerce}
use Rattle.tables.specs.declared.form.BinaryOp.{BinaryOp}
use Rattle.tables.specs.declared.form.BinaryOp.TheVariants.{And, Or, Add, Sub, Mul, Div, Rem, Equal, Unequal, Less, AtMost, Greater, AtLeast}

abbrev pub section_name : Section → List ℕ
section_name Types = codes "type"
section_name Variables = codes "variable"
section_name Ports = codes "port"
section_name Expressions = codes "expression"
section_name Statements = codes "statement"
section_name States = codes "state"

abbrev pub way_name : Direction → List ℕ
way_name Receives = codes "in"
way_name Sends = codes "out"
way_name Either = codes "in out"

abbrev pub unary_sign : UnaryOp → List ℕ
unary_sign Not = codes "not "
unary_sign Minus = codes "-"
unary_sign Coerce = codes "$"

abbrev pub binary_sign : BinaryOp → List ℕ
binary_sign And = codes "and"
binary_sign Or = codes "or"
binary_sign Add = codes "+"
binary_sign Sub = codes "-"
binary_sign Mul = codes "*"
binary_sign Div = codes "/"
binary_sign Rem = codes "%"
binary_sign Equal = codes "="
binary_sign Unequal = codes "<>"
binary_sign Less = codes "<"
binary_sign AtMost = codes "<="
binary_sign Greater = codes ">"
binary_sign AtLeast = codes ">="
