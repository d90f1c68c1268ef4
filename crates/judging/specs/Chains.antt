-- Walking down a chain.
use Rattle.std.specs.Prelude.{◌≡◌, ℕ, ◌-◌, ◌<◌, ◌≤◌, [], ◌∷◌, length, pos, MatchOption}
use Rattle.tables.specs.declared.form.Sort.TheVariants.{Place}
use Rattle.tables.specs.Rows.{Rows}
use Rattle.tables.specs.Cells.{targets}
use Rattle.tables.specs.Rules.{Refers}
use Rattle.tables.specs.Views.{good_rows}
use Rattle.judging.specs.declared.chain.Chain.{Chain}
use Rattle.judging.specs.declared.chain.Link.{Link}

-- the rows that a chain stands among
abbrev pub chain_rows : Chain → Rows
chain_rows c = good_rows c.last

-- the chain d ends with the row before the last of c, and has the targets of c but for p
pub record GoesOn (c : Chain) (p : ℕ) (d : Chain) : Type 0 where
  pub targets : targets (chain_rows c) c.last.row.number ≡ p ∷ targets (chain_rows c) (c.last.row.number - 1)
  pub later : 0 < c.last.row.number
  pub table : d.last.row.table ≡ c.last.row.table
  pub number : d.last.row.number ≡ c.last.row.number - 1

-- the last row of a chain has this target, and the rest of its targets are those of the chain before
pub record Links (c : Chain) (l : Link) : Type 0 where
  pub place : Refers (chain_rows c) c.last.row.number Place (pos l.place)
  pub few : length (targets (chain_rows c) c.last.row.number) ≤ 8
  pub rest : MatchOption l.rest (targets (chain_rows c) c.last.row.number ≡ l.place ∷ []) (GoesOn c l.place)
