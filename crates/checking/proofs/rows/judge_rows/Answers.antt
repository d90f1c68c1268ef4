use Rattle.std.proofs.Common.{refl, arith, below_more}
use Rattle.tables.specs.Cells.{taken}
use Rattle.checking.proofs.NoteLaws.{noted_more}
use Rattle.checking.proofs.rows.judge_rows.Goals as goal

pub loop-number-init : goal.loop-number-init
unfolding taken
loop-number-init c = (
  (λ q l. absurd (omega arith)),
  record { sizes = λ t a b. absurd (omega arith); firsts = λ v a b w. absurd (omega arith); cells = c.requires.empty.cells; spare_sizes = λ t a. c.requires.empty.sizes t; spare_firsts = λ k a. c.requires.empty.firsts k },
  omega arith,
  record { as_long = refl; written = λ k l. absurd (omega arith); stays = λ k l. refl },
)

pub loop-number-preserved : goal.loop-number-preserved
loop-number-preserved c =
    let j = c.in-Ok.ensures in (
      below_more _ _ c.loop-number.invariant.0 j.0,
      c.lay.ensures.laid,
      c.lay.ensures.small,
      rw c.from.ensures (noted_more _ _ _ _ _ c.loop-number.invariant.3 (omega arith) j.1),
    )
