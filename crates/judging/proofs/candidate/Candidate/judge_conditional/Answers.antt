use Rattle.std.proofs.Common.{refl, w32, SFits}
use Rattle.std.proofs.lemmas.Int.{to_z-of_z}
use Rattle.judging.proofs.candidate.Candidate.judge_conditional.Goals as goal

pub returns-then-conditional_types : goal.returns-then-conditional_types
returns-then-conditional_types c =
    let f : SFits w32 c.args.condition = c.ranges.condition in
    let own = c.in_ok-own.ensures in
    let condition = simp to_z-of_z at c.in_ok-condition.ensures in
    let pair = c.in_ok-if_true.ensures in
    let types = c.if-conditional_types.ensures.0 refl in (
      (
        c.requires,
        (own.0, condition.0, pair.0),
        tt,
        simp (own.1, condition.1, pair.1.0, pair.1.1) at types,
        tt,
        tt,
        tt,
      ),
      tt,
    )
