use Rattle.std.proofs.Common.{◌≡◌, ℕ, ◌-◌, ◌<◌, refl, arith, w32, SFits}
use Rattle.std.proofs.lemmas.Int.{ints, to_z-of_z}
use Rattle.judging.proofs.ChainLaws.{joins, joined}
use Rattle.judging.proofs.candidate.Candidate.judge_further.Goals as goal

pub returns-then-takes : goal.returns-then-takes
returns-then-takes c =
    let f : SFits w32 c.args.value = c.ranges.value in
    let target = c.in_ok-target.ensures in
    let value = simp to_z-of_z at c.in_ok-value.ensures in
    let chain = c.in-Some.ensures in
    let assigns = simp (chain.1, chain.2) at c.in-Some.chain.assigns in
    let takes = simp (chain.1, chain.2, c.earlier.ensures.1) at (c.if-takes.ensures.0 refl) in
    let fits = c.if-not-fits.ensures.0 refl in
    let l : c.args.self.row.number - 1 < c.args.self.row.number = omega (arith, ints) in (
      (
        c.requires,
        (target.0, value.0, chain.0, assigns),
        tt,
        tt,
        simp (target.1, value.1) at fits,
        tt,
        joins _ _ _ _ c.requires l (c.args.self.good (c.args.self.row.number - 1) l) assigns takes,
      ),
      tt,
    )

pub returns-else-takes : goal.returns-else-takes
returns-else-takes c =
    let f : SFits w32 c.args.value = c.ranges.value in
    let target = c.in_ok-target.ensures in
    let value = simp to_z-of_z at c.in_ok-value.ensures in
    let chain = c.in-Some.ensures in
    let assigns = simp (chain.1, chain.2) at c.in-Some.chain.assigns in
    let takes = simp (chain.1, chain.2, c.earlier.ensures.1) at c.if-takes.ensures.1 in
    let fits = c.if-not-fits.ensures.0 refl in
    let l : c.args.self.row.number - 1 < c.args.self.row.number = omega (arith, ints) in (
      c.requires,
      (target.0, value.0, chain.0, assigns),
      tt,
      tt,
      simp (target.1, value.1) at fits,
      tt,
      (λ h.
          let yes = takes (joined _ _ _ _ c.requires l h) in
          let z : ◌≡◌ {A = ℕ} 0 1 = cc in
          omega arith),
    )
