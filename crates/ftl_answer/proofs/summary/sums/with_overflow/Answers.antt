use Rattle.std.proofs.Common.{rules, refl, FitsSigned}
use Rattle.std.proofs.lemmas.Int.{to_z-of_z}
use mir.Syntax.{w128}
use Rattle.ftl_answer.proofs.summary.Weighted.{overflow_added}
use Rattle.ftl_answer.proofs.summary.sums.with_overflow.Goals as goal

pub returns-clause-more : goal.returns-clause-more
returns-clause-more c =
    let sum_fits : FitsSigned w128 c.args.sums.sum = search rules in
    let mix_fits : FitsSigned w128 c.args.sums.mix = search rules in
    λ values are.
    overflow_added values c.args.sums _ are refl refl (to_z-of_z w128 c.args.sums.sum sum_fits)
    (to_z-of_z w128 c.args.sums.mix mix_fits)
