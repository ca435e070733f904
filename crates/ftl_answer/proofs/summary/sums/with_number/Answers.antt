use Rattle.std.proofs.Common.{rules, refl, ap, ◌∙◌, pos, ◌+ℤ◌, ◌*ℤ◌, arith, FitsSigned, to_z, of_z, w64}
use Rattle.std.proofs.lemmas.Int.{ints, to_z-of_z}
use mir.Syntax.{w128}
use Rattle.ftl_answer.specs.answers.Summary.{mixed}
use Rattle.ftl_answer.proofs.summary.Weighted.{number_added}
use Rattle.ftl_answer.proofs.summary.sums.with_number.Goals as goal

pub returns-clause-more : goal.returns-clause-more
returns-clause-more c =
    let sums = c.args.sums in
    let n = c.args.number in
    let sum_fits : FitsSigned w128 sums.sum = search rules in
    let mix_fits : FitsSigned w128 sums.mix = search rules in
    let number_fits : FitsSigned w64 n = search rules in
    let part_fits : FitsSigned w64 c.weighted.result = search rules in
    let more_sum_fits : FitsSigned w128 c.plus-sum.result = search rules in
    let more_mix_fits : FitsSigned w128 c.plus-mix.result = search rules in
    let is = c.plus-sum.ensures.sum in
    λ values are.
    number_added values sums _ n are refl refl (omega (arith, ints, is, sum_fits, number_fits, more_sum_fits))
    (to_z-of_z w128 c.plus-mix.result more_mix_fits
    ∙ c.plus-mix.ensures.sum
    ∙ ap (λ s. s +ℤ to_z w64 (of_z w64 c.weighted.result)) (to_z-of_z w128 sums.mix mix_fits)
    ∙ ap (λ m. sums.mix +ℤ m)
    (to_z-of_z w64 c.weighted.result part_fits
    ∙ c.weighted.ensures.product
    ∙ ap (λ k. k *ℤ pos (mixed sums.shown)) (to_z-of_z w64 n number_fits)))
