use Rattle.std.proofs.Common.{rules, [], ◌∷◌, ◌++◌, sym, ◌∙◌, ap, subst, FitsSigned, w64}
use Rattle.std.proofs.lemmas.Int.{to_z-of_z}
use Rattle.ftl_model.specs.layout.Values.{Value, number}
use Rattle.ftl_answer.specs.summary.Summed.{AreSumsOf}
use Rattle.ftl_answer.proofs.summary.sums.with_word.Goals as goal

pub returns-in-Some-clause-more : goal.returns-in-Some-clause-more
returns-in-Some-clause-more c =
    let fits : FitsSigned w64 c.in-Some.number = search rules in
    λ values are.
    subst (λ (v : Value). AreSumsOf (values ++ (v ∷ [])) c.with_number.result)
    (ap number (to_z-of_z w64 c.in-Some.number fits) ∙ sym c.in-Some.ensures.number)
    (c.with_number.ensures.more values are)
