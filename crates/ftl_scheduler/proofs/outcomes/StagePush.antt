-- Stages of which one more is put at the end.
use Rattle.std.proofs.Common.{◌≡◌, List, [], ◌∷◌, ◌++◌, map, ◌∙◌, ap}
use Rattle.std.proofs.lemmas.List.{map-append}
use Rattle.ftl_schedule.specs.stages.Stages.{pass_of, stages_of}
use Rattle.ftl_schedule.specs.declared.stages.types.Pass.{Pass}
use Rattle.ftl_schedule.specs.declared.stages.types.Stage.{Stage}

pub stages_push : (ss : List Stage) (stage : Stage) (pass : Pass) → stage.passes ≡ pass ∷ []
    → stages_of (record { stages = ss ++ stage ∷ [] }) ≡ stages_of (record { stages = ss }) ++ (pass_of pass ∷ []) ∷ []
stages_push ss stage pass e =
    map-append (λ (s : Stage). map pass_of s.passes) ss (stage ∷ [])
    ∙ ap (λ passes. map (λ (s : Stage). map pass_of s.passes) ss ++ map pass_of passes ∷ []) e
