use Rattle.std.proofs.Common.{◌≡◌, None, arith, sym, ◌∙◌}
use Rattle.std.proofs.lemmas.Grind.{common_steps}
use Rattle.ftl_deps.specs.reads.Meant.{meant}
use Rattle.ftl_nests.specs.Nests.{nest_placing_of}
use Rattle.ftl_nest_check.specs.stages.Nested.{nests_of}
use Rattle.ftl_example.specs.nests.pairs.FirstRefused.{late_writer}
use Rattle.ftl_example.proofs.pairs.FirstPlaces.{one_more_none}
use Rattle.ftl_example.proofs.nests.pairs.first_read.first_in_rule.Goals as goal

pub loop-place-preserved : goal.loop-place-preserved
loop-place-preserved c =
    let none : c.writer_too_late.result ≡ None = grind (arith, common_steps) in
    one_more_none
    (λ j. late_writer (meant c.args.checked.now) (nest_placing_of (nests_of c.args.placed.now)) c.args.rule j ≡ None)
    c.loop-place.place c.loop-place.invariant (sym c.writer_too_late.ensures.writer ∙ none)
