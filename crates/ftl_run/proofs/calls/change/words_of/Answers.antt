use Rattle.std.proofs.Common.{arith, ◌<◌, length, ◌∙◌}
use Rattle.std.proofs.lemmas.Grind.{common_steps}
use Rattle.ftl_model.specs.layout.Values.{overflow}
use Rattle.ftl_tree.specs.boxes.WordValues.{value_of_word}
use Rattle.ftl_run.proofs.calls.Mapped.{one_back}
use Rattle.ftl_run.proofs.calls.change.words_of.Goals as goal

pub loop-place-preserved : goal.loop-place-preserved
loop-place-preserved c =
    let xs = c.args.values.now in
    let i = c.loop-place.place in
    let within : i < length xs = grind (arith, common_steps) in
    let step = one_back value_of_word xs i overflow c.loop-place.words.items c.word_for.result (c.word_for.ensures.value ∙ grind (arith, common_steps)) within
    c.loop-place.invariant in
    grind (arith, common_steps)
