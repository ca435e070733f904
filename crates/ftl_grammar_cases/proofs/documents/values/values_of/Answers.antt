use Rattle.std.proofs.Common.{arith, ◌<◌, length}
use Rattle.std.proofs.lemmas.Grind.{common_steps}
use Rattle.ftl_tree.specs.boxes.WordValues.{value_of_word}
use Rattle.ftl_grammar_cases.proofs.WordValues.{map_step}
use Rattle.ftl_grammar_cases.proofs.documents.values.values_of.Goals as goal

pub loop-place-preserved : goal.loop-place-preserved
loop-place-preserved c =
    let xs = c.args.words.now in
    let i = c.loop-place.place in
    let within : i < length xs = grind (arith, common_steps) in
    let step = map_step value_of_word xs i _ c.value_of.result c.value_of.ensures.value within in
    grind (arith, common_steps)
