use Rattle.std.proofs.Common.{arith, length, ap, ◌∙◌}
use Rattle.std.proofs.lemmas.Grind.{common_steps}
use Rattle.std.proofs.lemmas.List.{length-map}
use Rattle.ftl_meaning.specs.faults.Checked.{all_attributes, attribute_info}
use Rattle.ftl_checked.proofs.lookup.AttrInfos.{attribute_count_is}
use Rattle.ftl_checked.proofs.grammars.checked.Checked.attr_count.Goals as goal

pub overflow_cast-result : goal.overflow_cast-result
overflow_cast-result c =
    let g = c.self.inside.grammar in
    let small = c.self.invariant.small in
    let kept = ap length c.self.invariant.attrs ∙ length-map (all_attributes g) (attribute_info g) ∙ attribute_count_is g in
    let attrs = small.attributes in
    grind (arith, common_steps)
