use Rattle.std.proofs.Common.{arith, ◌≡◌, ◌<◌, length, take, ap, ◌∙◌}
use Rattle.std.proofs.lemmas.Grind.{common_steps}
use Rattle.ftl_deps.specs.reads.Meant.{meant}
use Rattle.ftl_meaning.specs.faults.Checked.{all_rules}
use Rattle.ftl_deps.specs.parts.RuleParts.{all_parts}
use Rattle.ftl_deps.proofs.parts.PartRows.{rows_all, rows_more}
use Rattle.ftl_deps.proofs.parts.all_parts.parts_in_order.Goals as goal

pub loop-rule-preserved : goal.loop-rule-preserved
loop-rule-preserved c =
    let checked = c.args.checked.now in
    let within : c.loop-rule.rule < length (all_rules checked.grammar) = grind (arith, common_steps) in
    let more = rows_more checked c.requires.lawful c.loop-rule.rule within in
    grind (arith, common_steps)

pub returns : goal.returns
returns c = record {
  parts =
      let checked = c.args.checked.now in
      let done : c.loop-rule.rule ≡ length (all_rules checked.grammar) = grind (arith, common_steps) in
      c.loop-rule.invariant ∙ ap (λ n. take n (all_parts (meant checked))) done
      ∙ rows_all checked c.requires.lawful;
}
