use Rattle.std.proofs.Common.{arith, ◌≡◌, ◌<◌, length, take, ap, ◌∙◌}
use Rattle.std.proofs.lemmas.Grind.{common_steps}
use Rattle.ftl_meaning.specs.faults.Checked.{all_rules}
use Rattle.ftl_order.specs.dependencies.DepReads.{dep_table}
use Rattle.ftl_deps.specs.reads.Meant.{meant}
use Rattle.ftl_deps.proofs.reads.DepRows.{rows_all, rows_more}
use Rattle.ftl_deps.proofs.reads.dep_rows.all_rows.Goals as goal

pub loop-rule-preserved : goal.loop-rule-preserved
loop-rule-preserved c =
    let checked = c.args.checked.now in
    let within : c.loop-rule.rule < length (all_rules checked.grammar) = grind (arith, common_steps) in
    let more = rows_more checked c.requires.lawful c.loop-rule.rule within in
    grind (arith, common_steps)

pub returns : goal.returns
returns c = record {
  rows =
      let checked = c.args.checked.now in
      let done : c.loop-rule.rule ≡ length (all_rules checked.grammar) = grind (arith, common_steps) in
      c.loop-rule.invariant ∙ ap (λ n. take n (dep_table (meant checked))) done
      ∙ rows_all checked c.requires.lawful;
}
