use Rattle.std.proofs.Common.{arith, ◌≡◌, ◌<◌, length, take, ap, ◌∙◌}
use Rattle.std.proofs.lemmas.Grind.{common_steps}
use Rattle.ftl_meaning.specs.faults.Checked.{all_rules}
use Rattle.ftl_deps.specs.reads.DepRows.{writer_table}
use Rattle.ftl_deps.specs.reads.Meant.{meant}
use Rattle.ftl_deps.proofs.reads.WriterRows.{writers_all, writers_more}
use Rattle.ftl_deps.proofs.reads.dep_writers.all_writers.Goals as goal

pub loop-rule-preserved : goal.loop-rule-preserved
loop-rule-preserved c =
    let checked = c.args.checked.now in
    let within : c.loop-rule.rule < length (all_rules checked.grammar) = grind (arith, common_steps) in
    let more = writers_more checked c.requires.lawful c.loop-rule.rule within in
    grind (arith, common_steps)

pub returns : goal.returns
returns c = record {
  writers =
      let checked = c.args.checked.now in
      let done : c.loop-rule.rule ≡ length (all_rules checked.grammar) = grind (arith, common_steps) in
      c.loop-rule.invariant ∙ ap (λ n. take n (writer_table (meant checked))) done
      ∙ writers_all checked c.requires.lawful;
}
