use Rattle.std.proofs.Common.{arith, ◌≡◌, ◌≤◌, List, length, ap, subst, sym, ◌∙◌}
use Rattle.std.proofs.lemmas.Grind.{common_steps}
use Rattle.ftl_order.specs.declared.dependencies.dep_read.DepRead.{DepRead}
use Rattle.ftl_schedule.proofs.check.RuleCount.{few_in_row, reads_in_row, row_in}
use Rattle.ftl_schedule.proofs.check.unordered.read_count.Goals as goal

pub reads-requires : goal.reads-requires
reads-requires c = record {
  within = row_in c.args.checked.now c.grammar.ensures.lawful c.args.rule c.requires.within c.args.deps.now c.requires.table;
}

-- a rule has two parts at most, of 256 reads each
pub overflow_cast-result : goal.overflow_cast-result
overflow_cast-result c =
    let few : length c.reads.result.now ≤ 512 =
    subst (λ (xs : List DepRead). length xs ≤ 512) (sym c.reads.ensures.reads)
    (few_in_row c.args.checked.now c.grammar.ensures.lawful c.args.rule c.requires.within c.args.deps.now c.requires.table) in
    grind (arith, common_steps)

pub returns : goal.returns
returns c = record {
  count = ap length
      (c.reads.ensures.reads
      ∙ reads_in_row c.args.checked.now c.grammar.ensures.lawful c.args.rule c.requires.within c.args.deps.now c.requires.table);
}
