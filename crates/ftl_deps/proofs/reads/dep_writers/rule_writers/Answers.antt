use Rattle.std.proofs.Common.{◌≡◌, ◌<◌, IfOk, List, [], length, map, get_or, ap, ap₂, sym, subst, ◌∙◌}
use Rattle.std.specs.List.{All}
use Rattle.ftl_meaning.specs.faults.Checked.{all_rules}
use Rattle.ftl_meaning.specs.declared.faults.info.RuleInfo.{RuleInfo}
use Rattle.ftl_order.specs.dependencies.DepReads.{dep_table}
use Rattle.ftl_order.specs.dependencies.Writers.{first_writer}
use Rattle.ftl_order.specs.declared.dependencies.dep_read.DepRead.{DepRead}
use Rattle.ftl_deps.specs.reads.Meant.{HasKnownChild, meant}
use Rattle.ftl_deps.proofs.reads.RuleNumbers.{class_known}
use Rattle.ftl_deps.proofs.reads.WriterRows.{kids_of_infos, other_default, reads_long, writers_of_infos}
use Rattle.ftl_deps.proofs.reads.dep_writers.rule_writers.Goals as goal

pub bounds-reads-rule : goal.bounds-reads-rule
bounds-reads-rule c =
    let checked = c.args.checked.now in
    let long : length c.args.reads.now ≡ length (all_rules checked.grammar) =
    ap length c.requires.reads ∙ reads_long checked c.requires.lawful in
    subst (λ n. c.args.rule < n) (sym long) c.requires.within

pub row_writers-requires-clause-within : goal.row_writers-requires-clause-within
row_writers-requires-clause-within c =
    let checked = c.args.checked.now in
    subst (λ (i : RuleInfo). i.class < length checked.grammar.classes) (sym c.rule-class.ensures.info)
    (class_known checked c.requires.lawful c.args.rule c.requires.within)

pub row_writers-requires-clause-children : goal.row_writers-requires-clause-children
row_writers-requires-clause-children c =
    let checked = c.args.checked.now in
    let row : c.as_slice.result.now ≡ get_or c.args.reads.now c.args.rule [] =
    c.as_slice.ensures ∙ c.index-reads-rule.is
    ∙ other_default c.args.reads.now c.args.rule c.index-reads-rule.result []
    (subst (λ n. c.args.rule < n) (sym (ap length c.requires.reads ∙ reads_long checked c.requires.lawful)) c.requires.within) in
    subst (λ (reads : List DepRead). All (HasKnownChild checked.grammar c.rule-class.result.class) reads)
    (sym (row ∙ ap (λ (rows : List (List DepRead)). get_or rows c.args.rule []) c.requires.reads))
    (subst (λ (i : RuleInfo). All (HasKnownChild checked.grammar i.class) (get_or (dep_table (meant checked)) c.args.rule []))
    (sym c.rule-class.ensures.info) (kids_of_infos checked c.requires.lawful c.args.rule c.requires.within))

pub returns : goal.returns
returns c = record {
  writers =
      let checked = c.args.checked.now in
      let row : c.as_slice.result.now ≡ get_or c.args.reads.now c.args.rule [] =
      c.as_slice.ensures ∙ c.index-reads-rule.is
      ∙ other_default c.args.reads.now c.args.rule c.index-reads-rule.result []
      (subst (λ n. c.args.rule < n) (sym (ap length c.requires.reads ∙ reads_long checked c.requires.lawful)) c.requires.within) in
      subst (λ ws. IfOk c.row_writers.result (λ done. done ≡ ws))
      (ap₂ (λ (i : RuleInfo) (reads : List DepRead). map (first_writer (meant checked) i.class) reads)
      c.rule-class.ensures.info
      (row ∙ ap (λ (rows : List (List DepRead)). get_or rows c.args.rule []) c.requires.reads)
      ∙ sym (writers_of_infos checked c.requires.lawful c.args.rule c.requires.within))
      c.row_writers.ensures.writers;
}
