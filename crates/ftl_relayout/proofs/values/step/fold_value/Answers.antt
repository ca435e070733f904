-- The start and the step read what is there, and give what the step gives.
use Rattle.std.proofs.Common.{◌≡◌, None, map, refl, subst, ap, ◌∙◌, ◌<◌, ◌+◌, arith}
use Rattle.ftl_deps.specs.parts.RuleParts.{read_meant}
use Rattle.ftl_meaning.specs.faults.Checked.{CheckedGrammar}
use Rattle.ftl_meaning.specs.faults.FirstFault.{first_fault}
use Rattle.ftl_meaning.specs.grammars.Meaning.{sight}
use Rattle.ftl_model.specs.layout.AttributeGrammar.{fold_over, from_part, with_part}
use Rattle.ftl_model.specs.layout.Folds.{fold_kids}
use Rattle.ftl_model.specs.layout.Values.{Value, overflow}
use Rattle.ftl_step_value.proofs.cells.SeenReads.{start_there, step_there}
use Rattle.ftl_visit.specs.rule_values.PartValues.{part_value}
use Rattle.ftl_visit.specs.step_reads.StepReads.{kids_in}
use Rattle.ftl_relayout.specs.values.PartSites.{value_at}
use Rattle.ftl_relayout.proofs.values.StepValues.{all_there, has_it, reads_are, rule_is, value_is}
use Rattle.ftl_relayout.proofs.values.step.fold_value.Goals as goal

pub part_value-so_far-requires-clause-part : goal.part_value-so_far-requires-clause-part
part_value-so_far-requires-clause-part c =
    let t = c.args.site.now.tree.now in
    let x = c.args.step in
    let f = c.args.fold.now in
    let start = map read_meant f.start.now in
    let step = map read_meant f.each.now in
    let parts = fold_over f.child start step in
    let law = c.requires.site.sound.law in
    let fits = c.node_count-nodes.ensures.is_tree in
    let none : first_fault t.checked.grammar ≡ None =
    subst (λ (k : CheckedGrammar). first_fault k.grammar ≡ None) c.checked.ensures.grammar c.grammar-lawful.ensures.lawful in
    record {
      node = c.requires.step.node;
      rule = rule_is t law fits none x c.requires.step parts c.requires.fold;
      has = has_it t law fits none x c.requires.step parts c.requires.fold from_part refl;
      reads = reads_are t law fits none x c.requires.step parts c.requires.fold from_part start refl;
      there =
          start_there t x.node x.kid start step (kids_in t x.node f.child) c.requires.children.1
          (all_there t law fits none x c.requires.step parts c.requires.fold);
      few = c.requires.few_start;
    }

pub part_value-so_far-requires-in-loop-kid-clause-part : goal.part_value-so_far-requires-in-loop-kid-clause-part
part_value-so_far-requires-in-loop-kid-clause-part c =
    let t = c.args.site.now.tree.now in
    let x = c.args.step in
    let f = c.args.fold.now in
    let start = map read_meant f.start.now in
    let step = map read_meant f.each.now in
    let parts = fold_over f.child start step in
    let law = c.requires.site.sound.law in
    let fits = c.node_count-nodes.ensures.is_tree in
    let m = kids_in t x.node f.child in
    let k = c.loop-kid.kid in
    let below = c.loop-kid-test.true in
    let count = c.kid_count-kid-end.ensures.count in
    let none : first_fault t.checked.grammar ≡ None =
    subst (λ (k : CheckedGrammar). first_fault k.grammar ≡ None) c.checked.ensures.grammar c.grammar-lawful.ensures.lawful in
    record {
      node = c.requires.step.node;
      rule = rule_is t law fits none x c.requires.step parts c.requires.fold;
      has = has_it t law fits none x c.requires.step parts c.requires.fold with_part refl;
      reads = reads_are t law fits none x c.requires.step parts c.requires.fold with_part step refl;
      there =
          step_there t x.node x.kid start step m c.requires.children.2
          (all_there t law fits none x c.requires.step parts c.requires.fold) k (omega arith)
          (let z : k < 0 + m = omega (arith, below, count) in z);
      few = c.requires.few_each;
    }

pub returns-clause-value : goal.returns-clause-value
returns-clause-value c =
    let t = c.args.site.now.tree.now in
    let x = c.args.step in
    let f = c.args.fold.now in
    let parts = fold_over f.child (map read_meant f.start.now) (map read_meant f.each.now) in
    let law = c.requires.site.sound.law in
    let fits = c.node_count-nodes.ensures.is_tree in
    let kids = kids_in t x.node in
    let s = value_at t c.args.values.now x.node in
    let value = part_value t.checked x.rule in
    let past = c.loop-kid-test.false in
    let within = c.loop-kid.auto.kid-end in
    let count = c.kid_count-kid-end.ensures.count in
    let done : c.loop-kid.kid ≡ kids f.child = omega (arith, past, within, count) in
    let none : first_fault t.checked.grammar ≡ None =
    subst (λ (k : CheckedGrammar). first_fault k.grammar ≡ None) c.checked.ensures.grammar c.grammar-lawful.ensures.lawful in
    c.loop-kid.invariant.folded
    ∙ ap (λ n. fold_kids n (λ (so_far : Value) m. value with_part (sight kids m s so_far))
    (value from_part (sight kids x.kid s overflow))) done
    ∙ value_is t law fits none x c.requires.step parts c.requires.fold c.parts_give_the_rule.ensures.value c.args.values.now

pub returns-clause-count : goal.returns-clause-count
returns-clause-count c =
    let past = c.loop-kid-test.false in
    let within = c.loop-kid.auto.kid-end in
    let count = c.kid_count-kid-end.ensures.count in
    let so_far = c.loop-kid.invariant.count in
    omega (arith, past, within, count, so_far)
