-- The part reads what is there, and gives what the step gives.
use Rattle.std.proofs.Common.{◌≡◌, None, map, refl, subst, sym, ap, ◌∙◌}
use Rattle.ftl_deps.specs.parts.RuleParts.{parts_named, read_meant}
use Rattle.ftl_deps.specs.reads.Meant.{meant}
use Rattle.ftl_meaning.specs.faults.Checked.{CheckedGrammar}
use Rattle.ftl_meaning.specs.faults.FirstFault.{first_fault}
use Rattle.ftl_meaning.specs.grammars.Meaning.{sight}
use Rattle.ftl_model.specs.layout.Values.{Value}
use Rattle.ftl_order.specs.steps.Steps.{rule_at}
use Rattle.ftl_step_value.proofs.cells.SeenReads.{part_there}
use Rattle.ftl_step_value.specs.cells.Seen.{EachIsSeen}
use Rattle.ftl_visit.specs.rule_values.PartValues.{part_of, part_value}
use Rattle.ftl_visit.specs.step_reads.StepReads.{kids_in}
use Rattle.ftl_relayout.specs.values.PartSites.{value_at}
use Rattle.ftl_relayout.proofs.values.StepValues.{all_there, has_it, reads_are, rule_is, value_is}
use Rattle.ftl_relayout.proofs.values.step.one_part.Goals as goal

pub part_value-requires-clause-part : goal.part_value-requires-clause-part
part_value-requires-clause-part c =
    let t = c.args.site.now.tree.now in
    let g = meant t.checked in
    let x = c.args.step in
    let parts = parts_named g (rule_at g x.rule) in
    let law = c.requires.site.sound.law in
    let fits = c.node_count-nodes.ensures.is_tree in
    let which = c.requires.part in
    let reads = map read_meant c.args.reads.now in
    let none : first_fault t.checked.grammar ≡ None =
    subst (λ (k : CheckedGrammar). first_fault k.grammar ≡ None) c.checked.ensures.grammar c.grammar-lawful.ensures.lawful in
    record {
      node = c.requires.step.node;
      rule = rule_is t law fits none x c.requires.step parts refl;
      has = has_it t law fits none x c.requires.step parts refl (part_of c.args.part) which.has;
      reads = reads_are t law fits none x c.requires.step parts refl (part_of c.args.part) reads which.reads_are;
      there =
          part_there t x.node x.kid reads c.requires.children
          (subst (EachIsSeen t x.node) (which.sees (kids_in t x.node))
          (all_there t law fits none x c.requires.step parts refl));
      few = c.requires.few;
    }

pub returns-clause-value : goal.returns-clause-value
returns-clause-value c =
    let t = c.args.site.now.tree.now in
    let g = meant t.checked in
    let x = c.args.step in
    let parts = parts_named g (rule_at g x.rule) in
    let law = c.requires.site.sound.law in
    let fits = c.node_count-nodes.ensures.is_tree in
    let kids = kids_in t x.node in
    let s = value_at t c.args.values.now x.node in
    let none : first_fault t.checked.grammar ≡ None =
    subst (λ (k : CheckedGrammar). first_fault k.grammar ≡ None) c.checked.ensures.grammar c.grammar-lawful.ensures.lawful in
    c.part_value.ensures.value
    ∙ ap (λ (v : Value). part_value t.checked x.rule (part_of c.args.part) (sight kids x.kid s v)) c.overflow.ensures.value
    ∙ sym (c.requires.part.gives (part_value t.checked x.rule) kids s)
    ∙ value_is t law fits none x c.requires.step parts refl c.parts_give_the_rule.ensures.value c.args.values.now
