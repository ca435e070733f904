-- A step gives what its rule gives, and that is by its parts.
use Rattle.std.proofs.Common.{◌≡◌, None, length, map, ap, subst, sym, ◌∙◌}
use Rattle.std.proofs.lemmas.List.{length-map}
use Rattle.std.proofs.lemmas.Simd.{map-map}
use Rattle.ftl_meaning.specs.faults.Checked.{CheckedGrammar}
use Rattle.ftl_meaning.specs.faults.FirstFault.{first_fault}
use Rattle.ftl_deps.specs.reads.Meant.{meant}
use Rattle.ftl_model.specs.layout.AttributeGrammar.{Parts, Rule, read_occurrences}
use Rattle.ftl_model.specs.layout.Path.{node_at}
use Rattle.ftl_model.specs.layout.Solves.{seen_from}
use Rattle.ftl_visit.specs.step_reads.StepReads.{kids_in}
use Rattle.ftl_order.specs.steps.Steps.{rule_at}
use Rattle.ftl_step_value.proofs.cells.StepRules.{seen_at, step_reads, step_rule}
use Rattle.ftl_visit.specs.rule_values.PartValues.{part_value, value_by_parts}
use Rattle.ftl_step_value.specs.value.Sites.{HasEvenStep}
use Rattle.ftl_step_value.proofs.value.StepRuleValues.{even_rule, meant_is, rule_of_grammar, step_gives}
use Rattle.ftl_step_value.proofs.value.step.step_value.Goals as goal

pub parts_value-requires-clause-site : goal.parts_value-requires-clause-site
parts_value-requires-clause-site c =
    let t = c.args.tree.now in
    let none : first_fault t.checked.grammar ≡ None =
    subst (λ (k : CheckedGrammar). first_fault k.grammar ≡ None) c.checked.ensures.grammar c.grammar-lawful.ensures.lawful in
    record {
      node = c.requires.step.node;
      rule = rule_of_grammar t.checked none c.args.step.rule c.requires.step.rule;
      code = c.requires.code;
    }

pub parts_value-requires-clause-parts : goal.parts_value-requires-clause-parts
parts_value-requires-clause-parts c =
    let t = c.args.tree.now in
    let none : first_fault t.checked.grammar ≡ None =
    subst (λ (k : CheckedGrammar). first_fault k.grammar ≡ None) c.checked.ensures.grammar c.grammar-lawful.ensures.lawful in
    c.step_parts-parts.ensures.parts
    ∙ sym (ap (λ (r : Rule). r.parts) (meant_is t.checked none c.args.step.rule c.requires.step.rule))

pub parts_value-requires-clause-even : goal.parts_value-requires-clause-even
parts_value-requires-clause-even c =
    let t = c.args.tree.now in
    let g = meant t.checked in
    let x = c.args.step in
    let law = c.requires.sound.law in
    subst (λ (p : Parts). HasEvenStep (kids_in t x.node) p) (sym c.step_parts-parts.ensures.parts)
    (even_rule g law (kids_in t x.node) (rule_at g x.rule)
    (step_rule g law t.tree c.node_count-nodes.ensures.is_tree x c.requires.step))

pub parts_value-requires-clause-values : goal.parts_value-requires-clause-values
parts_value-requires-clause-values c =
    let t = c.args.tree.now in
    let g = meant t.checked in
    let x = c.args.step in
    let p = node_at t.tree x.node in
    c.requires.reads
    ∙ ap length (step_reads g c.requires.sound.law t.tree c.node_count-nodes.ensures.is_tree x c.requires.step)
    ∙ length-map (seen_at g t.tree (rule_at g x.rule) p x.kid) (seen_from p)
    ∙ ap (λ (parts : Parts). length (read_occurrences parts (kids_in t x.node) x.kid))
    (sym c.step_parts-parts.ensures.parts)

pub returns-clause-value : goal.returns-clause-value
returns-clause-value c = λ s values.
    let t = c.args.tree.now in
    let g = meant t.checked in
    let x = c.args.step in
    let p = node_at t.tree x.node in
    let kids = kids_in t x.node in
    let law = c.requires.sound.law in
    let fits = c.node_count-nodes.ensures.is_tree in
    let none : first_fault t.checked.grammar ≡ None =
    subst (λ (k : CheckedGrammar). first_fault k.grammar ≡ None) c.checked.ensures.grammar c.grammar-lawful.ensures.lawful in
    let same = meant_is t.checked none x.rule c.requires.step.rule in
    let parts = c.step_parts-parts.ensures.parts in
    c.parts_value.ensures.value (λ o. s (seen_from p o))
    (values
    ∙ ap (map s) (step_reads g law t.tree fits x c.requires.step)
    ∙ map-map s (seen_from p) (seen_at g t.tree (rule_at g x.rule) p x.kid)
    ∙ ap (λ (q : Parts). map (λ o. s (seen_from p o)) (read_occurrences q kids x.kid)) (sym parts))
    ∙ ap (λ (q : Parts). value_by_parts q (part_value t.checked x.rule) kids x.kid (λ o. s (seen_from p o)))
    (parts ∙ sym (ap (λ (r : Rule). r.parts) same))
    ∙ sym
    (c.parts_give_the_rule.ensures.value t.checked x.rule (rule_of_grammar t.checked none x.rule c.requires.step.rule)
    kids x.kid (λ o. s (seen_from p o)))
    ∙ ap (λ (r : Rule). r.value kids x.kid (λ o. s (seen_from p o))) same
    ∙ sym (step_gives g law t.tree fits s x c.requires.step)
