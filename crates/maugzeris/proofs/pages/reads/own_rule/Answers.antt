use Rattle.std.proofs.Common.{None, ap, ◌∙◌}
use Rattle.ftl_deps.specs.reads.Meant.{meant}
use Rattle.ftl_step_value.proofs.limits.reads.Entries.{attribute_in_range, class_entry, entry}
use Rattle.ftl_visit.specs.rule_tables.RuleTables.{rules_by_attribute}
use Rattle.ftl_visit.specs.visits.Visits.{rule_number}
use Rattle.maugzeris.proofs.pages.reads.own_rule.Goals as goal

pub bounds-rows-class : goal.bounds-rows-class
bounds-rows-class c =
    let p = c.args.page.now in
    let g = meant p.checked in
    (class_entry g c.tree-known.ensures.lawful p.tree c.tree-known.ensures.is_tree (λ k. rules_by_attribute g k None)
    c.args.node c.requires.node c.class-class.ensures.class (c.as_slice-rows.ensures ∙ c.requires.tables.own)).within

pub bounds-row-attr : goal.bounds-row-attr
bounds-row-attr c =
    let p = c.args.page.now in
    let g = meant p.checked in
    let fits = c.tree-known.ensures.is_tree in
    let law = c.tree-known.ensures.lawful in
    let at = class_entry g law p.tree fits (λ k. rules_by_attribute g k None) c.args.node c.requires.node
    c.class-class.ensures.class (c.as_slice-rows.ensures ∙ c.requires.tables.own) in
    (entry (rule_number g c.class-class.result None) g.attribute_count c.as_slice-row.result.now c.args.attr
    (c.as_slice-row.ensures ∙ c.index-rows-class.is ∙ at.is c.index-rows-class.result)
    (attribute_in_range g law p.tree fits c.args.node c.args.attr c.requires.node c.requires.attribute)).within

pub returns : goal.returns
returns c =
    let p = c.args.page.now in
    let g = meant p.checked in
    let fits = c.tree-known.ensures.is_tree in
    let law = c.tree-known.ensures.lawful in
    let at = class_entry g law p.tree fits (λ k. rules_by_attribute g k None) c.args.node c.requires.node
    c.class-class.ensures.class (c.as_slice-rows.ensures ∙ c.requires.tables.own) in
    record {
      rule =
          (entry (rule_number g c.class-class.result None) g.attribute_count c.as_slice-row.result.now c.args.attr
          (c.as_slice-row.ensures ∙ c.index-rows-class.is ∙ at.is c.index-rows-class.result)
          (attribute_in_range g law p.tree fits c.args.node c.args.attr c.requires.node c.requires.attribute)).is None
          ∙ ap (λ k. rule_number g k None c.args.attr) c.class-class.ensures.class;
    }
