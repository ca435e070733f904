-- What is known of the rule is its name, and what the step computes is there.
use Rattle.std.proofs.Common.{◌≡◌, ap, subst, sym, ◌∙◌}
use Rattle.ftl_model.specs.layout.AttributeGrammar.{RuleName, for_child, for_self}
use Rattle.ftl_model.specs.layout.Path.{node_at}
use Rattle.ftl_model.specs.layout.Solves.{IsInstance}
use Rattle.ftl_model.specs.layout.Table.{instance_number}
use Rattle.ftl_deps.specs.reads.Meant.{meant}
use Rattle.ftl_deps.specs.reads.Products.{name_of_child}
use Rattle.ftl_order.specs.steps.Steps.{rule_at, target_of_rule}
use Rattle.ftl_step_value.proofs.cells.StepCells.{name_is, info_within}
use Rattle.ftl_step_value.proofs.cells.StepRules.{target_there}
use Rattle.ftl_step_value.proofs.cells.target.target_cell.Goals as goal

pub rule-rule-requires : goal.rule-rule-requires
rule-rule-requires c =
    record {
      within =
          info_within c.args.tree.now c.checked-checked.result.now c.checked-checked.ensures.grammar
          c.grammar-lawful.ensures.lawful c.args.step.rule c.requires.step.rule;
    }

pub instance-requires-clause-attr : goal.instance-requires-clause-attr
instance-requires-clause-attr c =
    let t = c.args.tree.now in
    let g = meant t.checked in
    let x = c.args.step in
    let i = c.rule-rule.result in
    let name : rule_at g x.rule ≡ for_self i.class i.attr =
    name_is t c.checked-checked.result.now c.checked-checked.ensures.grammar c.grammar-lawful.ensures.lawful x.rule
    c.requires.step.rule i c.rule-rule.ensures.info ∙ ap (name_of_child i.class i.attr) c.in-None.is in
    (subst (λ (w : RuleName). IsInstance g t.tree (target_of_rule (node_at t.tree x.node) w x.kid)) name
    (target_there g c.requires.sound.law t.tree c.node_count-nodes.ensures.is_tree x c.requires.step)).1

pub kid_cell-requires-clause-there : goal.kid_cell-requires-clause-there
kid_cell-requires-clause-there c =
    let t = c.args.tree.now in
    let g = meant t.checked in
    let x = c.args.step in
    let i = c.rule-rule.result in
    let name : rule_at g x.rule ≡ for_child i.class c.in-Some.child i.attr =
    name_is t c.checked-checked.result.now c.checked-checked.ensures.grammar c.grammar-lawful.ensures.lawful x.rule
    c.requires.step.rule i c.rule-rule.ensures.info ∙ ap (name_of_child i.class i.attr) c.in-Some.is in
    subst (λ (w : RuleName). IsInstance g t.tree (target_of_rule (node_at t.tree x.node) w x.kid)) name
    (target_there g c.requires.sound.law t.tree c.node_count-nodes.ensures.is_tree x c.requires.step)

pub returns-in-None : goal.returns-in-None
returns-in-None c =
    let t = c.args.tree.now in
    let g = meant t.checked in
    let x = c.args.step in
    let i = c.rule-rule.result in
    let name : rule_at g x.rule ≡ for_self i.class i.attr =
    name_is t c.checked-checked.result.now c.checked-checked.ensures.grammar c.grammar-lawful.ensures.lawful x.rule
    c.requires.step.rule i c.rule-rule.ensures.info ∙ ap (name_of_child i.class i.attr) c.in-None.is in
    record {
      cell =
          c.instance.ensures.instance
          ∙ ap (λ (w : RuleName). instance_number g t.tree (target_of_rule (node_at t.tree x.node) w x.kid)) (sym name);
    }

pub returns-in-Some : goal.returns-in-Some
returns-in-Some c =
    let t = c.args.tree.now in
    let g = meant t.checked in
    let x = c.args.step in
    let i = c.rule-rule.result in
    let name : rule_at g x.rule ≡ for_child i.class c.in-Some.child i.attr =
    name_is t c.checked-checked.result.now c.checked-checked.ensures.grammar c.grammar-lawful.ensures.lawful x.rule
    c.requires.step.rule i c.rule-rule.ensures.info ∙ ap (name_of_child i.class i.attr) c.in-Some.is in
    record {
      cell =
          c.kid_cell.ensures.cell
          ∙ ap (λ (w : RuleName). instance_number g t.tree (target_of_rule (node_at t.tree x.node) w x.kid)) (sym name);
    }
