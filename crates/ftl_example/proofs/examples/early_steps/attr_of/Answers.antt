use Rattle.std.proofs.Common.{◌≡◌, ℕ, Option, None, Some, refl, sym, ◌∙◌, ap}
use Rattle.ftl_deps.specs.reads.Meant.{meant}
use Rattle.ftl_deps.specs.reads.Products.{name_of_child, name_of_info}
use Rattle.ftl_meaning.specs.declared.faults.info.RuleInfo.{RuleInfo}
use Rattle.ftl_model.specs.layout.AttributeGrammar.{RuleName}
use Rattle.ftl_model.specs.layout.Path.{Path, node_at}
use Rattle.ftl_order.specs.steps.Steps.{rule_at, target_of_rule}
use Rattle.ftl_step_value.proofs.cells.StepCells.{info_within, name_is}
use Rattle.ftl_example.proofs.examples.early_steps.attr_of.Goals as goal

target_attribute : (p : Path) (i : RuleInfo) (k : ℕ) → (target_of_rule p (name_of_info i) k).attribute ≡ i.attr
target_attribute p i k = by i.child
  where
    by : (o : Option ℕ) → (target_of_rule p (name_of_child i.class i.attr o) k).attribute ≡ i.attr
    by None = refl
    by (Some c) = refl

pub rule-requires : goal.rule-requires
rule-requires c =
    record {
      within =
          info_within c.args.tree.now c.checked-checked.result.now c.checked-checked.ensures.grammar
          c.grammar.ensures.lawful c.args.step.rule c.requires.step.rule;
    }

pub returns : goal.returns
returns c =
    let t = c.args.tree.now in
    let g = meant t.checked in
    let x = c.args.step in
    let i = c.rule.result in
    let name : rule_at g x.rule ≡ name_of_info i =
    name_is t c.checked-checked.result.now c.checked-checked.ensures.grammar c.grammar.ensures.lawful x.rule
    c.requires.step.rule i c.rule.ensures.info in
    record {
      attr =
          sym
          (ap (λ (w : RuleName). (target_of_rule (node_at t.tree x.node) w x.kid).attribute) name
          ∙ target_attribute (node_at t.tree x.node) i x.kid);
    }
