use Rattle.std.proofs.Common.{◌≡◌, sym, ◌∙◌}
use Rattle.ftl_deps.specs.reads.Meant.{meant}
use Rattle.ftl_deps.specs.reads.Products.{name_of_info}
use Rattle.ftl_order.specs.steps.Steps.{rule_at}
use Rattle.ftl_example.proofs.examples.RuleNames.{named_by_test, test_by_name}
use Rattle.ftl_step_value.proofs.cells.StepCells.{info_within, name_is}
use Rattle.ftl_example.proofs.examples.shown_steps.runs_rule.Goals as goal

pub rule-requires : goal.rule-requires
rule-requires c =
    record {
      within =
          info_within c.args.tree.now c.checked-checked.result.now c.checked-checked.ensures.grammar
          c.grammar.ensures.lawful c.args.step.rule c.requires.step.rule;
    }

pub returns : goal.returns
returns c =
    let t = c.args.tree.now in
    let g = meant t.checked in
    let i = c.rule.result in
    let name : rule_at g c.args.step.rule ≡ name_of_info i =
    name_is t c.checked-checked.result.now c.checked-checked.ensures.grammar c.grammar.ensures.lawful c.args.step.rule
    c.requires.step.rule i c.rule.ensures.info in
    record {
      rule = (
        (λ yes. name ∙ named_by_test i c.args.rule (sym c.eq.ensures ∙ yes)),
        (λ e. c.eq.ensures ∙ test_by_name i c.args.rule (sym name ∙ e)),
      );
    }
