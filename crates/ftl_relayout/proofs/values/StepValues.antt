-- What a step gives, by the parts of its rule.
use Rattle.std.proofs.Common.{◌≡◌, ℕ, None, sym, ap, ◌∙◌, true, List}
use Rattle.ftl_deps.specs.parts.RuleParts.{parts_named}
use Rattle.ftl_deps.specs.reads.Meant.{meant}
use Rattle.ftl_meaning.specs.faults.Checked.{CheckedGrammar}
use Rattle.ftl_meaning.specs.faults.FirstFault.{first_fault}
use Rattle.ftl_model.specs.layout.AttributeGrammar.{Occurrence, Part, Parts, Read, Rule, read_occurrences, reads_in}
use Rattle.ftl_model.specs.layout.Path.{Path, node_at}
use Rattle.ftl_model.specs.layout.Solves.{seen_from}
use Rattle.ftl_model.specs.layout.Table.{value_in}
use Rattle.ftl_model.specs.layout.TreeOf.{IsTreeOf}
use Rattle.ftl_model.specs.layout.Values.{Value}
use Rattle.ftl_order.specs.declared.steps.step.Step.{Step}
use Rattle.ftl_order.specs.orders.Lawful.{IsLawful}
use Rattle.ftl_order.specs.steps.Steps.{IsStepOf, rule_at}
use Rattle.ftl_step_value.proofs.cells.StepCells.{step_cells}
use Rattle.ftl_step_value.proofs.value.StepRuleValues.{meant_is, rule_of_grammar, step_gives}
use Rattle.ftl_step_value.specs.cells.Seen.{EachIsSeen}
use Rattle.ftl_step_value.specs.value.StepValue.{value_of_step}
use Rattle.ftl_tree.specs.trees.CheckedTree.{CheckedTree}
use Rattle.ftl_visit.specs.rule_values.PartValues.{IsRuleOf, has_part, meant_rule, part_value, value_by_parts}
use Rattle.ftl_visit.specs.step_reads.StepReads.{kids_in}
use Rattle.ftl_relayout.specs.values.PartSites.{value_at}

-- the value of a rule is made of those of its parts
abbrev pub ByParts : Type 0
ByParts =
    (c : CheckedGrammar) (rule : ℕ) → IsRuleOf c rule → (kids : ℕ → ℕ) (number : ℕ) (values : Occurrence → Value)
    → (meant_rule c rule).value kids number values
    ≡ value_by_parts (meant_rule c rule).parts (part_value c rule) kids number values

module _ (t : CheckedTree) (law : IsLawful (meant t.checked)) (fits : IsTreeOf (meant t.checked) t.tree)
    (none : first_fault t.checked.grammar ≡ None) (x : Step) (is : IsStepOf (meant t.checked) t.tree x) (parts : Parts)
    (are : parts_named (meant t.checked) (rule_at (meant t.checked) x.rule) ≡ parts) where
  abbrev kids : ℕ → ℕ
  kids = kids_in t x.node

  abbrev p : Path
  p = node_at t.tree x.node

  pub rule_is : IsRuleOf t.checked x.rule
  rule_is = rule_of_grammar t.checked none x.rule is.rule

  -- the parts of the rule of its number
  pub rule_parts : (meant_rule t.checked x.rule).parts ≡ parts
  rule_parts = ap (λ (r : Rule). r.parts) (meant_is t.checked none x.rule is.rule) ∙ are

  pub has_it : (which : Part) → has_part parts which ≡ true
      → has_part (meant_rule t.checked x.rule).parts which ≡ true
  has_it which has = ap (λ q. has_part q which) rule_parts ∙ has

  pub reads_are : (which : Part) (reads : List Read) → reads_in parts which ≡ reads
      → reads_in (meant_rule t.checked x.rule).parts which ≡ reads
  reads_are which reads same = ap (λ q. reads_in q which) rule_parts ∙ same

  -- what is read is there
  pub all_there : EachIsSeen t x.node (read_occurrences parts kids x.kid)
  all_there = (step_cells t law fits x is parts (sym are)).all

  -- the step gives the rule's value, by its parts
  pub value_is : ByParts → (values : List Value)
      → value_by_parts parts (part_value t.checked x.rule) kids x.kid (value_at t values x.node)
      ≡ value_of_step (meant t.checked) t.tree (value_in (meant t.checked) t.tree values) x
  value_is by_parts values =
      let g = meant t.checked in
      let s = value_in g t.tree values in
      sym
      (step_gives g law t.tree fits s x is
      ∙ sym
      (ap (λ (r : Rule). r.value kids x.kid (λ o. s (seen_from p o))) (meant_is t.checked none x.rule is.rule))
      ∙ by_parts t.checked x.rule rule_is kids x.kid (λ o. s (seen_from p o))
      ∙ ap (λ q. value_by_parts q (part_value t.checked x.rule) kids x.kid (λ o. s (seen_from p o))) rule_parts)
