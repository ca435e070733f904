-- The cells of a step, by the parts of its rule.
use Rattle.std.proofs.Common.{◌≡◌, ℕ, ◌<◌, ap, map, sym, ◌∙◌, subst, length, None}
use Rattle.std.proofs.lemmas.Simd.{map-map}
use Rattle.ftl_model.specs.layout.AttributeGrammar.{Parts, read_occurrences}
use Rattle.ftl_model.specs.layout.Path.{node_at}
use Rattle.ftl_model.specs.layout.Solves.{seen_from}
use Rattle.ftl_model.specs.layout.Table.{instance_number}
use Rattle.ftl_model.specs.layout.TreeOf.{IsTreeOf}
use Rattle.ftl_order.specs.orders.Lawful.{IsLawful}
use Rattle.ftl_meaning.specs.faults.Checked.{CheckedGrammar, all_rules, rule_info_at}
use Rattle.ftl_meaning.specs.faults.FirstFault.{first_fault}
use Rattle.ftl_meaning.specs.declared.faults.info.RuleInfo.{RuleInfo}
use Rattle.ftl_deps.specs.reads.Meant.{meant}
use Rattle.ftl_deps.specs.reads.Products.{name_of_info}
use Rattle.ftl_deps.proofs.reads.RuleNumbers.{rules_long, info_is}
use Rattle.ftl_deps.specs.parts.RuleParts.{parts_named}
use Rattle.ftl_visit.specs.step_reads.StepReads.{kids_in}
use Rattle.ftl_order.specs.steps.Steps.{IsStepOf, rule_at}
use Rattle.ftl_order.specs.declared.steps.step.Step.{Step}
use Rattle.ftl_tree.specs.trees.CheckedTree.{CheckedTree}
use Rattle.ftl_step_value.specs.cells.ReadCells.{read_cells}
use Rattle.ftl_step_value.specs.cells.Seen.{EachIsSeen, cell_seen}
use Rattle.ftl_step_value.proofs.cells.StepRules.{reads_there, seen_at, step_reads}

-- what a step reads is there, and its cells are these
pub record StepCells (t : CheckedTree) (x : Step) (parts : Parts) : Type 0 where
  pub all : EachIsSeen t x.node (read_occurrences parts (kids_in t x.node) x.kid)
  pub cells : map (cell_seen t x.node) (read_occurrences parts (kids_in t x.node) x.kid)
      ≡ read_cells (meant t.checked) t.tree x

pub step_cells : (t : CheckedTree) → IsLawful (meant t.checked) → IsTreeOf (meant t.checked) t.tree → (x : Step)
    → IsStepOf (meant t.checked) t.tree x
    → (parts : Parts) → parts ≡ parts_named (meant t.checked) (rule_at (meant t.checked) x.rule)
    → StepCells t x parts
step_cells t law fits x is parts are =
    let g = meant t.checked in
    let p = node_at t.tree x.node in
    let os = seen_at g t.tree (rule_at g x.rule) p x.kid in
    subst (StepCells t x) (sym are)
    (record {
      all = reads_there g law t.tree fits x is;
      cells =
          sym
          (ap (map (instance_number g t.tree)) (step_reads g law t.tree fits x is)
          ∙ map-map (instance_number g t.tree) (seen_from p) os);
    })

module _ (t : CheckedTree) (c : CheckedGrammar) (same : c ≡ t.checked) (none : first_fault c.grammar ≡ None) (r : ℕ)
    (within : r < length (meant t.checked).rules) where
  here : r < length (meant c).rules
  here = subst (λ (k : CheckedGrammar). r < length (meant k).rules) (sym same) within

  -- the rule is among those that are known
  pub info_within : r < length (all_rules c.grammar)
  info_within = subst (λ n. r < n) (rules_long c none) here

  -- and its name is what is known
  pub name_is : (i : RuleInfo) → i ≡ rule_info_at c.grammar r → rule_at (meant t.checked) r ≡ name_of_info i
  name_is i told =
      ap (λ (k : CheckedGrammar). rule_at (meant k) r) (sym same)
      ∙ info_is c none r info_within
      ∙ ap name_of_info (sym told)
