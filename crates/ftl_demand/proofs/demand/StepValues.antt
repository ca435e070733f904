-- What a step reads and gives, by the parts of its rule.
use Rattle.std.proofs.Common.{◌≡◌, ℕ, ◌<◌, List, None, flat_map, map, get_or, refl, sym, ap, ◌∙◌, subst, arith, Contains, true}
use Rattle.std.specs.List.{range_with_len}
use Rattle.std.proofs.lemmas.List.Elements.{Contains-append_left, Contains-append_right}
use Rattle.ftl_deps.specs.parts.RuleParts.{parts_named, read_meant}
use Rattle.ftl_deps.specs.reads.Meant.{meant}
use Rattle.ftl_meaning.specs.faults.Checked.{CheckedGrammar}
use Rattle.ftl_meaning.specs.faults.FirstFault.{first_fault}
use Rattle.ftl_meaning.specs.grammars.Meaning.{sight}
use Rattle.ftl_model.proofs.lists.Elements.{flat_map_has, range_has}
use Rattle.ftl_model.proofs.lists.Rising.{map_has}
use Rattle.ftl_model.specs.layout.AttributeGrammar.{Occurrence, Part, Parts, Read, Rule, fold_over, read_occurrences, reads_in, seen_by}
use Rattle.ftl_model.specs.layout.Path.{Path, node_at}
use Rattle.ftl_model.specs.layout.Solves.{seen_from}
use Rattle.ftl_model.specs.layout.Table.{value_in}
use Rattle.ftl_model.specs.layout.TreeOf.{IsTreeOf}
use Rattle.ftl_model.specs.layout.Values.{Value, overflow}
use Rattle.ftl_order.specs.declared.steps.step.Step.{Step}
use Rattle.ftl_order.specs.orders.Lawful.{EachMay, IsLawful}
use Rattle.ftl_order.specs.orders.Reads.{reads_of}
use Rattle.ftl_order.specs.steps.Steps.{IsStepOf, rule_at, target_of}
use Rattle.ftl_step_value.proofs.cells.SeenReads.{part_there}
use Rattle.ftl_step_value.proofs.cells.StepCells.{step_cells}
use Rattle.ftl_step_value.proofs.cells.StepRules.{step_reads, target_there}
use Rattle.ftl_step_value.proofs.value.StepRuleValues.{meant_is, rule_of_grammar, step_gives}
use Rattle.ftl_step_value.specs.cells.ReadCells.{filled_cell}
use Rattle.ftl_step_value.specs.cells.Seen.{EachIsSeen}
use Rattle.ftl_step_value.specs.value.Sites.{IsPartFor}
use Rattle.ftl_tree.specs.trees.CheckedTree.{CheckedTree}
use Rattle.ftl_visit.specs.rule_values.PartValues.{IsRuleOf, has_part, meant_rule, part_of, part_value, value_by_parts}
use Rattle.ftl_visit.specs.step_reads.StepReads.{IsOfChildren, children_in, kids_in}
use Rattle.ftl_demand.specs.declared.demand.waiting.NodeAttr.{NodeAttr}
use Rattle.ftl_demand.specs.declared.demand.waiting.Outcome.{Outcome}
use Rattle.ftl_demand.specs.declared.demand.waiting.Outcome.TheVariants.{Done, Lacks}
use Rattle.ftl_demand.specs.declared.demand.waiting.PartReads.{PartReads}
use Rattle.ftl_demand.specs.demand.Outcomes.{IsLacking, IsPartOutcome, IsStepOutcome, instances_seen, value_at}
use Rattle.ftl_demand.specs.demand.Sites.{IsPartOf, instance_at}
use Rattle.ftl_demand.specs.demand.Words.{IsSolution}
use Rattle.ftl_demand.proofs.demand.WaitingSteps.{map_in}

-- the value of a rule is made of those of its parts
abbrev pub ByParts : Type 0
ByParts =
    (c : CheckedGrammar) (rule : ℕ) → IsRuleOf c rule → (kids : ℕ → ℕ) (number : ℕ) (values : Occurrence → Value)
    → (meant_rule c rule).value kids number values
    ≡ value_by_parts (meant_rule c rule).parts (part_value c rule) kids number values

module _ (t : CheckedTree) (law : IsLawful (meant t.checked)) (fits : IsTreeOf (meant t.checked) t.tree)
    (none : first_fault t.checked.grammar ≡ None) (x : Step) (is : IsStepOf (meant t.checked) t.tree x) (parts : Parts)
    (are : parts_named (meant t.checked) (rule_at (meant t.checked) x.rule) ≡ parts) where
  abbrev kids : ℕ → ℕ
  kids = kids_in t x.node

  abbrev p : Path
  p = node_at t.tree x.node

  pub rule_is : IsRuleOf t.checked x.rule
  rule_is = rule_of_grammar t.checked none x.rule is.rule

  -- the parts of the rule of its number
  pub rule_parts : (meant_rule t.checked x.rule).parts ≡ parts
  rule_parts = ap (λ (r : Rule). r.parts) (meant_is t.checked none x.rule is.rule) ∙ are

  pub has_it : (which : Part) → has_part parts which ≡ true
      → has_part (meant_rule t.checked x.rule).parts which ≡ true
  has_it which has = ap (λ q. has_part q which) rule_parts ∙ has

  pub reads_are : (which : Part) (reads : List Read) → reads_in parts which ≡ reads
      → reads_in (meant_rule t.checked x.rule).parts which ≡ reads
  reads_are which reads same = ap (λ q. reads_in q which) rule_parts ∙ same

  -- what is read is there
  pub all_there : EachIsSeen t x.node (read_occurrences parts kids x.kid)
  all_there = (step_cells t law fits x is parts (sym are)).all

  -- the value that solves is the rule's, by its parts
  pub value_is : ByParts → (values : List Value) → IsSolution (meant t.checked) t.tree values
      → get_or values (filled_cell (meant t.checked) t.tree x) overflow
      ≡ value_by_parts parts (part_value t.checked x.rule) kids x.kid (value_at t values x.node)
  value_is by_parts values solved =
      let g = meant t.checked in
      let s = value_in g t.tree values in
      solved.solves.solves (target_of g t.tree x) (target_there g law t.tree fits x is)
      ∙ step_gives g law t.tree fits s x is
      ∙ sym
      (ap (λ (r : Rule). r.value kids x.kid (λ o. s (seen_from p o))) (meant_is t.checked none x.rule is.rule))
      ∙ by_parts t.checked x.rule rule_is kids x.kid (λ o. s (seen_from p o))
      ∙ ap (λ q. value_by_parts q (part_value t.checked x.rule) kids x.kid (λ o. s (seen_from p o))) rule_parts

  -- what one of its parts lacks the step lacks
  pub lacks : (os : List Occurrence)
      → ((o : Occurrence) → Contains os o → Contains (read_occurrences parts kids x.kid) o)
      → (words : List ℕ) (y : NodeAttr) → IsLacking t words (instances_seen t x.node os) y
      → IsLacking t words (reads_of (meant t.checked) t.tree (target_of (meant t.checked) t.tree x)) y
  lacks os among words y h =
      let g = meant t.checked in
      let from = map_in (seen_from p) os (instance_at t y) h.read in
      record {
        known = h.known;
        read =
            subst (λ is. Contains is (instance_at t y))
            (sym
            (step_reads g law t.tree fits x is
            ∙ ap (λ q. map (seen_from p) (read_occurrences q kids x.kid)) are))
            (subst (Contains (map (seen_from p) (read_occurrences parts kids x.kid))) from.2
            (map_has (seen_from p) (read_occurrences parts kids x.kid) from.0 (among from.0 from.1)));
        none = h.none;
      }

-- where one part alone is for the kid, the step gives what the part gives
module _ (t : CheckedTree) (law : IsLawful (meant t.checked)) (fits : IsTreeOf (meant t.checked) t.tree)
    (none : first_fault t.checked.grammar ≡ None) (y : PartReads) (is : IsStepOf (meant t.checked) t.tree y.step)
    (at : y.at_hand ≡ y.step.kid)
    (alone : IsPartFor (parts_named (meant t.checked) (rule_at (meant t.checked) y.step.rule)) y.step.kid
    (part_of y.part)
    (map read_meant y.reads.now)) where
  abbrev parts_of : Parts
  parts_of = parts_named (meant t.checked) (rule_at (meant t.checked) y.step.rule)

  abbrev kids_of : ℕ → ℕ
  kids_of = kids_in t y.step.node

  pub part_is : EachMay (IsOfChildren (children_in t y.step.node)) (map read_meant y.reads.now) → IsPartOf t y
  part_is may = record {
    node = is.node;
    rule = rule_is t law fits none y.step is parts_of refl;
    has = has_it t law fits none y.step is parts_of refl (part_of y.part) alone.has;
    reads =
        reads_are t law fits none y.step is parts_of refl (part_of y.part) (map read_meant y.reads.now) alone.reads_are;
    there =
        part_there t y.step.node y.at_hand (map read_meant y.reads.now) may
        (subst (EachIsSeen t y.step.node)
        (alone.sees kids_of ∙ ap (λ k. seen_by kids_of k (map read_meant y.reads.now)) (sym at))
        (all_there t law fits none y.step is parts_of refl));
  }

  pub outcome_is : ByParts → (words : List ℕ) (so_far : Value) → so_far ≡ overflow → (o : Outcome)
      → IsPartOutcome t words y so_far o → IsStepOutcome t words y.step o
  outcome_is by_parts words so_far nothing (Done v) given = λ values solved.
      let see = value_at t values y.step.node in
      let value = part_value t.checked y.step.rule in
      given values solved
      ∙ ap (λ k. value (part_of y.part) (sight kids_of k see so_far)) at
      ∙ ap (λ (w : Value). value (part_of y.part) (sight kids_of y.step.kid see w)) nothing
      ∙ sym (alone.gives value kids_of see)
      ∙ sym (value_is t law fits none y.step is parts_of refl by_parts values solved)
  outcome_is by_parts words so_far nothing (Lacks z) given =
      lacks t law fits none y.step is parts_of refl (seen_by kids_of y.at_hand (map read_meant y.reads.now))
      (λ o h.
      subst (λ os. Contains os o)
      (ap (λ k. seen_by kids_of k (map read_meant y.reads.now)) at ∙ sym (alone.sees kids_of)) h)
      words z given

-- what the parts of a fold read the fold reads
pub start_read : (kids : ℕ → ℕ) (kid c : ℕ) (start step : List Read) (o : Occurrence)
    → Contains (seen_by kids kid start) o → Contains (read_occurrences (fold_over c start step) kids kid) o
start_read kids kid c start step o h =
    Contains-append_left (seen_by kids kid start)
    (flat_map (λ n. seen_by kids n step) (range_with_len 0 (kids c))) o h

pub step_read : (kids : ℕ → ℕ) (kid c : ℕ) (start step : List Read) (n : ℕ) → n < kids c → (o : Occurrence)
    → Contains (seen_by kids n step) o → Contains (read_occurrences (fold_over c start step) kids kid) o
step_read kids kid c start step n below o h =
    Contains-append_right (seen_by kids kid start)
    (flat_map (λ n. seen_by kids n step) (range_with_len 0 (kids c))) o
    (flat_map_has (λ n. seen_by kids n step) (range_with_len 0 (kids c)) n o
    (range_has 0 (kids c) n (omega arith) (omega (arith, below))) h)
