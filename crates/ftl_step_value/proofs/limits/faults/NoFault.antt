-- Counts that rule out each fault.
use Rattle.std.proofs.Common.{◌≡◌, ℕ, ◌+◌, ◌*◌, ◌<◌, ◌≤◌, nat_lt, false, All, length, None, Some, if◌then◌else◌, refl, ap, ap₂, inl, inr, arith}
use Rattle.std.specs.List.{range_with_len}
use Rattle.std.specs.Option.{option_map, option_or}
use Rattle.std.proofs.lemmas.Bool.{le-ltb}
use Rattle.std.proofs.lemmas.List.{length-map}
use Rattle.std.proofs.lemmas.List.Elements.{All-contains, All-filter}
use Rattle.ftl_model.proofs.lists.FirstAlong.{along_none}
use Rattle.ftl_model.proofs.lists.Rising.{map_has}
use Rattle.ftl_model.specs.layout.AttributeGrammar.{AttributeGrammar, Parts, RuleName, Sort, attributes_of, first_then, fold_over, for_child, for_self, inherited, input, local, plain, read_occurrences, synthesized}
use Rattle.ftl_model.specs.layout.Path.{Has, Path, class_at, down, kids_at, top}
use Rattle.ftl_model.specs.layout.Solves.{Instance, instance_of, seen_from}
use Rattle.ftl_model.specs.layout.Table.{instance_count, instances}
use Rattle.ftl_model.specs.layout.Tree.{Forest, size}
use Rattle.ftl_model.specs.layout.TreeOf.{IsTreeOf}
use Rattle.ftl_order.specs.orders.Lawful.{IsLawful, IsRule, OfClass, PartsForChild}
use Rattle.ftl_order.specs.orders.Reads.{equation_reads}
use Rattle.ftl_order.specs.orders.Schedule.{Schedule}
use Rattle.ftl_order.proofs.orders.Kids.{class_known, root_there}
use Rattle.ftl_order.proofs.orders.TreeEquations.{kid_rule, own_rule, root_inherits_nothing}
use Rattle.ftl_items.specs.stage_items.Limits.{first_wide_step, is_of_stage, read_count, stage_read_count, steps_of_stage}
use Rattle.ftl_deps.specs.parts.RuleParts.{all_parts, parts_named}
use Rattle.ftl_step_value.specs.limits.faults.PlanFaults.{fault_past, step_too_wide, too_many_reads}
use Rattle.ftl_step_value.specs.limits.faults.ReadBound.{HasNoFault, KidsWithin, PartsWithin}
use Rattle.ftl_step_value.specs.declared.limits.faults.bound.RuleBound.{RuleBound}
use Rattle.ftl_step_value.specs.declared.limits.faults.fault.PlanFault.{PlanFault}
use Rattle.ftl_step_value.specs.declared.limits.faults.fault.PlanFault.TheVariants.{TooManyReads, StepTooWide}
use Rattle.ftl_step_value.proofs.limits.faults.InstanceSums.{each_instance, find_none, sum_of_instances, sum_of_part}
use Rattle.ftl_step_value.proofs.limits.faults.KidSums.{kids_in_one, kids_of}
use Rattle.ftl_step_value.proofs.limits.faults.PartReads.{IsNoFold, reads_at_most, reads_once}

-- the parts of all rules are within a bound
abbrev pub RulesWithin : AttributeGrammar → RuleBound → Type 0
RulesWithin g b = All (PartsWithin b) (all_parts g)

-- no class has more attributes
abbrev pub WidthsWithin : AttributeGrammar → (widest : ℕ) → Type 0
WidthsWithin g n = (class : ℕ) → class < g.class_count → length (attributes_of g class) ≤ n

-- a rule for kids is no fold
no_fold : (g : AttributeGrammar) (k c : ℕ) (parts : Parts) → PartsForChild g k c parts → IsNoFold parts
no_fold g k c (plain reads) may = tt
no_fold g k c (first_then first later) may = tt
no_fold g k c (fold_over d start step) may = absurd may

-- a number within the limit is no fault
within_limit : (limit n : ℕ) (fault : ℕ → PlanFault) → n ≤ limit → fault_past limit fault n ≡ None
within_limit limit n fault low = ap (λ b. if b then Some (fault n) else None) (le-ltb limit n low)

module _ (g : AttributeGrammar) (law : IsLawful g) (t : Forest) (fits : IsTreeOf g t) (b : RuleBound)
    (rules : RulesWithin g b) where
  -- the parts of each rule are within the bound
  rule_within : (w : RuleName) → IsRule g w → PartsWithin b (parts_named g w)
  rule_within w is =
      All-contains (PartsWithin b) _ (parts_named g w) rules (map_has (parts_named g) g.rules w (law.rules_have w is))

  -- a rule of the node's own class, which may be a fold
  self_low : (p : Path) (a most : ℕ) → ((c : ℕ) → kids_at t p c ≤ most) → IsRule g (for_self (class_at t p) a)
      → length (equation_reads g t synthesized p a) ≤ b.once + b.each * most
  self_low p a most few is =
      let parts = (g.self_rule (class_at t p) a).parts in
      let long = length-map (read_occurrences parts (kids_at t p) 0) (seen_from p) in
      let low = reads_at_most b (kids_at t p) most few parts 0 (rule_within (for_self (class_at t p) a) is) in
      omega (arith, long, low)

  -- an equation, by the sort of its attribute
  by_sort : (sort : Sort) (p : Path) (a most : ℕ) → g.sort a ≡ sort → ((c : ℕ) → kids_at t p c ≤ most) → Has t p
      → OfClass g (class_at t p) a → length (equation_reads g t sort p a) ≤ b.once + b.each * most
  by_sort input p a most is few here of = omega arith
  by_sort inherited top a most is few here of = absurd (root_inherits_nothing g law t fits a here of is)
  by_sort inherited (down c k q) a most is few here of =
      let class = class_at t q in
      let parts = (g.child_rule class c a).parts in
      let rule = kid_rule g law t fits c k q a here of is in
      let long = length-map (read_occurrences parts (kids_at t q) k) (seen_from q) in
      let low = reads_once b (kids_at t q) parts k (rule_within (for_child class c a) rule)
      (no_fold g class c parts (law.child_parts class c a rule)) in
      omega (arith, long, low)
  by_sort synthesized p a most is few here of = self_low p a most few (own_rule g t fits p a here of (inl is))
  by_sort local p a most is few here of = self_low p a most few (own_rule g t fits p a here of (inr is))

  -- an instance reads at most so much, by how many kids its node has in a child
  instance_low : (most : ℕ) (p : Path) (a : ℕ) → ((c : ℕ) → kids_at t p c ≤ most) → Has t p
      → OfClass g (class_at t p) a → read_count g t (instance_of p a) ≤ b.once + b.each * most
  instance_low most p a few here of = by_sort (g.sort a) p a most refl few here of

  -- all steps of a stage read at most so much in all
  stage_low : (widest : ℕ) → WidthsWithin g widest → (s : Schedule) (k : ℕ)
      → stage_read_count g t s k ≤ b.once * instance_count g t + b.each * widest * size t
  stage_low widest narrow s k =
      let part = sum_of_part (read_count g t) (is_of_stage g s k) (instances g t) in
      let all = sum_of_instances g t (read_count g t) b.once b.each widest
      (λ p a here of. instance_low (kids_of t p) p a (kids_in_one t p) here of)
      (λ p here. narrow (class_at t p) (class_known g t fits p here)) (root_there g t fits) in
      omega (arith, part, all)

  -- where each step is within the limit, no stage has a wide one
  none_wide : (most : ℕ) → KidsWithin t most → b.once + b.each * most ≤ 1048576 → (s : Schedule) (k : ℕ)
      → first_wide_step g t s k 1048576 ≡ None
  none_wide most kids low s k =
      let wide = λ (i : Instance). nat_lt 1048576 (read_count g t i) in
      find_none wide (steps_of_stage g t s k)
      (All-filter (is_of_stage g s k) (λ i. wide i ≡ false) (instances g t)
      (each_instance g t (λ i. wide i ≡ false) (root_there g t fits)
      (λ p a here of.
      let one = instance_low most p a (λ c. kids p c here) here of in
      le-ltb 1048576 (read_count g t (instance_of p a)) (omega (arith, one, low)))))

  -- the counts rule out each fault
  pub no_fault : (widest most : ℕ) → WidthsWithin g widest → KidsWithin t most
      → b.once * instance_count g t + b.each * widest * size t ≤ 67108864 → b.once + b.each * most ≤ 1048576
      → HasNoFault g t
  no_fault widest most narrow kids total step s =
      ap₂ option_or
      (along_none (too_many_reads g s t) (range_with_len 0 (length s))
      (λ k at.
      within_limit 67108864 (stage_read_count g t s k) (TooManyReads (k + 1))
      (let all = stage_low widest narrow s k in omega (arith, all, total))))
      (along_none (step_too_wide g s t) (range_with_len 0 (length s))
      (λ k at. ap (option_map (λ i. StepTooWide (k + 1) (read_count g t i))) (none_wide most kids step s k)))
