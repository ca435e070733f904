-- What the tables and the rows of nodes tell of the counts.
use Rattle.std.proofs.Common.{◌≡◌, ℕ, zero, suc, ◌<◌, ◌≤◌, All, Bool, true, false, List, length, map, length-append, refl, sym, ◌∙◌, ap, subst, arith}
use Rattle.std.specs.Bool.{OnTrue}
use Rattle.std.proofs.lemmas.List.{length-map}
use Rattle.std.proofs.lemmas.List.Elements.{All-map, All-same}
use Rattle.std.proofs.lemmas.List.FromFn.{length-map-range_with_len}
use Rattle.ftl_model.specs.layout.AttributeGrammar.{AttributeGrammar, attributes_of}
use Rattle.ftl_model.specs.layout.Path.{Has, at, down, kid_at, kids_at, node_at, number_of}
use Rattle.ftl_model.specs.layout.Tree.{Forest, below_of, size}
use Rattle.ftl_model.specs.layout.TreeOf.{IsTreeOf}
use Rattle.ftl_model.proofs.layout.Standing.{node_at-number_of, number_of-lt}
use Rattle.ftl_order.specs.orders.Lawful.{class_of_rule}
use Rattle.ftl_order.proofs.orders.Kids.{kid_exists}
use Rattle.ftl_deps.specs.parts.RuleParts.{all_parts, parts_meant, parts_named}
use Rattle.ftl_deps.specs.declared.parts.rule_parts.RuleParts.{RuleParts}
use Rattle.ftl_visit.specs.step_reads.StepReads.{HasFewReads}
use Rattle.ftl_visit.specs.rule_tables.RuleTables.{by_number}
use Rattle.ftl_step_value.specs.limits.reads.ReadTables.{IsSound, rule_at}
use Rattle.ftl_step_value.proofs.limits.reads.Entries.{entry, whole}
use Rattle.ftl_step_value.proofs.limits.reads.RuleReads.{parts_at, rule_may_stand}
use Rattle.ftl_step_value.specs.limits.faults.ReadBound.{KidsWithin, PartsWithin}
use Rattle.ftl_step_value.specs.declared.limits.faults.bound.RuleBound.{RuleBound}
use Rattle.ftl_step_value.proofs.limits.faults.NoFault.{RulesWithin, WidthsWithin}

-- what holds at true, where it does
pub on_true : {P : Type 0} (b : Bool) → (b ≡ true → P) → OnTrue b P
on_true true holds = holds refl
on_true false holds = tt

-- where no node has a greater number among the kids of its child, no child has more kids
pub kids_within : (g : AttributeGrammar) (t : Forest) (most : ℕ) → IsTreeOf g t
    → ((node : ℕ) → node < size t → kid_at (node_at t node) < most) → KidsWithin t most
kids_within g t most fits low p c here = by (kids_at t p c) refl
  where
    by : (n : ℕ) → kids_at t p c ≡ n → n ≤ most
    by zero is = omega arith
    by (suc k) is =
        let q = down c k p in
        let there : Has t q = kid_exists c k (below_of (at t p)) (omega (arith, is)) in
        let number = number_of-lt t q there in
        let all = whole g t fits in
        let last = low (number_of t q) (omega (arith, number, all)) in
        let kid = ap kid_at (node_at-number_of t q there) in
        omega (arith, last, kid)

module _ (g : AttributeGrammar) (sound : IsSound g) where
  -- the parts in the table have few reads each
  pub few_reads : (rows : List RuleParts) → map parts_meant rows ≡ all_parts g
      → All (λ parts. HasFewReads (parts_meant parts)) rows
  few_reads rows are r d below =
      let long : length rows ≡ length g.rules =
      sym (length-map rows parts_meant) ∙ ap length are ∙ length-map g.rules (parts_named g) in
      let known : r < length g.rules = omega (arith, below, long) in
      subst HasFewReads (sym (parts_at g rows r d are known).1)
      (rule_may_stand g sound (class_of_rule (rule_at g r)) r known refl).few

  -- the rows of attributes are short
  pub narrow_rows : (rows : List (List ℕ)) → rows ≡ by_number (attributes_of g) g.class_count
      → All (λ row. length row ≤ 128) rows
  narrow_rows rows are k d below =
      let long : length rows ≡ g.class_count =
      ap length are ∙ length-map-range_with_len (attributes_of g) 0 g.class_count in
      let known : k < g.class_count = omega (arith, below, long) in
      let row = ap length ((entry (attributes_of g) g.class_count rows k are known).is d) in
      let both = length-append (g.shared (g.interface k)) (g.private k) in
      let shared = sound.limits.shared (g.interface k) (sound.law.interfaces_known k known) in
      let own = sound.limits.private k known in
      omega (arith, row, both, shared, own)

-- the bound of the table is one of the rules
pub rules_within : (g : AttributeGrammar) (b : RuleBound) (rows : List RuleParts) → map parts_meant rows ≡ all_parts g
    → All (λ parts. PartsWithin b (parts_meant parts)) rows → RulesWithin g b
rules_within g b rows are within =
    All-same (PartsWithin b) (all_parts g) (map parts_meant rows) (sym are)
    (All-map (PartsWithin b) parts_meant rows within)

-- and so is that of the widths
pub widths_within : (g : AttributeGrammar) (widest : ℕ) (rows : List (List ℕ))
    → rows ≡ by_number (attributes_of g) g.class_count → All (λ row. length row ≤ widest) rows → WidthsWithin g widest
widths_within g widest rows are within k known =
    let at = entry (attributes_of g) g.class_count rows k are known in
    let low = within k (attributes_of g k) at.within in
    let row = ap length (at.is (attributes_of g k)) in
    omega (arith, low, row)
