-- The rules of a lawful grammar may stand at the nodes of their class.
use Rattle.std.proofs.Common.{◌≡◌, ℕ, ◌<◌, ◌≤◌, List, [], length, map, get_or, sym, ◌∙◌, ap, subst, arith}
use Rattle.std.proofs.lemmas.List.{get_or-map, length-map}
use Rattle.std.proofs.lemmas.List.Elements.{Contains-get_or}
use Rattle.ftl_model.specs.layout.AttributeGrammar.{AttributeGrammar, Part, Parts, Read, RuleName, each_read, first_part, first_then, fold_over, for_child, for_self, from_part, last_read, plain, plain_part, prev_read, reads_in, self_read, single_read, then_part, this_read, with_part}
use Rattle.ftl_order.specs.orders.Lawful.{IsLawful, IsRule, MayReadForChild, MayReadForSelf, MayReadInStep, MayReadLater, PartsForChild, PartsForSelf, class_of_rule}
use Rattle.ftl_deps.specs.parts.RuleParts.{all_parts, parts_meant, parts_named}
use Rattle.ftl_deps.specs.declared.parts.rule_parts.RuleParts.{RuleParts}
use Rattle.ftl_visit.specs.step_reads.StepReads.{AreOfChildren, HasFewReads, IsOfChildren}
use Rattle.ftl_step_value.specs.limits.reads.ReadTables.{IsSound, rule_at}

module _ (g : AttributeGrammar) (k : ℕ) where
  own_read : (r : Read) → MayReadForSelf g k r → IsOfChildren (g.child_count k) r
  own_read (self_read a) may = tt
  own_read (single_read c a) may = tt
  own_read (each_read c a) may = tt
  own_read (this_read c a) may = tt
  own_read (prev_read c a) may = tt
  own_read (last_read c a) may = may.0.0

  step_read : (c : ℕ) (r : Read) → MayReadInStep g k c r → IsOfChildren (g.child_count k) r
  step_read c (self_read a) may = tt
  step_read c (single_read d a) may = tt
  step_read c (each_read d a) may = tt
  step_read c (this_read d a) may = tt
  step_read c (prev_read d a) may = tt
  step_read c (last_read d a) may = may.0.0

  kid_read : (c : ℕ) (r : Read) → MayReadForChild g k c r → IsOfChildren (g.child_count k) r
  kid_read c (self_read a) may = tt
  kid_read c (single_read d a) may = tt
  kid_read c (each_read d a) may = tt
  kid_read c (this_read d a) may = tt
  kid_read c (prev_read d a) may = tt
  kid_read c (last_read d a) may = may.1.0

  later_read : (c : ℕ) (r : Read) → MayReadLater g k c r → IsOfChildren (g.child_count k) r
  later_read c (self_read a) may = tt
  later_read c (single_read d a) may = tt
  later_read c (each_read d a) may = tt
  later_read c (this_read d a) may = tt
  later_read c (prev_read d a) may = tt
  later_read c (last_read d a) may = may.1.0

  own_parts : (parts : Parts) → PartsForSelf g k parts → AreOfChildren (g.child_count k) parts
  own_parts (plain reads) may = λ r h. own_read r (may r h)
  own_parts (first_then first later) may = absurd may
  own_parts (fold_over c start step) may =
      (may.0.0, (λ r h. own_read r (may.1 r h)), (λ r h. step_read c r (may.2 r h)))

  kid_parts : (c : ℕ) (parts : Parts) → PartsForChild g k c parts → AreOfChildren (g.child_count k) parts
  kid_parts c (plain reads) may = λ r h. kid_read c r (may r h)
  kid_parts c (first_then first later) may = ((λ r h. kid_read c r (may.1 r h)), (λ r h. later_read c r (may.2 r h)))
  kid_parts c (fold_over d start step) may = absurd may

children_of_rule : (g : AttributeGrammar) → IsLawful g → (w : RuleName) → IsRule g w
    → AreOfChildren (g.child_count (class_of_rule w)) (parts_named g w)
children_of_rule g law (for_self k a) is = own_parts g k (g.self_rule k a).parts (law.self_parts k a is)
children_of_rule g law (for_child k c a) is = kid_parts g k c (g.child_rule k c a).parts (law.child_parts k c a is)

few_by : (parts : Parts) → ((part : Part) → length (reads_in parts part) ≤ 256) → HasFewReads parts
few_by (plain reads) few = few plain_part
few_by (first_then first later) few = (few first_part, few then_part)
few_by (fold_over c start step) few = (few from_part, few with_part)

-- the parts of the rule of a number, which is of this class
pub record MayStand (g : AttributeGrammar) (class : ℕ) (parts : Parts) : Type 0 where
  pub children : AreOfChildren (g.child_count class) parts
  pub few : HasFewReads parts

pub rule_may_stand : (g : AttributeGrammar) → IsSound g → (class r : ℕ) → r < length g.rules
    → class_of_rule (rule_at g r) ≡ class → MayStand g class (parts_named g (rule_at g r))
rule_may_stand g sound class r within of =
    let w = rule_at g r in
    let is = sound.law.rules_are w (Contains-get_or g.rules r (for_self 0 0) within) in
    record {
      children = subst (λ k. AreOfChildren (g.child_count k) (parts_named g w)) of (children_of_rule g sound.law w is);
      few = few_by (parts_named g w) (λ part. sound.limits.reads w part is);
    }

-- the parts that stand at its place
pub parts_at : (g : AttributeGrammar) (rows : List RuleParts) (r : ℕ) (d : RuleParts)
    → map parts_meant rows ≡ all_parts g
    → r < length g.rules → (r < length rows) × (parts_meant (get_or rows r d) ≡ parts_named g (rule_at g r))
parts_at g rows r d are within =
    let long : length rows ≡ length g.rules =
    sym (length-map rows parts_meant) ∙ ap length are ∙ length-map g.rules (parts_named g) in
    let there : r < length rows = omega (arith, long, within) in (
      there,
      sym (get_or-map parts_meant rows r d (plain []) there)
          ∙ ap (λ xs. get_or xs r (plain [])) are
          ∙ get_or-map (parts_named g) g.rules r (for_self 0 0) (plain []) within,
    )
