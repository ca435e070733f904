-- What comes behind the operations of an inorder visit.
use Rattle.std.proofs.Common.{◌≡◌, ℕ, suc, ◌+◌, List, [], ◌∷◌, ◌++◌, flat_map, Option, Some, None, ◌∙◌, ap, append_assoc}
use Rattle.std.specs.List.{range_with_len}
use Rattle.std.specs.Option.{option_map, option_to_list}
use Rattle.ftl_model.specs.layout.AttributeGrammar.{AttributeGrammar, Sort, inherited, input, local, synthesized}
use Rattle.ftl_schedule.specs.declared.syntax.kind.PassKind.TheVariants.{InOrder}
use Rattle.ftl_visit.specs.visits.Visits.{child_block, inherited_rule, inherited_rules, local_rule, locals, rule_number, synthesized_rule, synthesized_rules, visit_of}
use Rattle.ftl_visit.specs.declared.visits.visit_op.VisitOp.{VisitOp}
use Rattle.ftl_visit.specs.declared.visits.visit_op.VisitOp.TheVariants.{Begin, Rule, Visit}

-- each operation is a rule
abbrev pub AreRules : List VisitOp → Type 0
AreRules [] = Unit {0}
AreRules (Rule r ∷ ops) = AreRules ops
AreRules (Begin c ∷ ops) = ⊥
AreRules (Visit c ∷ ops) = ⊥

both_rules : (xs ys : List VisitOp) → AreRules xs → AreRules ys → AreRules (xs ++ ys)
both_rules [] ys a b = b
both_rules (Rule r ∷ xs) ys a b = both_rules xs ys a b
both_rules (Begin c ∷ xs) ys a b = absurd a
both_rules (Visit c ∷ xs) ys a b = absurd a

flat_rules : (f : ℕ → List VisitOp) (ns : List ℕ) → ((n : ℕ) → AreRules (f n)) → AreRules (flat_map f ns)
flat_rules f [] each = tt
flat_rules f (n ∷ ns) each = both_rules (f n) (flat_map f ns) (each n) (flat_rules f ns each)

one_rule : (found : Option ℕ) → AreRules (option_to_list (option_map Rule found))
one_rule None = tt
one_rule (Some r) = tt

module _ (g : AttributeGrammar) (class : ℕ) (attributes : List ℕ) where
  local_is : (so : Sort) (a : ℕ) → AreRules (local_rule g class so a)
  local_is input a = tt
  local_is inherited a = tt
  local_is synthesized a = tt
  local_is local a = one_rule (rule_number g class None a)

  synthesized_is : (so : Sort) (a : ℕ) → AreRules (synthesized_rule g class so a)
  synthesized_is input a = tt
  synthesized_is inherited a = tt
  synthesized_is synthesized a = one_rule (rule_number g class None a)
  synthesized_is local a = tt

  inherited_is : (c : ℕ) (so : Sort) (a : ℕ) → AreRules (inherited_rule g class c so a)
  inherited_is c input a = tt
  inherited_is c inherited a = one_rule (rule_number g class (Some c) a)
  inherited_is c synthesized a = tt
  inherited_is c local a = tt

  pub locals_are : AreRules (locals g class attributes)
  locals_are = flat_rules (λ a. local_rule g class (g.sort a) a) attributes (λ a. local_is (g.sort a) a)

  pub synthesized_are : AreRules (synthesized_rules g class attributes)
  synthesized_are =
      flat_rules (λ a. synthesized_rule g class (g.sort a) a) attributes (λ a. synthesized_is (g.sort a) a)

  pub inherited_are : (c : ℕ) → AreRules (inherited_rules g class c attributes)
  inherited_are c =
      flat_rules (λ a. inherited_rule g class c (g.sort a) a) attributes (λ a. inherited_is c (g.sort a) a)

  -- the blocks of so many children from this one on, and the synthesized attributes
  abbrev pub blocks_from : (c count : ℕ) → List VisitOp
  blocks_from c count =
      flat_map (child_block g class attributes) (range_with_len c count) ++ synthesized_rules g class attributes

  -- the block of a child without its beginning, and those after it
  abbrev pub block_of : (c count : ℕ) → List VisitOp
  block_of c count = inherited_rules g class c attributes ++ (Visit c ∷ blocks_from (c + 1) count)

  -- the visit is the locals, and the blocks of all children
  pub visit_is : visit_of g InOrder attributes class
      ≡ locals g class attributes ++ blocks_from 0 (g.child_count class)
  visit_is =
      append_assoc (locals g class attributes)
      (flat_map (child_block g class attributes) (range_with_len 0 (g.child_count class)))
      (synthesized_rules g class attributes)

  -- the first block comes first
  pub first_block : (c count : ℕ) → blocks_from c (suc count) ≡ Begin c ∷ block_of c count
  first_block c count =
      ap (λ ops. Begin c ∷ ops)
      (append_assoc (inherited_rules g class c attributes ++ (Visit c ∷ []))
      (flat_map (child_block g class attributes) (range_with_len (c + 1) count)) (synthesized_rules g class attributes)
      ∙ append_assoc (inherited_rules g class c attributes) (Visit c ∷ []) (blocks_from (c + 1) count))
