-- What is left at the operations of an inorder visit.
use Rattle.std.proofs.Common.{◌≡◌, ℕ, zero, suc, ◌+◌, ◌-◌, ◌<◌, ◌≤◌, List, [], ◌∷◌, ◌++◌, flat_map, refl, sym, ◌∙◌, ap, ap₂, append_assoc, arith}
use Rattle.std.specs.List.{range_with_len}
use Rattle.std.proofs.lemmas.List.{append-nil}
use Rattle.ftl_model.specs.layout.AttributeGrammar.{AttributeGrammar}
use Rattle.ftl_model.specs.layout.Path.{Has, Path, class_at, down, kids_at, number_of}
use Rattle.ftl_model.specs.layout.Tree.{Forest}
use Rattle.ftl_model.specs.layout.TreeOf.{IsTreeOf}
use Rattle.ftl_schedule.specs.declared.syntax.kind.PassKind.TheVariants.{InOrder}
use Rattle.ftl_order.specs.declared.steps.step.Step.{Step}
use Rattle.ftl_cursors.specs.inorder.InorderSteps.{child_steps, first_steps, inorder_steps, kid_steps, last_steps, steps_of_ops}
use Rattle.ftl_cursors.proofs.inorder.StepKids.{steps_kid_by_kid}
use Rattle.ftl_visit.specs.visits.Visits.{children, inherited_rules, locals, synthesized_rules, visit_of}
use Rattle.ftl_visit.specs.declared.visits.visit_op.VisitOp.{VisitOp}
use Rattle.ftl_visit.specs.declared.visits.visit_op.VisitOp.TheVariants.{Begin, Rule, Visit}
use Rattle.ftl_cursors.specs.sequence.SequenceRest.{from_child, from_kid, rest_of_ops, rest_up}
use Rattle.ftl_cursors.proofs.sequence.VisitShape.{AreRules, block_of, blocks_from, first_block, inherited_are, locals_are, synthesized_are, visit_is}

module _ (g : AttributeGrammar) (t : Forest) (attributes : List ℕ) (first : Path) (p : Path) where
  abbrev class : ℕ
  class = class_at t p

  abbrev up : List Step
  up = rest_up g t attributes first p

  -- the steps of rules come first
  pub rules_left : (k : ℕ) (rules ops : List VisitOp) → AreRules rules
      → rest_of_ops g t attributes first p k (rules ++ ops)
      ≡ steps_of_ops (number_of t p) k rules ++ rest_of_ops g t attributes first p k ops
  rules_left k [] ops are = refl
  rules_left k (Rule r ∷ rules) ops are =
      ap (λ xs. record { node = number_of t p; rule = r; kid = k } ∷ xs) (rules_left k rules ops are)
  rules_left k (Begin c ∷ rules) ops are = absurd are
  rules_left k (Visit c ∷ rules) ops are = absurd are

  -- behind the last child
  last_left : rest_of_ops g t attributes first p 0 (synthesized_rules g class attributes) ≡ last_steps g t attributes p ++ up
  last_left =
      ap (rest_of_ops g t attributes first p 0) (sym (append-nil (synthesized_rules g class attributes)))
      ∙ rules_left 0 (synthesized_rules g class attributes) [] (synthesized_are g class attributes)

  -- at the blocks from a child on
  pub blocks_left : (c count : ℕ) → c + count ≡ g.child_count class
      → rest_of_ops g t attributes first p 0 (blocks_from g class attributes c count) ≡ from_child g t attributes p c up
  blocks_left c zero all =
      last_left
      ∙ ap (λ n. flat_map (child_steps g t attributes p) (range_with_len c n) ++ (last_steps g t attributes p ++ up))
      (let z : 0 ≡ g.child_count class - c = omega arith in z)
  blocks_left c (suc count) all =
      ap (rest_of_ops g t attributes first p 0) (first_block g class attributes c count)
      ∙ ap₂
      (λ n m. flat_map (kid_steps g t attributes p c) (range_with_len 0 n)
      ++ (flat_map (child_steps g t attributes p) (range_with_len (c + 1) m) ++ (last_steps g t attributes p ++ up)))
      (let z : kids_at t p c - 0 ≡ kids_at t p c = omega arith in z)
      (let z : g.child_count class - (c + 1) ≡ count = omega arith in z)
      ∙ sym
      (append_assoc (child_steps g t attributes p c)
      (flat_map (child_steps g t attributes p) (range_with_len (c + 1) count)) (last_steps g t attributes p ++ up))
      ∙ ap (λ n. flat_map (child_steps g t attributes p) (range_with_len c n) ++ (last_steps g t attributes p ++ up))
      (let z : suc count ≡ g.child_count class - c = omega arith in z)

  -- at the block of a child, for a kid
  pub block_left : (c k count : ℕ) → k < kids_at t p c
      → rest_of_ops g t attributes first p k (block_of g class attributes c count) ≡ from_kid g t attributes p c k up
  block_left c k count there =
      let rules = inherited_rules g class c attributes in
      let later = flat_map (kid_steps g t attributes p c) (range_with_len (k + 1) (kids_at t p c - (k + 1))) in
      let rest = from_child g t attributes p (c + 1) up in
      let inner = inorder_steps g t attributes (down c k p) in
      rules_left k rules (Visit c ∷ blocks_from g class attributes (c + 1) count) (inherited_are g class attributes c)
      ∙ sym (append_assoc (steps_of_ops (number_of t p) k rules) inner (later ++ rest))
      ∙ sym (append_assoc (kid_steps g t attributes p c k) later rest)
      ∙ ap (λ n. flat_map (kid_steps g t attributes p c) (range_with_len k n) ++ rest)
      (let z : suc (kids_at t p c - (k + 1)) ≡ kids_at t p c - k = omega arith in z)

  -- behind the last kid of a child
  pub no_kid_left : (c k : ℕ) → kids_at t p c ≤ k
      → from_child g t attributes p (c + 1) up ≡ from_kid g t attributes p c k up
  no_kid_left c k past =
      ap (λ n. flat_map (kid_steps g t attributes p c) (range_with_len k n) ++ from_child g t attributes p (c + 1) up)
      (let z : 0 ≡ kids_at t p c - k = omega arith in z)

  -- at the whole visit
  pub visit_left : IsTreeOf g t → Has t p
      → rest_of_ops g t attributes first p 0 (visit_of g InOrder attributes class) ≡ inorder_steps g t attributes p ++ up
  visit_left fits there =
      let front = first_steps g t attributes p in
      let inner = flat_map (child_steps g t attributes p) (children g class) in
      let last = last_steps g t attributes p in
      ap (rest_of_ops g t attributes first p 0) (visit_is g class attributes)
      ∙ rules_left 0 (locals g class attributes) (blocks_from g class attributes 0 (g.child_count class))
      (locals_are g class attributes)
      ∙ ap (λ xs. front ++ xs)
      (blocks_left 0 (g.child_count class) (omega arith)
      ∙ ap (λ n. flat_map (child_steps g t attributes p) (range_with_len 0 n) ++ (last ++ up))
      (let z : g.child_count class - 0 ≡ g.child_count class = omega arith in z)
      ∙ sym (append_assoc inner last up))
      ∙ sym (append_assoc front (inner ++ last) up)
      ∙ ap (λ xs. xs ++ up) (sym (steps_kid_by_kid g t fits attributes p there))
