-- The moves that are left at the operations of an inorder visit.
use Rattle.std.proofs.Common.{◌≡◌, ℕ, zero, suc, ◌+◌, ◌-◌, ◌<◌, ◌≤◌, List, [], ◌∷◌, ◌++◌, flat_map, length, refl, sym, ◌∙◌, ap, ap₂, arith, length-append}
use Rattle.std.specs.List.{range_with_len}
use Rattle.std.proofs.lemmas.List.{append-nil}
use Rattle.std.proofs.lemmas.List.FromFn.{length-range_with_len}
use Rattle.ftl_model.specs.layout.AttributeGrammar.{AttributeGrammar}
use Rattle.ftl_model.specs.layout.Path.{Has, Path, at as tree_at, class_at, kids_at}
use Rattle.ftl_model.specs.layout.Tree.{Forest, below_of}
use Rattle.ftl_model.specs.layout.TreeOf.{IsTreeOf}
use Rattle.ftl_schedule.specs.declared.syntax.kind.PassKind.TheVariants.{InOrder}
use Rattle.ftl_visit.specs.visits.Visits.{children, inherited_rules, locals, synthesized_rules, visit_of}
use Rattle.ftl_visit.specs.declared.visits.visit_op.VisitOp.{VisitOp}
use Rattle.ftl_visit.specs.declared.visits.visit_op.VisitOp.TheVariants.{Begin, Rule, Visit}
use Rattle.ftl_cursors.specs.sequence.Moves.{child_moves, kid_moves, moves, moves_from_child, moves_from_kid, moves_left, moves_up, own_moves}
use Rattle.ftl_cursors.proofs.sequence.MovesByKids.{moves_by_kids}
use Rattle.ftl_cursors.proofs.sequence.VisitShape.{AreRules, block_of, blocks_from, first_block, inherited_are, locals_are, synthesized_are, visit_is}

module _ (g : AttributeGrammar) (t : Forest) (attributes : List ℕ) (start : Path) (p : Path) where
  abbrev class : ℕ
  class = class_at t p

  abbrev up : ℕ
  up = moves_up g t start p

  -- rules are steps
  rules_moved : (k : ℕ) (rules ops : List VisitOp) → AreRules rules
      → moves_left g t start p k (rules ++ ops) ≡ moves_left g t start p k ops
  rules_moved k [] ops are = refl
  rules_moved k (Rule r ∷ rules) ops are = rules_moved k rules ops are
  rules_moved k (Begin c ∷ rules) ops are = absurd are
  rules_moved k (Visit c ∷ rules) ops are = absurd are

  last_moves : moves_left g t start p 0 (synthesized_rules g class attributes) ≡ suc up
  last_moves =
      ap (moves_left g t start p 0) (sym (append-nil (synthesized_rules g class attributes)))
      ∙ rules_moved 0 (synthesized_rules g class attributes) [] (synthesized_are g class attributes)

  -- at the blocks from a child on
  pub blocks_moves : (c count : ℕ) → c + count ≡ g.child_count class
      → moves_left g t start p 0 (blocks_from g class attributes c count) ≡ moves_from_child g t p c up
  blocks_moves c zero all =
      last_moves
      ∙ (let z : suc up ≡ 0 + 0 + suc up = omega arith in z)
      ∙ ap (λ n. length (flat_map (child_moves g t p) (range_with_len c n)) + n + suc up)
      (let z : 0 ≡ g.child_count class - c = omega arith in z)
  blocks_moves c (suc count) all =
      let first = child_moves g t p c in
      let later = flat_map (child_moves g t p) (range_with_len (c + 1) count) in
      let both = length-append first later in
      ap (moves_left g t start p 0) (first_block g class attributes c count)
      ∙ ap₂
      (λ n m. suc
      (length (flat_map (kid_moves g t p c) (range_with_len 0 n))
      + (length (flat_map (child_moves g t p) (range_with_len (c + 1) m)) + m + suc up)))
      (let z : kids_at t p c - 0 ≡ kids_at t p c = omega arith in z)
      (let z : g.child_count class - (c + 1) ≡ count = omega arith in z)
      ∙ (let z : suc (length first + (length later + count + suc up)) ≡ length (first ++ later) + suc count + suc up =
      omega arith in z)
      ∙ ap (λ n. length (flat_map (child_moves g t p) (range_with_len c n)) + n + suc up)
      (let z : suc count ≡ g.child_count class - c = omega arith in z)

  -- at the block of a child, for a kid
  pub block_moves : (c k count : ℕ) → k < kids_at t p c
      → moves_left g t start p k (block_of g class attributes c count) ≡ moves_from_kid g t p c k up
  block_moves c k count there =
      let first = kid_moves g t p c k in
      let later = flat_map (kid_moves g t p c) (range_with_len (k + 1) (kids_at t p c - (k + 1))) in
      let rest = moves_from_child g t p (c + 1) up in
      let both = length-append first later in
      rules_moved k (inherited_rules g class c attributes) (Visit c ∷ blocks_from g class attributes (c + 1) count)
      (inherited_are g class attributes c)
      ∙ (let z : length first + (length later + rest) ≡ length (first ++ later) + rest = omega arith in z)
      ∙ ap (λ n. length (flat_map (kid_moves g t p c) (range_with_len k n)) + rest)
      (let z : suc (kids_at t p c - (k + 1)) ≡ kids_at t p c - k = omega arith in z)

  -- behind the last kid of a child
  pub no_kid_moves : (c k : ℕ) → kids_at t p c ≤ k
      → moves_from_child g t p (c + 1) up ≡ moves_from_kid g t p c k up
  no_kid_moves c k past =
      (let z : moves_from_child g t p (c + 1) up ≡ 0 + moves_from_child g t p (c + 1) up = omega arith in z)
      ∙ ap (λ n. length (flat_map (kid_moves g t p c) (range_with_len k n)) + moves_from_child g t p (c + 1) up)
      (let z : 0 ≡ kids_at t p c - k = omega arith in z)

  -- at the whole visit, once the node has been entered
  pub visit_moves : IsTreeOf g t → Has t p
      → suc (moves_left g t start p 0 (visit_of g InOrder attributes class))
      ≡ length (own_moves g class ++ moves g (below_of (tree_at t p))) + up
  visit_moves fits there =
      let count = g.child_count class in
      let all = flat_map (child_moves g t p) (children g class) in
      let own = length-range_with_len 0 count in
      let both = length-append (own_moves g class) (moves g (below_of (tree_at t p))) in
      let below = ap length (moves_by_kids g t fits p there) in
      let inner : moves_left g t start p 0 (visit_of g InOrder attributes class) ≡ length all + count + suc up =
      ap (moves_left g t start p 0) (visit_is g class attributes)
      ∙ rules_moved 0 (locals g class attributes) (blocks_from g class attributes 0 count)
      (locals_are g class attributes)
      ∙ blocks_moves 0 count (omega arith)
      ∙ ap (λ n. length (flat_map (child_moves g t p) (range_with_len 0 n)) + n + suc up)
      (let z : count - 0 ≡ count = omega arith in z) in
      omega arith
