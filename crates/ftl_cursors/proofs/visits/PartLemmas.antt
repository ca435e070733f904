-- Ranges of nodes in two parts, of which one has no steps.
use Rattle.std.proofs.Common.{◌≡◌, ℕ, zero, suc, ◌+◌, ◌-◌, ◌<◌, ◌≤◌, List, [], ◌∷◌, ◌++◌, bit_and, flat_map, get_or, reverse, Contains, refl, sym, ◌∙◌, ap, ap₂, arith}
use Rattle.std.specs.List.{range_with_len}
use Rattle.std.proofs.lemmas.Grind.{flat_map-append}
use Rattle.std.proofs.lemmas.List.{reverse-append}
use Rattle.ftl_model.specs.layout.Tree.{size}
use Rattle.ftl_model.proofs.lists.Elements.{here_in, in_range_from, later_in}
use Rattle.ftl_items.proofs.stage_items.Reverses.{in_reverse}
use Rattle.ftl_order.specs.declared.steps.step.Step.{Step}
use Rattle.ftl_cursors.specs.classes.ClassSets.{block_of, class_of}
use Rattle.ftl_cursors.specs.visits.NodeParts.{IsFirstPart, IsInBlock}
use Rattle.ftl_cursors.specs.visits.NodeRanges.{nodes_in}
use Rattle.ftl_cursors.specs.visits.Places.{grammar_of, tree_of}
use Rattle.ftl_cursors.specs.visits.SparsePlaces.{AreSparseTables, AreWithin, range_steps, sparse_left}
use Rattle.ftl_cursors.specs.visits.VisitSteps.{ops_at, steps_of_nodes, steps_of_op, steps_of_visit}
use Rattle.ftl_cursors.specs.declared.visits.nodes.NodeOrder.{NodeOrder}
use Rattle.ftl_cursors.specs.declared.visits.nodes.NodeOrder.TheVariants.{Preorder, Reverse}
use Rattle.ftl_cursors.specs.declared.visits.nodes.NodeRange.{NodeRange}
use Rattle.ftl_cursors.specs.declared.visits.sparse_place.SparseTables.{SparseTables}
use Rattle.ftl_cursors.proofs.classes.SetLemmas.{is_empty, none_in_both}

-- a range in two parts
pub range_parts : (first a b : ℕ) → range_with_len first (a + b) ≡ range_with_len first a ++ range_with_len (first + a) b
range_parts first zero b =
    ap (range_with_len first) (let z : 0 + b ≡ b = omega arith in z)
    ∙ ap (λ n. range_with_len n b) (let z : first ≡ first + 0 = omega arith in z)
range_parts first (suc a) b =
    ap (range_with_len first) (let z : suc a + b ≡ suc (a + b) = omega arith in z)
    ∙ ap (λ (ns : List ℕ). first ∷ ns) (range_parts (first + 1) a b
    ∙ ap (λ n. range_with_len (first + 1) a ++ range_with_len n b)
    (let z : (first + 1) + a ≡ first + suc a = omega arith in z))

-- its first nodes and the others
pub front_and_rest : (first count part : ℕ) → part ≤ count
    → nodes_in Preorder first count ≡ nodes_in Preorder first part ++ nodes_in Preorder (first + part) (count - part)
front_and_rest first count part less =
    ap (range_with_len first) (let z : count ≡ part + (count - part) = omega arith in z)
    ∙ range_parts first part (count - part)

-- its last nodes and the others, the other way round
pub back_and_rest : (first count part : ℕ) → part ≤ count
    → nodes_in Reverse first count
    ≡ nodes_in Reverse (first + count - part) part ++ nodes_in Reverse first (count - part)
back_and_rest first count part less =
    ap (λ n. reverse (range_with_len first n)) (let z : count ≡ (count - part) + part = omega arith in z)
    ∙ ap reverse (range_parts first (count - part) part)
    ∙ reverse-append (range_with_len first (count - part)) (range_with_len (first + (count - part)) part)
    ∙ ap (λ n. reverse (range_with_len n part) ++ reverse (range_with_len first (count - part)))
    (let z : first + (count - part) ≡ first + count - part = omega arith in z)

-- an empty range has no nodes
pub no_nodes : (order : NodeOrder) (first count : ℕ) → count ≡ 0 → nodes_in order first count ≡ []
no_nodes Preorder first count none = ap (range_with_len first) none
no_nodes Reverse first count none = ap (λ n. reverse (range_with_len first n)) none

-- the nodes of a range lie in it
pub in_part : (order : NodeOrder) (first count n : ℕ) → Contains (nodes_in order first count) n
    → (first ≤ n) × (n < first + count)
in_part Preorder first count n among = in_range_from first count n among
in_part Reverse first count n among = in_range_from first count n (in_reverse (range_with_len first count) n among)

-- nodes none of which has steps have none
pub none_of : {X Y : Type 0} (f : X → List Y) (ns : List X) → ((n : X) → Contains ns n → f n ≡ []) → flat_map f ns ≡ []
none_of f [] none = refl
none_of f (n ∷ ns) none =
    ap₂ (λ xs ys. xs ++ ys) (none n (here_in n ns)) (none_of f ns (λ m among. none m (later_in n m ns among)))

module _ (x : SparseTables) (are : AreSparseTables x) where
  -- the steps of a range are those of its parts
  pub steps_of_parts : (all rest part : NodeRange) → IsFirstPart x.all.order all rest part
      → range_steps x part ++ range_steps x rest ≡ range_steps x all
  steps_of_parts all rest part parts =
      sym
      (ap (steps_of_nodes (grammar_of x.all) (tree_of x.all) x.all.visits.now) parts.is
      ∙ flat_map-append (steps_of_visit (grammar_of x.all) (tree_of x.all) x.all.visits.now)
      (nodes_in x.all.order part.first part.count) (nodes_in x.all.order rest.first rest.count))

  -- a node of a block without such classes has no operations
  no_ops : (n : ℕ) → n < size (tree_of x.all)
      → bit_and (get_or x.blocks.now (block_of n) 0) x.visited ≡ 0 → ops_at (tree_of x.all) x.all.visits.now n ≡ []
  no_ops n known none =
      is_empty (ops_at (tree_of x.all) x.all.visits.now n)
      (λ some.
      none_in_both (get_or x.blocks.now (block_of n) 0) x.visited (class_of (tree_of x.all) n) none
      (are.blocks.classes n known) (are.visited (class_of (tree_of x.all) n) some))

  -- so the nodes of the block have no steps
  pub no_steps_in : (part : NodeRange) → AreWithin x part → IsInBlock part
      → bit_and (get_or x.blocks.now (block_of part.first) 0) x.visited ≡ 0 → range_steps x part ≡ []
  no_steps_in part within block none =
      none_of (steps_of_visit (grammar_of x.all) (tree_of x.all) x.all.visits.now)
      (nodes_in x.all.order part.first part.count)
      (λ n among.
      let lies = in_part x.all.order part.first part.count n among in
      let low = lies.0 in
      let high = lies.1 in
      let same = block n low high in
      ap (flat_map (steps_of_op (grammar_of x.all) (tree_of x.all) n))
      (no_ops n (omega (arith, high, within))
      (ap (λ m. bit_and (get_or x.blocks.now m 0) x.visited) same ∙ none)))

  -- the part is begun
  pub part_begun : (all rest part : NodeRange) (old new : List Step) → IsFirstPart x.all.order all rest part → old ≡ []
      → new ≡ range_steps x part → sparse_left x rest new ≡ sparse_left x all old
  part_begun all rest part old new parts done begun =
      ap (λ (s : List Step). s ++ range_steps x rest) begun
      ∙ steps_of_parts all rest part parts
      ∙ sym (ap (λ (s : List Step). s ++ range_steps x all) done)

  -- or passed over
  pub part_passed : (all rest part : NodeRange) (old : List Step) → IsFirstPart x.all.order all rest part
      → range_steps x part ≡ [] → sparse_left x rest old ≡ sparse_left x all old
  part_passed all rest part old parts none =
      ap (λ (s : List Step). old ++ s)
      (sym (ap (λ (s : List Step). s ++ range_steps x rest) none) ∙ steps_of_parts all rest part parts)

  -- nothing is left where no nodes are
  pub none_left : (nodes : NodeRange) (old : List Step) → old ≡ [] → nodes.count ≡ 0 → sparse_left x nodes old ≡ []
  none_left nodes old done none =
      ap₂ (λ (s : List Step) (ns : List ℕ). s ++ steps_of_nodes (grammar_of x.all) (tree_of x.all) x.all.visits.now ns) done
      (no_nodes x.all.order nodes.first nodes.count none)
