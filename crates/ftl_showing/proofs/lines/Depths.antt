-- How deep a node stands, by its parent.
use Rattle.std.proofs.Common.{◌≡◌, ℕ, suc, ◌+◌, ◌<◌, ◌≤◌, Some, None, sym, refl, ap, ◌∙◌, subst, arith, length, ⊎_elim}
use Rattle.std.specs.Option.{option_map}
use Rattle.std.proofs.lemmas.Bool.{cases_lt}
use Rattle.std.proofs.lemmas.List.{get_or_past}
use Rattle.ftl_model.specs.layout.Path.{Has, Path, at, down, node_at, number_of, parent_of, preorder, top}
use Rattle.ftl_model.specs.layout.Tree.{Forest, IsTree, below_of, nodes_before, none, size, tree}
use Rattle.ftl_model.proofs.layout.Numbering.{has-node_at, length-preorder, number_of-node_at}
use Rattle.ftl_model.proofs.layout.Standing.{has_parent, node_at-number_of}
use Rattle.ftl_showing.specs.lines.Lines.{depth_of}

-- the parent's number is a smaller one, and the node stands one deeper
pub record IsBelow (t : Forest) (node parent : ℕ) : Type 0 where
  pub before : parent < node
  pub bound : depth_of (node_at t parent) ≤ parent
  pub depth : depth_of (node_at t node) ≡ depth_of (node_at t parent) + 1

-- a node stands no deeper than its number tells
depth-le-number : (t : Forest) (p : Path) → depth_of p ≤ number_of t p
depth-le-number t top = omega arith
depth-le-number t (down c k above) = omega (arith, depth-le-number t above)

is_tree : (t : Forest) (n : ℕ) → n < size t → IsTree t
is_tree none n within = absurd (omega (arith, within))
is_tree (tree class child inputs below beside) n within = tt

module _ (t : Forest) (node : ℕ) (within : node < size t) where
  -- a number that is no node's in preorder would be that of the root
  in_order : (c k : ℕ) (above : Path) → node_at t node ≡ down c k above → node < length (preorder t)
  in_order c k above here =
      ⊎_elim (λ (less : node < length (preorder t)). less)
      (λ (more : length (preorder t) ≤ node).
      let none_there : top ≡ down c k above = sym (get_or_past (preorder t) node top more) ∙ here in
      absurd (cc))
      (cases_lt node (length (preorder t)))

  below_at : (parent c k : ℕ) (above : Path) → node_at t node ≡ down c k above → parent ≡ number_of t above
      → IsBelow t node parent
  below_at parent c k above here up =
      let placed : node < suc (size (below_of t)) =
      omega (arith, in_order c k above here, length-preorder t) in
      let has : Has t (down c k above) =
      subst (Has t) here (has-node_at t node (is_tree t node within) placed) in
      let number : suc (number_of t above + nodes_before c k (below_of (at t above))) ≡ node =
      ap (number_of t) (sym here) ∙ number_of-node_at t node placed in
      let back : node_at t parent ≡ above =
      ap (node_at t) up ∙ node_at-number_of t above (has_parent t c k above has) in
      record {
        before = omega (arith, number, up);
        bound = omega (arith, depth-le-number t above, ap depth_of back, up);
        depth = ap depth_of here ∙ ap (λ (p : Path). depth_of p + 1) (sym back);
      }

  -- by what tells the parent of a node
  pub below_parent : (parent : ℕ) → Some parent ≡ option_map (number_of t) (parent_of (node_at t node))
      → IsBelow t node parent
  below_parent parent told = go (node_at t node) refl told
    where
      go : (p : Path) → node_at t node ≡ p → Some parent ≡ option_map (number_of t) (parent_of p)
          → IsBelow t node parent
      go top here is = absurd (cc)
      go (down c k above) here is = let up : parent ≡ number_of t above = cc in below_at parent c k above here up

  -- a node without a parent is the root
  pub no_parent : None ≡ option_map (number_of t) (parent_of (node_at t node)) → depth_of (node_at t node) ≡ 0
  no_parent told = go (node_at t node) told
    where
      go : (p : Path) → None ≡ option_map (number_of t) (parent_of p) → depth_of p ≡ 0
      go top is = refl
      go (down c k above) is = absurd (cc)
