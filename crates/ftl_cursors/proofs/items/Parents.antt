-- The parent of a node, by numbers.
use Rattle.std.proofs.Common.{◌≡◌, ℕ, ◌<◌, refl, ◌∙◌, ap, arith, Some}
use Rattle.std.specs.Option.{option_map}
use Rattle.ftl_model.specs.layout.AttributeGrammar.{AttributeGrammar}
use Rattle.ftl_model.specs.layout.Path.{Has, Path, down, node_at, number_of, parent_of, top}
use Rattle.ftl_model.specs.layout.Tree.{Forest, size}
use Rattle.ftl_model.specs.layout.TreeOf.{IsTreeOf}
use Rattle.ftl_model.proofs.layout.Standing.{has_parent, node_at-number_of, number_of-lt}
use Rattle.ftl_tree.proofs.rows.Access.{size-one}

-- a node other than the root is a kid of its parent
pub record ParentOf (t : Forest) (p : Path) (n : ℕ) : Type 0 where
  pub child : ℕ
  pub kid : ℕ
  pub above : Path
  pub is : p ≡ down child kid above
  pub there : Has t above
  pub known : n < size t
  pub node : node_at t n ≡ above

pub parent_of_node : (g : AttributeGrammar) (t : Forest) (fits : IsTreeOf g t) (p : Path) (n : ℕ) → Has t p
    → Some n ≡ option_map (number_of t) (parent_of p) → ParentOf t p n
parent_of_node g t fits top n h e = absurd (let z : ⊥ = cc in z)
parent_of_node g t fits (down c k p) n h e =
    let up = has_parent t c k p h in
    let number : n ≡ number_of t p = cc in
    let low = number_of-lt t p up in
    let one = size-one g t fits in
    record {
      child = c;
      kid = k;
      above = p;
      is = refl;
      there = up;
      known = omega (arith, number, low, one);
      node = ap (node_at t) number ∙ node_at-number_of t p up;
    }
