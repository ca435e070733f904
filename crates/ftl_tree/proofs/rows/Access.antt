-- What the rows of a tree say of its nodes.
use Rattle.std.proofs.Common.{◌≡◌, ℕ, suc, ◌<◌, List, length, get_or, map, Some, refl, sym, ap, ◌∙◌, arith}
use Rattle.std.specs.Option.{option_map}
use Rattle.std.proofs.lemmas.List.{get_or-map, length-map}
use Rattle.ftl_model.specs.layout.AttributeGrammar.{AttributeGrammar}
use Rattle.ftl_model.specs.layout.Path.{Has, Path, down, node_at, number_of, parent_of, preorder, top}
use Rattle.ftl_model.specs.layout.Tree.{Forest, below_of, size}
use Rattle.ftl_model.specs.layout.TreeOf.{IsTreeOf}
use Rattle.ftl_model.proofs.layout.Numbering.{has-node_at, length-preorder, number_of-node_at}
use Rattle.ftl_tree.specs.rows.Rows.{parent_number}
use Rattle.ftl_tree.proofs.rows.Shapes.{one_tree, there}

pub size-one : (g : AttributeGrammar) (t : Forest) → IsTreeOf g t → size t ≡ suc (size (below_of t))
size-one g t h = let one = one_tree g t h in ap (λ f. size f) one.is ∙ (omega arith) ∙ ap (λ f. suc (size (below_of f))) (sym one.is)

-- a list with an entry for each node, in preorder
pub length-by_node : {X : Type 0} (g : AttributeGrammar) (t : Forest) (f : Path → X) (xs : List X) → IsTreeOf g t → xs ≡ map f (preorder t) → length xs ≡ size t
length-by_node g t f xs h is = ap length is ∙ length-map (preorder t) f ∙ length-preorder t ∙ sym (size-one g t h)

-- has at a node's number what it has for the node
pub at_node : {X : Type 0} (g : AttributeGrammar) (t : Forest) (f : Path → X) (xs : List X) (n : ℕ) (d : X) → IsTreeOf g t → xs ≡ map f (preorder t) → n < size t → get_or xs n d ≡ f (node_at t n)
at_node g t f xs n d h is k =
    ap (λ xs. get_or xs n d) is
    ∙ get_or-map f (preorder t) n top d (omega (arith, length-preorder t, size-one g t h, k))

pub number_at : (g : AttributeGrammar) (t : Forest) (n : ℕ) → IsTreeOf g t → n < size t → number_of t (node_at t n) ≡ n
number_at g t n h k = number_of-node_at t n (omega (arith, size-one g t h, k))

pub has_at : (g : AttributeGrammar) (t : Forest) (n : ℕ) → IsTreeOf g t → n < size t → Has t (node_at t n)
has_at g t n h k = has-node_at t n (there g t h) (omega (arith, size-one g t h, k))

-- a node other than the first has a parent
pub parent_is : (g : AttributeGrammar) (t : Forest) (n : ℕ) → IsTreeOf g t → n < size t → (n ≡ 0 → ⊥)
    → Some (parent_number t (node_at t n)) ≡ option_map (number_of t) (parent_of (node_at t n))
parent_is g t n h k other = go (node_at t n) (number_at g t n h k)
  where
    go : (p : Path) → number_of t p ≡ n → Some (parent_number t p) ≡ option_map (number_of t) (parent_of p)
    go top e = absurd (other (sym e))
    go (down c kid p) e = refl
