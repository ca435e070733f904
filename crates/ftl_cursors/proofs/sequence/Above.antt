-- The node above another, and what comes after a node.
use Rattle.std.proofs.Common.{◌≡◌, ℕ, suc, ◌+◌, ◌<◌, ◌≤◌, ◌==◌, true, false, if◌then◌else◌, List, [], Some, refl, inl, ⊎_elim, sym, ◌∙◌, ap, ap₂, subst, arith}
use Rattle.std.specs.Option.{option_map}
use Rattle.ftl_model.specs.layout.AttributeGrammar.{AttributeGrammar}
use Rattle.ftl_model.specs.layout.Path.{Above, AtOrAbove, Has, Path, at as tree_at, child_at, class_at, down, kid_at, kids_at, node_at, number_of, parent_of, size_at, top}
use Rattle.ftl_model.specs.layout.Tree.{Forest, below_of, count_in, none, size, tree}
use Rattle.ftl_model.specs.layout.TreeOf.{IsTreeOf}
use Rattle.ftl_model.proofs.layout.Fits.{kid_stands}
use Rattle.ftl_model.proofs.layout.Standing.{has_parent, node_at-number_of, number_of-lt}
use Rattle.ftl_order.proofs.orders.Kids.{kid_counted}
use Rattle.ftl_items.specs.stage_items.Items.{is_same_node}
use Rattle.ftl_items.proofs.stage_items.HandingLaws.{node_itself, same_node}
use Rattle.std.proofs.lemmas.Bool.{false≢true}
use Rattle.ftl_order.proofs.orders.Ranges.{above_range}
use Rattle.ftl_tree.proofs.rows.Access.{number_at, size-one}
use Rattle.ftl_cursors.specs.sequence.Moves.{moves_from_kid, moves_up}
use Rattle.ftl_cursors.specs.sequence.SequenceRest.{from_kid, rest_up}
use Rattle.ftl_tree.proofs.rows.Ends.{kid_end}

-- no child has more kids than there are nodes
count_few : (c : ℕ) (f : Forest) → count_in c f ≤ size f
count_few c none = omega arith
count_few c (tree class child inputs below beside) =
    let rest = count_few c beside in
    elim (child == c) as
    (λ b. (if b then suc (count_in c beside) else count_in c beside) ≤ suc (size below + size beside))
    [ true ↦ omega arith | false ↦ omega arith ]

-- the tree at a node has no more nodes than the whole
pub size_few : (t : Forest) (p : Path) → Has t p → number_of t p + size_at t p ≤ suc (size (below_of t))
size_few t top h = omega arith
size_few t (down c k p) h = let e = (kid_end t c k p h).1 in omega (arith, e, size_few t p (has_parent t c k p h))

-- the node stands at this kid of the node of this number
pub record StandsAt (g : AttributeGrammar) (t : Forest) (p : Path) (parent child kid : ℕ) : Type 0 where
  pub is : p ≡ down child kid (node_at t parent)
  pub known : parent < size t
  pub declared : child < g.child_count (class_at t (node_at t parent))
  pub few : kid + 1 < size t

pub stands_at : (g : AttributeGrammar) (t : Forest) → IsTreeOf g t → (parent child kid : ℕ) (p : Path) → Has t p
    → option_map (number_of t) (parent_of p) ≡ Some parent → child ≡ child_at p → kid ≡ kid_at p
    → StandsAt g t p parent child kid
stands_at g t fits parent child kid top has is child_is kid_is = absurd (cc)
stands_at g t fits parent child kid (down c k q) has is child_is kid_is =
    let number : number_of t q ≡ parent = cc in
    let there = has_parent t c k q has in
    let above : q ≡ node_at t parent = sym (node_at-number_of t q there) ∙ ap (node_at t) number in
    let one = size-one g t fits in
    let first = number_of-lt t q there in
    let declared = (kid_stands g t c k q fits has).declared in
    let counted : k < kids_at t q c = kid_counted c k (below_of (tree_at t q)) has in
    let few = count_few c (below_of (tree_at t q)) in
    let all = size_few t q there in
    record {
      is = ap₂ (λ n m. down n m q) (sym child_is) (sym kid_is) ∙ ap (down child kid) above;
      known = omega arith;
      declared =
          subst (λ n. n < g.child_count (class_at t (node_at t parent))) (sym child_is)
          (subst (λ r. c < g.child_count (class_at t r)) above declared);
      few = omega arith;
    }

-- nodes of two numbers are two
pub other_node : (g : AttributeGrammar) (t : Forest) → IsTreeOf g t → (m n : ℕ) → m < size t → n < size t
    → (n ≡ m → ⊥) → is_same_node (node_at t m) (node_at t n) ≡ false
other_node g t fits m n low high other =
    elim (is_same_node (node_at t m) (node_at t n)) as
    (λ b. is_same_node (node_at t m) (node_at t n) ≡ b → b ≡ false) [
      | true ↦ λ e.
          absurd
          (other
          (sym (number_at g t n fits high)
          ∙ ap (number_of t) (sym (same_node (node_at t m) (node_at t n) e))
          ∙ number_at g t m fits low))
      | false ↦ λ e. refl
    ]
    refl

-- a kid of a node at or below the first is not the first
pub kid_elsewhere : (t : Forest) (first p : Path) (c k : ℕ) → Has t (down c k p) → AtOrAbove first p
    → is_same_node first (down c k p) ≡ false
kid_elsewhere t first p c k there within =
    let up = (above_range t p (down c k p) there (inl refl)).0 in
    let low : number_of t first ≤ number_of t p =
    ⊎_elim (λ (same : first ≡ p). let n = ap (number_of t) same in omega (arith, n))
    (λ (above : Above first p). let n = (above_range t first p (has_parent t c k p there) above).0 in omega (arith, n))
    within in
    elim (is_same_node first (down c k p)) as (λ b. is_same_node first (down c k p) ≡ b → b ≡ false) [
      | true ↦ λ e.
          absurd
          (let same = ap (number_of t) (same_node first (down c k p) e) in
          let z : ⊥ = omega (arith, same, up, low) in
          z)
      | false ↦ λ e. refl
    ]
    refl

-- the parent of a node at or below the first that is not the first is at or below it
pub parent_within : (first : Path) (c k : ℕ) (p : Path) → is_same_node first (down c k p) ≡ false
    → AtOrAbove first (down c k p) → AtOrAbove first p
parent_within first c k p other within =
    ⊎_elim
    (λ (same : first ≡ down c k p).
    absurd (false≢true (sym other ∙ sym (ap (is_same_node first) same) ∙ node_itself first)))
    (λ (above : AtOrAbove first p). above) within

module _ (g : AttributeGrammar) (t : Forest) (attributes : List ℕ) (first : Path) where
  -- nothing comes after the first node
  pub none_after : (p : Path) → is_same_node first p ≡ true → rest_up g t attributes first p ≡ []
  none_after top e = refl
  none_after (down c k p) e =
      ap (λ b. if b then [] else from_kid g t attributes p c (k + 1) (rest_up g t attributes first p)) e

  -- after another one comes the next kid of its parent
  pub rest_above : (c k : ℕ) (p : Path) → is_same_node first (down c k p) ≡ false
      → rest_up g t attributes first (down c k p)
      ≡ from_kid g t attributes p c (k + 1) (rest_up g t attributes first p)
  rest_above c k p e =
      ap (λ b. if b then [] else from_kid g t attributes p c (k + 1) (rest_up g t attributes first p)) e

  pub moves_above : (c k : ℕ) (p : Path) → is_same_node first (down c k p) ≡ false
      → moves_up g t first (down c k p) ≡ moves_from_kid g t p c (k + 1) (moves_up g t first p)
  moves_above c k p e = ap (λ b. if b then 0 else moves_from_kid g t p c (k + 1) (moves_up g t first p)) e
