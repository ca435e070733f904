-- Nodes by their numbers.
use Rattle.std.proofs.Common.{◌≡◌, ℕ, ◌+◌, ◌*◌, ◌<◌, ◌≤◌, refl, subst, arith, inl, inr, ⊎_elim, Some, None}
use Rattle.std.specs.Option.{option_map}
use Rattle.ftl_model.specs.layout.AttributeGrammar.{AttributeGrammar, inherited}
use Rattle.ftl_model.specs.layout.Path.{Above, Has, Path, down, node_at, number_of, parent_of, size_at, top}
use Rattle.ftl_model.specs.layout.Solves.{rule_node}
use Rattle.ftl_model.specs.layout.Tree.{Forest, IsTree, size}
use Rattle.ftl_model.specs.layout.TreeOf.{IsTreeOf}
use Rattle.ftl_order.proofs.orders.Kids.{root_there}
use Rattle.ftl_order.proofs.orders.Ranges.{above_range}
use Rattle.ftl_relayout.proofs.laws.Rising.{tree_size}
use Rattle.ftl_tree.proofs.rows.Access.{has_at, number_at}

pub number_here : (g : AttributeGrammar) (t : Forest) (n : ℕ) → IsTreeOf g t → n < size t → number_of t (node_at t n) ≡ n
number_here g t n h k = number_at g t n h k

-- the parent, or the root for the root itself
pub visited_parent : (t : Forest) (p : Path) (n : ℕ) → option_map (number_of t) (parent_of p) ≡ Some n
    → n ≡ number_of t (rule_node inherited p)
visited_parent t top n e = let z : n ≡ 0 = grind (arith, e) in z
visited_parent t (down c k q) n e = let z : n ≡ number_of t q = grind (arith, e) in z

pub visited_root : (t : Forest) (p : Path) → option_map (number_of t) (parent_of p) ≡ None
    → number_of t (rule_node inherited p) ≡ 0
visited_root t top e = refl
visited_root t (down c k q) e = let z : number_of t q ≡ 0 = grind (arith, e) in z

pub parent_within : (t : Forest) (p : Path) (n m : ℕ) → number_of t p ≡ m
    → option_map (number_of t) (parent_of p) ≡ Some n → n < m
parent_within t top n m e is = absurd (let z : ⊥ = grind (arith, is) in z)
parent_within t (down c k q) n m e is = let z : n ≡ number_of t q = grind (arith, is) in omega (arith, z, e)

top_above : (c k : ℕ) (p : Path) → Above top (down c k p)
top_above c k top = inl refl
top_above c k (down d n p) = inr (top_above d n p)

root_whole : (g : AttributeGrammar) (t : Forest) → IsTreeOf g t → size_at t top ≤ size t
root_whole g t fits =
    ⊎_elim (λ s. omega (arith, s))
    (λ e. absurd (let r = root_there g t fits in subst (λ f. IsTree f) e r)) (tree_size t)

pub end_at : (g : AttributeGrammar) (t : Forest) (p : Path) → IsTreeOf g t → Has t p
    → number_of t p + size_at t p ≤ size t
end_at g t top fits h = let w = root_whole g t fits in omega (arith, w)
end_at g t (down c k p) fits h =
    let r = (above_range t top (down c k p) h (top_above c k p)).1 in
    let w = root_whole g t fits in
    omega (arith, r, w)

pub end_here : (g : AttributeGrammar) (t : Forest) (n s : ℕ) → IsTreeOf g t → n < size t → s ≡ size_at t (node_at t n)
    → n + s ≤ size t
end_here g t n s fits below is =
    let e = end_at g t (node_at t n) fits (has_at g t n fits below) in
    let m = number_at g t n fits below in
    omega (arith, e, m, is)

pub pack_same : (a b c d e f a' b' c' d' e' f' : ℕ) → a ≡ a' → b ≡ b' → c ≡ c' → d ≡ d' → e ≡ e' → f ≡ f'
    → ((((a * 2097152 + b) * 2097152 + c) * 2097152 + d) * 2097152 + e) * 2097152 + f
    ≡ ((((a' * 2097152 + b') * 2097152 + c') * 2097152 + d') * 2097152 + e') * 2097152 + f'
pack_same a b c d e f a' b' c' d' e' f' ea eb ec ed ee ef = omega (arith, ea, eb, ec, ed, ee, ef)
