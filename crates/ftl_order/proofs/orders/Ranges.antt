-- A subtree is a range of preorder numbers.
use Rattle.std.proofs.Common.{◌≡◌, ℕ, zero, suc, ◌+◌, ◌-◌, ◌<◌, ◌≤◌, ◌==◌, true, false, if◌then◌else◌, refl, sym, ◌∙◌, ap, subst, inl, inr, ⊎_elim, arith, List, [], ◌∷◌, length, get_or}
use Rattle.std.specs.List.{AllByRecursion}
use Rattle.std.proofs.lemmas.List.{get_or-drop, get_or_append_left}
use Rattle.ftl_model.proofs.lists.Each.{each-append, each_at}
use Rattle.ftl_model.specs.layout.Path.{Above, Has, Path, at, down, nodes_below, number_of, one_more, preorder, size_at, top}
use Rattle.ftl_model.specs.layout.Tree.{Forest, IsTree, below_of, from_kid, nodes_before, none, size, tree}
use Rattle.ftl_model.proofs.layout.Numbering.{length-nodes_below}
use Rattle.ftl_model.proofs.layout.Standing.{has_parent, node_at-number_of, stands}
use Rattle.ftl_order.specs.orders.Numbers.{InRangeOf}

-- a kid's tree lies among the trees, behind the nodes before it
kid_room : (c k : ℕ) (f : Forest) → IsTree (from_kid c k f)
    → suc (nodes_before c k f + size (below_of (from_kid c k f))) ≤ size f
kid_room c k none h = absurd h
kid_room c zero (tree class child inputs below beside) h =
    (elim (child == c) as
    (λ b. IsTree (if b then tree class child inputs below beside else from_kid c zero beside)
    → suc ((if b then 0 else suc (size below + nodes_before c zero beside))
    + size (below_of (if b then tree class child inputs below beside else from_kid c zero beside)))
    ≤ suc (size below + size beside))
    [ true ↦ λ h. omega arith | false ↦ λ h. let i = kid_room c zero beside h in omega (arith, i) ]) h
kid_room c (suc k) (tree class child inputs below beside) h =
    (elim (child == c) as
    (λ b. IsTree (if b then from_kid c k beside else from_kid c (suc k) beside)
    → suc ((if b then suc (size below + nodes_before c k beside) else suc (size below + nodes_before c (suc k) beside))
    + size (below_of (if b then from_kid c k beside else from_kid c (suc k) beside)))
    ≤ suc (size below + size beside)) [
      | true ↦ λ h. let i = kid_room c k beside h in omega (arith, i)
      | false ↦ λ h. let i = kid_room c (suc k) beside h in omega (arith, i)
    ]) h

-- a kid's range lies within its parent's
kid_range : (t : Forest) (c k : ℕ) (p : Path) → Has t (down c k p)
    → (number_of t p < number_of t (down c k p))
    × (number_of t (down c k p) + size_at t (down c k p) ≤ number_of t p + size_at t p)
kid_range t c k p h = let room = kid_room c k (below_of (at t p)) h in (omega arith, omega (arith, room))

pub above_range : (t : Forest) (p q : Path) → Has t q → Above p q
    → (number_of t p < number_of t q) × (number_of t q + size_at t q ≤ number_of t p + size_at t p)
above_range t p top h above = absurd above
above_range t p (down c k q) h above =
    let one = kid_range t c k q h in
    let less = one.0 in
    let within = one.1 in
    ⊎_elim (λ e. subst
    (λ r. (number_of t r < number_of t (down c k q))
    × (number_of t (down c k q) + size_at t (down c k q) ≤ number_of t r + size_at t r)) (sym e) one)
    (λ far.
    let i = above_range t p q (has_parent t c k q h) far in
    let first = i.0 in
    let last = i.1 in (
      (let z : number_of t p < number_of t (down c k q) = omega (arith, first, less) in z),
      (let z : number_of t (down c k q) + size_at t (down c k q) ≤ number_of t p + size_at t p = omega
          (arith, last, within) in z),
    ))
    above

above_above : (p q r : Path) → Above p q → Above q r → Above p r
above_above p q top h k = absurd k
above_above p q (down c n r) h k = ⊎_elim (λ e. inr (subst (Above p) e h)) (λ far. inr (above_above p q r h far)) k

all_above : (p q : Path) (ps : List Path) → Above p q → AllByRecursion (Above q) ps → AllByRecursion (Above p) ps
all_above p q [] h k = tt
all_above p q (r ∷ rs) h k = (above_above p q r h k.0, all_above p q rs h k.1)

nodes_below-above : (p : Path) (seen : ℕ → ℕ) (f : Forest) → AllByRecursion (Above p) (nodes_below p seen f)
nodes_below-above p seen none = tt
nodes_below-above p seen (tree class child inputs below beside) =
    let q = down child (seen child) p in
    each-append (Above p) (q ∷ nodes_below q (λ c. 0) below) (nodes_below p (one_more child seen) beside)
    (inl refl, all_above p q (nodes_below q (λ c. 0) below) (inl refl) (nodes_below-above q (λ c. 0) below))
    (nodes_below-above p (one_more child seen) beside)

pub range_above : (t : Forest) (p q : Path) → Has t p → Has t q → InRangeOf t p (number_of t q) → Above p q
range_above t p q hp hq range =
    let here = stands t p hp in
    let m = number_of t p in
    let n = number_of t q in
    let first = range.0 in
    let last = range.1 in
    let k = n - suc m in
    let nodes = nodes_below p (λ c. 0) (below_of (at t p)) in
    let within : k < length nodes = omega (arith, first, last, length-nodes_below p (λ c. 0) (below_of (at t p))) in
    let place : n ≡ m + suc k = omega (arith, first) in
    let is : q ≡ get_or nodes k top =
    sym (node_at-number_of t q hq)
    ∙ ap (λ j. get_or (preorder t) j top) place
    ∙ sym (get_or-drop m (preorder t) (suc k) top)
    ∙ ap (λ ps. get_or ps (suc k) top) here.nodes
    ∙ get_or_append_left nodes here.rest top k within in
    subst (Above p) (sym is) (each_at (Above p) nodes k top (nodes_below-above p (λ c. 0) (below_of (at t p))) within)
