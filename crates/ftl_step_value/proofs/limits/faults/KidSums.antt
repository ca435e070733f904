-- The kids of all nodes are the nodes but the root.
use Rattle.std.proofs.Common.{◌≡◌, ℕ, suc, ◌+◌, ◌≤◌, ◌==◌, true, false, if◌then◌else◌, ◌∷◌, sum_by, ap, arith}
use Rattle.std.proofs.lemmas.List.Sums.{sum_by-append, sum_by-cons}
use Rattle.ftl_model.specs.layout.Path.{Path, at, down, kids_at, nodes_below, one_more, preorder, top}
use Rattle.ftl_model.specs.layout.Tree.{Forest, below_of, count_in, none, size, tree}
use Rattle.ftl_model.proofs.layout.Numbering.{Left, at-left, left_all, left_below, left_next}

-- how many trees stand side by side
abbrev pub trees_in : Forest → ℕ
trees_in none = 0
trees_in (tree class child inputs below beside) = suc (trees_in beside)

-- how many kids a node has in all its children
abbrev pub kids_of : Forest → Path → ℕ
kids_of t p = trees_in (below_of (at t p))

some_of_trees : (c : ℕ) (f : Forest) → count_in c f ≤ trees_in f
some_of_trees c none = omega arith
some_of_trees c (tree class child inputs below beside) =
    elim (child == c) as (λ b. (if b then suc (count_in c beside) else count_in c beside) ≤ suc (trees_in beside)) [
      | true ↦ let i = some_of_trees c beside in omega (arith, i)
      | false ↦ let i = some_of_trees c beside in omega (arith, i)
    ]

-- a node has no more in one of them
pub kids_in_one : (t : Forest) (p : Path) (c : ℕ) → kids_at t p c ≤ kids_of t p
kids_in_one t p c = some_of_trees c (below_of (at t p))

-- each node below a node is a kid of one
kids_below : (t : Forest) (p : Path) (seen : ℕ → ℕ) (f : Forest) (passed : ℕ) → Left t p seen f passed
    → trees_in f + sum_by (kids_of t) (nodes_below p seen f) ≡ size f
kids_below t p seen none passed h = omega arith
kids_below t p seen (tree k d i b s) passed h =
    let q = down d (seen d) p in
    let inner = nodes_below q (λ c. 0) b in
    let outer = nodes_below p (one_more d seen) s in
    let below = kids_below t q (λ c. 0) b 0 (left_below t p seen passed k d i b s h) in
    let beside = kids_below t p (one_more d seen) s (passed + suc (size b))
    (left_next t p seen passed k d i b s h) in
    let here : kids_of t q ≡ trees_in b =
    ap (λ x. trees_in (below_of x)) (at-left t p seen passed k d i b s h) in
    let both = sum_by-append (kids_of t) (q ∷ inner) outer in
    let first = sum_by-cons (kids_of t) q inner in
    omega (arith, below, beside, here, both, first)

-- all kids are nodes
pub kids_of_all : (t : Forest) → sum_by (kids_of t) (preorder t) ≡ size (below_of t)
kids_of_all t =
    let below = nodes_below top (λ c. 0) (below_of t) in
    let first = sum_by-cons (kids_of t) top below in
    let rest = kids_below t top (λ c. 0) (below_of t) 0 (left_all t top) in
    omega (arith, first, rest)

pub few_kids_of_all : (t : Forest) → sum_by (kids_of t) (preorder t) ≤ size t
few_kids_of_all t = let all = kids_of_all t in let few = below_small t in omega (arith, all, few)
  where
    below_small : (f : Forest) → size (below_of f) ≤ size f
    below_small none = omega arith
    below_small (tree class child inputs below beside) = omega arith
