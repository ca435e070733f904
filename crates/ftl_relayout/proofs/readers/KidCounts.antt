-- A node has no more kids in a child than the tree has nodes.
use Rattle.std.proofs.Common.{ℕ, suc, ◌+◌, ◌≤◌, ◌==◌, true, false, if◌then◌else◌, arith}
use Rattle.ftl_step_value.proofs.limits.reads.Entries.{whole}
use Rattle.ftl_model.proofs.layout.Standing.{has_parent}
use Rattle.ftl_model.specs.layout.AttributeGrammar.{AttributeGrammar}
use Rattle.ftl_model.specs.layout.Path.{Has, Path, at as tree_at, down, kids_at, number_of, size_at, top}
use Rattle.ftl_model.specs.layout.Tree.{Forest, below_of, count_in, none, size, tree}
use Rattle.ftl_model.specs.layout.TreeOf.{IsTreeOf}
use Rattle.ftl_tree.proofs.rows.Ends.{kid_end}

count_few : (c : ℕ) (f : Forest) → count_in c f ≤ size f
count_few c none = omega arith
count_few c (tree class child inputs below beside) =
    let rest = count_few c beside in
    elim (child == c) as
    (λ b. (if b then suc (count_in c beside) else count_in c beside) ≤ suc (size below + size beside))
    [ true ↦ omega arith | false ↦ omega arith ]

-- the tree at a node has no more nodes than the whole
size_few : (t : Forest) (p : Path) → Has t p → number_of t p + size_at t p ≤ suc (size (below_of t))
size_few t top h = omega arith
size_few t (down c k p) h = let e = (kid_end t c k p h).1 in omega (arith, e, size_few t p (has_parent t c k p h))

pub kids_few : (g : AttributeGrammar) (t : Forest) → IsTreeOf g t → (p : Path) → Has t p → (c : ℕ)
    → kids_at t p c ≤ size t
kids_few g t fits p has c =
    let few = count_few c (below_of (tree_at t p)) in
    let all = size_few t p has in
    let one = whole g t fits in
    omega arith
