-- The trees of the kids in a child stand behind one another.
use Rattle.std.proofs.Common.{◌≡◌, ℕ, zero, suc, ◌+◌, ◌<◌, ◌≤◌, ◌==◌, true, false, if◌then◌else◌, get_or, arith}
use Rattle.std.proofs.lemmas.List.FromFn.{get_or-map-range_with_len}
use Rattle.ftl_model.specs.layout.Path.{Has, Path, at as tree_at, down, kids_at, number_of, size_at}
use Rattle.ftl_model.specs.layout.Tree.{Forest, IsTree, below_of, from_kid, nodes_before, none, size, tree}
use Rattle.ftl_tree.specs.rows.KidRuns.{kid_numbers}

-- the tree of an earlier kid lies among the nodes before a later one
kids_apart : (c j k : ℕ) (f : Forest) → j < k → IsTree (from_kid c k f)
    → suc (nodes_before c j f + size (below_of (from_kid c j f))) ≤ nodes_before c k f
kids_apart c j k none less h = absurd h
kids_apart c j zero (tree class child inputs below beside) less h = absurd (let z : ⊥ = omega arith in z)
kids_apart c zero (suc k) (tree class child inputs below beside) less h =
    (elim (child == c) as
    (λ b. IsTree (if b then from_kid c k beside else from_kid c (suc k) beside)
    → suc ((if b then 0 else suc (size below + nodes_before c zero beside))
    + size (below_of (if b then tree class child inputs below beside else from_kid c zero beside)))
    ≤ (if b then suc (size below + nodes_before c k beside) else suc (size below + nodes_before c (suc k) beside))) [
      | true ↦ λ h. omega arith
      | false ↦ λ h. let i = kids_apart c zero (suc k) beside less h in omega (arith, i)
    ]) h
kids_apart c (suc j) (suc k) (tree class child inputs below beside) less h =
    (elim (child == c) as
    (λ b. IsTree (if b then from_kid c k beside else from_kid c (suc k) beside)
    → suc ((if b then suc (size below + nodes_before c j beside) else suc (size below + nodes_before c (suc j) beside))
    + size (below_of (if b then from_kid c j beside else from_kid c (suc j) beside)))
    ≤ (if b then suc (size below + nodes_before c k beside) else suc (size below + nodes_before c (suc k) beside))) [
      | true ↦ λ h. let i = kids_apart c j k beside (omega arith) h in omega (arith, i)
      | false ↦ λ h. let i = kids_apart c (suc j) (suc k) beside less h in omega (arith, i)
    ]) h

-- so it ends before the later kid
pub ends_before : (t : Forest) (p : Path) (c j k : ℕ) → j < k → Has t (down c k p)
    → number_of t (down c j p) + size_at t (down c j p) ≤ number_of t (down c k p)
ends_before t p c j k less h = let apart = kids_apart c j k (below_of (tree_at t p)) less h in omega (arith, apart)

-- the number of a kid, in the list
pub kid_numbered : (t : Forest) (p : Path) (c k : ℕ) → k < kids_at t p c
    → get_or (kid_numbers t p c) k 0 ≡ number_of t (down c k p)
kid_numbered t p c k there =
    get_or-map-range_with_len (λ n. number_of t (down c n p)) 0 (kids_at t p c) k k 0 there
    (let z : 0 + k ≡ k = omega arith in z)
