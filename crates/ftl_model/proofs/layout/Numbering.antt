-- Preorder numbers: `node_at` and `number_of` undo each other.
use Rattle.std.proofs.Common.{◌≡◌, ℕ, zero, suc, ◌+◌, ◌<◌, Bool, true, false, eqb, cond, refl, sym, ◌∙◌, ap, subst, arith, List, ◌∷◌, ◌++◌, ℤ, length, get_or, map, length-append}
use Rattle.std.specs.List.{range_with_len, AllByRecursion}
use Rattle.std.proofs.lemmas.List.{map-append, get_or-map}
use Rattle.std.proofs.lemmas.List.FromFn.{get_or-range_with_len}
use Rattle.std.proofs.lemmas.Bool.{eq-eqb}
use Rattle.ftl_model.specs.layout.Tree.{Forest, none, tree, IsTree, below_of, size, from_kid, nodes_before}
use Rattle.ftl_model.specs.layout.Path.{Path, top, down, at, Has, number_of, one_more, nodes_below, preorder, node_at}
use Rattle.ftl_model.proofs.lists.Each.{each-append, each_at}
use Rattle.ftl_model.proofs.layout.Kids.{from_kid-other, from_kid-next, from_kid-here, nodes_before-other, nodes_before-next, nodes_before-here}

-- what is left of the trees below a node, so many kids of each child and so many nodes having come
pub record Left (t : Forest) (p : Path) (seen : ℕ → ℕ) (f : Forest) (passed : ℕ) : Type 0 where
  pub from : (c k n : ℕ) → n ≡ seen c + k → from_kid c n (below_of (at t p)) ≡ from_kid c k f
  pub before : (c k n : ℕ) → n ≡ seen c + k → nodes_before c n (below_of (at t p)) ≡ passed + nodes_before c k f

-- nothing has come yet
pub left_all : (t : Forest) (p : Path) → Left t p (λ c. 0) (below_of (at t p)) 0
left_all t p =
    record {
      from = λ c k n e. ap (λ m. from_kid c m (below_of (at t p))) (let f : n ≡ k = omega (arith, e) in f);
      before = λ c k n e. ap (λ m. nodes_before c m (below_of (at t p))) (let f : n ≡ k = omega (arith, e) in f) ∙ (omega arith);
    }

-- one more tree has come
pub left_next : (t : Forest) (p : Path) (seen : ℕ → ℕ) (passed k d : ℕ) (i : List ℤ) (b s : Forest) → Left t p seen (tree k d i b s) passed → Left t p (one_more d seen) s (passed + suc (size b))
left_next t p seen passed k d i b s h =
    record { from = λ c kid n e. from c kid n (eqb d c) refl e; before = λ c kid n e. before c kid n (eqb d c) refl e }
  where
    from : (c kid n : ℕ) (same : Bool) → eqb d c ≡ same → n ≡ cond same (suc (seen c)) (seen c) + kid → from_kid c n (below_of (at t p)) ≡ from_kid c kid s
    from c kid n true e m = h.from c (suc kid) n (omega (arith, m)) ∙ from_kid-next c kid k d i b s e
    from c kid n false e m = h.from c kid n m ∙ from_kid-other c kid k d i b s e

    before : (c kid n : ℕ) (same : Bool) → eqb d c ≡ same → n ≡ cond same (suc (seen c)) (seen c) + kid → nodes_before c n (below_of (at t p)) ≡ passed + suc (size b) + nodes_before c kid s
    before c kid n true e m = omega (arith, h.before c (suc kid) n (omega (arith, m)), nodes_before-next c kid k d i b s e)
    before c kid n false e m = omega (arith, h.before c kid n m, nodes_before-other c kid k d i b s e)

-- the node of the first tree that is left
pub at-left : (t : Forest) (p : Path) (seen : ℕ → ℕ) (passed k d : ℕ) (i : List ℤ) (b s : Forest) → Left t p seen (tree k d i b s) passed → at t (down d (seen d) p) ≡ tree k d i b s
at-left t p seen passed k d i b s h =
    h.from d 0 (seen d) (omega arith) ∙ from_kid-here d k d i b s (eq-eqb d d refl)

pub number-left : (t : Forest) (p : Path) (seen : ℕ → ℕ) (passed k d : ℕ) (i : List ℤ) (b s : Forest) → Left t p seen (tree k d i b s) passed → number_of t (down d (seen d) p) ≡ suc (number_of t p + passed)
number-left t p seen passed k d i b s h =
    omega (arith, h.before d 0 (seen d) (omega arith), nodes_before-here d k d i b s (eq-eqb d d refl))

-- below that node nothing has come yet
pub left_below : (t : Forest) (p : Path) (seen : ℕ → ℕ) (passed k d : ℕ) (i : List ℤ) (b s : Forest) → Left t p seen (tree k d i b s) passed → Left t (down d (seen d) p) (λ c. 0) b 0
left_below t p seen passed k d i b s h =
    subst (λ (f : Forest). Left t (down d (seen d) p) (λ c. 0) f 0) (ap below_of (at-left t p seen passed k d i b s h)) (left_all t (down d (seen d) p))

range-append : (a m n : ℕ) → range_with_len a (m + n) ≡ range_with_len a m ++ range_with_len (a + m) n
range-append a zero n = let e : 0 + n ≡ n = omega arith in let f : a + 0 ≡ a = omega arith in rw (e, f) refl
range-append a (suc m) n =
    let e : suc m + n ≡ suc (m + n) = omega arith in let f : a + suc m ≡ (a + 1) + m = omega arith in
    rw (e, f) (ap (λ r. a ∷ r) (range-append (a + 1) m n))

-- the nodes below a node are numbered one after another
pub numbers-nodes_below : (t : Forest) (p : Path) (seen : ℕ → ℕ) (f : Forest) (passed : ℕ) → Left t p seen f passed → map (number_of t) (nodes_below p seen f) ≡ range_with_len (suc (number_of t p + passed)) (size f)
numbers-nodes_below t p seen none passed h = refl
numbers-nodes_below t p seen (tree k d i b s) passed h =
    let n = suc (number_of t p + passed) in
    let q = down d (seen d) p in
    let below = numbers-nodes_below t q (λ c. 0) b 0 (left_below t p seen passed k d i b s h) in
    let beside = numbers-nodes_below t p (one_more d seen) s (passed + suc (size b)) (left_next t p seen passed k d i b s h) in
    let here : number_of t q ≡ n = number-left t p seen passed k d i b s h in
    let first : suc (number_of t q + 0) ≡ n + 1 = omega (arith, here) in
    let second : suc (number_of t p + (passed + suc (size b))) ≡ n + 1 + size b = omega arith in
    map-append (number_of t) (q ∷ nodes_below q (λ c. 0) b) (nodes_below p (one_more d seen) s)
    ∙ ap (λ m. m ∷ map (number_of t) (nodes_below q (λ c. 0) b) ++ map (number_of t) (nodes_below p (one_more d seen) s)) here
    ∙ ap (λ r. n ∷ r ++ map (number_of t) (nodes_below p (one_more d seen) s)) (below ∙ ap (λ m. range_with_len m (size b)) first)
    ∙ ap (λ r. n ∷ range_with_len (n + 1) (size b) ++ r) (beside ∙ ap (λ m. range_with_len m (size s)) second)
    ∙ ap (λ r. n ∷ r) (sym (range-append (n + 1) (size b) (size s)))

-- the nodes of a tree are numbered from 0
pub numbers-preorder : (t : Forest) → map (number_of t) (preorder t) ≡ range_with_len 0 (suc (size (below_of t)))
numbers-preorder t = ap (λ r. 0 ∷ r) (numbers-nodes_below t top (λ c. 0) (below_of t) 0 (left_all t top))

pub length-nodes_below : (p : Path) (seen : ℕ → ℕ) (f : Forest) → length (nodes_below p seen f) ≡ size f
length-nodes_below p seen none = refl
length-nodes_below p seen (tree k d i b s) =
    omega (arith, length-append (down d (seen d) p ∷ nodes_below (down d (seen d) p) (λ c. 0) b) (nodes_below p (one_more d seen) s), length-nodes_below (down d (seen d) p) (λ c. 0) b, length-nodes_below p (one_more d seen) s)

pub length-preorder : (t : Forest) → length (preorder t) ≡ suc (size (below_of t))
length-preorder t = ap suc (length-nodes_below top (λ c. 0) (below_of t))

-- the number of the node of a number is that number
pub number_of-node_at : (t : Forest) (n : ℕ) → n < suc (size (below_of t)) → number_of t (node_at t n) ≡ n
number_of-node_at t n h =
    let within : n < length (preorder t) = omega (arith, length-preorder t) in
    sym (get_or-map (number_of t) (preorder t) n top 0 within)
    ∙ ap (λ ns. get_or ns n 0) (numbers-preorder t)
    ∙ get_or-range_with_len 0 (suc (size (below_of t))) n 0 h
    ∙ (let e : 0 + n ≡ n = omega arith in e)

-- the nodes below a node are nodes of the tree
pub has-nodes_below : (t : Forest) (p : Path) (seen : ℕ → ℕ) (f : Forest) (passed : ℕ) → Left t p seen f passed → AllByRecursion (Has t) (nodes_below p seen f)
has-nodes_below t p seen none passed h = tt
has-nodes_below t p seen (tree k d i b s) passed h =
    let q = down d (seen d) p in
    each-append (Has t) (q ∷ nodes_below q (λ c. 0) b) (nodes_below p (one_more d seen) s)
    (subst IsTree (sym (at-left t p seen passed k d i b s h)) tt, has-nodes_below t q (λ c. 0) b 0 (left_below t p seen passed k d i b s h))
    (has-nodes_below t p (one_more d seen) s (passed + suc (size b)) (left_next t p seen passed k d i b s h))

-- all nodes in preorder are nodes of the tree
pub has-preorder : (t : Forest) → IsTree t → AllByRecursion (Has t) (preorder t)
has-preorder t is = (is, has-nodes_below t top (λ c. 0) (below_of t) 0 (left_all t top))

-- the node of a number is a node of the tree
pub has-node_at : (t : Forest) (n : ℕ) → IsTree t → n < suc (size (below_of t)) → Has t (node_at t n)
has-node_at t n is h = each_at (Has t) (preorder t) n top (has-preorder t is) (omega (arith, length-preorder t))
