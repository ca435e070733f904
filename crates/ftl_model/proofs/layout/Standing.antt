-- Where a node stands in preorder: at its number, with the nodes below it behind it.
use Rattle.std.proofs.Common.{◌≡◌, ℕ, zero, suc, ◌+◌, ◌<◌, ◌≤◌, Bool, true, false, eqb, cond, refl, sym, ◌∙◌, ap, subst, arith, List, [], ◌∷◌, ◌++◌, ℤ, length, drop, get_or, append_assoc}
use Rattle.std.proofs.lemmas.List.{append-nil, drop-drop, drop-append-le, drop_at, get_or-drop, length-drop}
use Rattle.ftl_model.specs.layout.Tree.{Forest, none, tree, IsTree, child_of, below_of, size, from_kid, nodes_before}
use Rattle.ftl_model.specs.layout.Path.{Path, top, down, at, Has, number_of, one_more, nodes_below, preorder, node_at}
use Rattle.ftl_model.proofs.layout.Kids.{from_kid-other, from_kid-next, from_kid-here, nodes_before-other, nodes_before-next, nodes_before-here, child-from_kid}
use Rattle.ftl_model.proofs.layout.Numbering.{length-nodes_below, length-preorder}

-- the nodes from a kid on, so many kids of each child having come
pub record NodesFrom (p : Path) (seen : ℕ → ℕ) (f : Forest) (c k : ℕ) : Type 0 where
  pub come : ℕ → ℕ
  pub nodes : drop (nodes_before c k f) (nodes_below p seen f) ≡ nodes_below p come (from_kid c k f)
  pub kid : come c ≡ seen c + k
  pub within : nodes_before c k f < size f

-- the nodes after the first tree and all below it
drop-past : (p : Path) (seen : ℕ → ℕ) (k d : ℕ) (i : List ℤ) (b s : Forest) (n : ℕ) → drop (suc (size b + n)) (nodes_below p seen (tree k d i b s)) ≡ drop n (nodes_below p (one_more d seen) s)
drop-past p seen k d i b s n =
    let q = down d (seen d) p in
    let len : length (q ∷ nodes_below q (λ c. 0) b) ≡ suc (size b) = ap suc (length-nodes_below q (λ c. 0) b) in
    let e : suc (size b + n) ≡ suc (size b) + n = omega arith in
    ap (λ m. drop m (nodes_below p seen (tree k d i b s))) e
    ∙ sym (drop-drop n (suc (size b)) (nodes_below p seen (tree k d i b s)))
    ∙ ap (drop n) (drop_at (q ∷ nodes_below q (λ c. 0) b) (nodes_below p (one_more d seen) s) (suc (size b)) len)

pub nodes_from : (p : Path) (seen : ℕ → ℕ) (f : Forest) (c k : ℕ) → IsTree (from_kid c k f) → NodesFrom p seen f c k
nodes_from p seen none c k h = elim h [ ]
nodes_from p seen (tree cl d i b s) c zero h = go (eqb d c) refl (λ later. nodes_from p (one_more d seen) s c zero later)
  where
    go : (same : Bool) → eqb d c ≡ same → (IsTree (from_kid c 0 s) → NodesFrom p (one_more d seen) s c 0) → NodesFrom p seen (tree cl d i b s) c 0
    go true e later =
        record {
          come = seen;
          nodes = rw (nodes_before-here c cl d i b s e, from_kid-here c cl d i b s e) refl;
          kid = omega arith;
          within = omega (arith, nodes_before-here c cl d i b s e);
        }
    go false e later =
        let l = later (subst IsTree (from_kid-other c 0 cl d i b s e) h) in
        record {
          come = l.come;
          nodes = rw (nodes_before-other c 0 cl d i b s e, from_kid-other c 0 cl d i b s e) (drop-past p seen cl d i b s (nodes_before c 0 s) ∙ l.nodes);
          kid = l.kid ∙ ap (λ b. cond b (suc (seen c)) (seen c) + 0) e;
          within = omega (arith, nodes_before-other c 0 cl d i b s e, l.within);
        }
nodes_from p seen (tree cl d i b s) c (suc k) h = go (eqb d c) refl (λ later. nodes_from p (one_more d seen) s c k later) (λ later. nodes_from p (one_more d seen) s c (suc k) later)
  where
    go : (same : Bool) → eqb d c ≡ same → (IsTree (from_kid c k s) → NodesFrom p (one_more d seen) s c k) → (IsTree (from_kid c (suc k) s) → NodesFrom p (one_more d seen) s c (suc k)) → NodesFrom p seen (tree cl d i b s) c (suc k)
    go true e next later =
        let l = next (subst IsTree (from_kid-next c k cl d i b s e) h) in
        record {
          come = l.come;
          nodes = rw (nodes_before-next c k cl d i b s e, from_kid-next c k cl d i b s e) (drop-past p seen cl d i b s (nodes_before c k s) ∙ l.nodes);
          kid = l.kid ∙ ap (λ b. cond b (suc (seen c)) (seen c) + k) e ∙ (omega arith);
          within = omega (arith, nodes_before-next c k cl d i b s e, l.within);
        }
    go false e next later =
        let l = later (subst IsTree (from_kid-other c (suc k) cl d i b s e) h) in
        record {
          come = l.come;
          nodes = rw (nodes_before-other c (suc k) cl d i b s e, from_kid-other c (suc k) cl d i b s e) (drop-past p seen cl d i b s (nodes_before c (suc k) s) ∙ l.nodes);
          kid = l.kid ∙ ap (λ b. cond b (suc (seen c)) (seen c) + suc k) e;
          within = omega (arith, nodes_before-other c (suc k) cl d i b s e, l.within);
        }

-- from a node's number on stand the node, the nodes below it, and the rest
pub record Stands (t : Forest) (p : Path) : Type 0 where
  pub rest : List Path
  pub nodes : drop (number_of t p) (preorder t) ≡ p ∷ (nodes_below p (λ c. 0) (below_of (at t p)) ++ rest)

-- where there are kids there is a node
pub has_parent : (t : Forest) (c k : ℕ) (p : Path) → Has t (down c k p) → Has t p
has_parent t c k p h = go (at t p) h
  where
    go : (f : Forest) → IsTree (from_kid c k (below_of f)) → IsTree f
    go none h = elim h [ ]
    go (tree cl d i b s) h = tt

-- the first tree of a forest, taken apart
pub record FirstTree (f : Forest) : Type 0 where
  pub class : ℕ
  pub child : ℕ
  pub inputs : List ℤ
  pub below : Forest
  pub beside : Forest
  pub is : f ≡ tree class child inputs below beside

pub first_tree : (f : Forest) → IsTree f → FirstTree f
first_tree none h = elim h [ ]
first_tree (tree k d i b s) h = record { class = k; child = d; inputs = i; below = b; beside = s; is = refl }

pub stands : (t : Forest) (p : Path) → Has t p → Stands t p
stands t top h = record { rest = []; nodes = ap (λ r. top ∷ r) (sym (append-nil (nodes_below top (λ c. 0) (below_of t)))) }
stands t (down c k p) h =
    let up = stands t p (has_parent t c k p h) in
    let b = below_of (at t p) in
    let from = nodes_from p (λ c. 0) b c k h in
    let first = first_tree (from_kid c k b) h in
    let child : first.child ≡ c = sym (ap child_of first.is) ∙ child-from_kid c k b h in
    let kid : from.come c ≡ k = from.kid ∙ (omega arith) in
    let q = down first.child (from.come first.child) p in
    let same : q ≡ down c k p = ap (λ d. down d (from.come d) p) child ∙ ap (λ n. down c n p) kid in
    let within : nodes_before c k b ≤ length (nodes_below p (λ c. 0) b) = omega (arith, length-nodes_below p (λ c. 0) b, from.within) in
    let n = number_of t p in
    let m = nodes_before c k b in
    record {
      rest = nodes_below p (one_more first.child from.come) first.beside ++ up.rest;
      nodes =
          (let e : suc (n + m) ≡ n + suc m = omega arith in ap (λ j. drop j (preorder t)) e)
          ∙ sym (drop-drop (suc m) n (preorder t))
          ∙ ap (drop (suc m)) up.nodes
          ∙ drop-append-le m (nodes_below p (λ c. 0) b) up.rest within
          ∙ ap (λ r. r ++ up.rest) (from.nodes ∙ ap (nodes_below p from.come) first.is)
          ∙ append_assoc (q ∷ nodes_below q (λ c. 0) first.below) (nodes_below p (one_more first.child from.come) first.beside) up.rest
          ∙ ap (λ r. r ∷ nodes_below r (λ c. 0) first.below ++ (nodes_below p (one_more first.child from.come) first.beside ++ up.rest)) same
          ∙ ap (λ f. down c k p ∷ nodes_below (down c k p) (λ c. 0) (below_of f) ++ (nodes_below p (one_more first.child from.come) first.beside ++ up.rest)) (sym first.is);
    }

pub number_of-lt : (t : Forest) (p : Path) → Has t p → number_of t p < suc (size (below_of t))
number_of-lt t p h =
    omega (arith, length-drop (number_of t p) (preorder t), ap length (stands t p h).nodes, length-preorder t)

-- the node of a node's number is the node
pub node_at-number_of : (t : Forest) (p : Path) → Has t p → node_at t (number_of t p) ≡ p
node_at-number_of t p h =
    (let e : number_of t p ≡ number_of t p + 0 = omega arith in ap (λ n. get_or (preorder t) n top) e)
    ∙ sym (get_or-drop (number_of t p) (preorder t) 0 top)
    ∙ ap (λ r. get_or r 0 top) (stands t p h).nodes
