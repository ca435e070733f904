-- Kids of a node among the trees below it, by child and number.
use Rattle.std.proofs.Common.{◌≡◌, ℕ, zero, suc, ◌+◌, Bool, true, false, eqb, refl, List, ℤ}
use Rattle.std.proofs.lemmas.Bool.{eqb-true}
use Rattle.ftl_model.specs.layout.Tree.{Forest, none, tree, IsTree, child_of, size, from_kid, nodes_before}

-- past a tree of another child
pub from_kid-other : (c kid k d : ℕ) (i : List ℤ) (b s : Forest) → eqb d c ≡ false → from_kid c kid (tree k d i b s) ≡ from_kid c kid s
from_kid-other c zero k d i b s e = rw e refl
from_kid-other c (suc kid) k d i b s e = rw e refl

-- past a tree of this child
pub from_kid-next : (c kid k d : ℕ) (i : List ℤ) (b s : Forest) → eqb d c ≡ true → from_kid c (suc kid) (tree k d i b s) ≡ from_kid c kid s
from_kid-next c kid k d i b s e = rw e refl

-- at a tree of this child
pub from_kid-here : (c k d : ℕ) (i : List ℤ) (b s : Forest) → eqb d c ≡ true → from_kid c 0 (tree k d i b s) ≡ tree k d i b s
from_kid-here c k d i b s e = rw e refl

pub nodes_before-other : (c kid k d : ℕ) (i : List ℤ) (b s : Forest) → eqb d c ≡ false → nodes_before c kid (tree k d i b s) ≡ suc (size b + nodes_before c kid s)
nodes_before-other c zero k d i b s e = rw e refl
nodes_before-other c (suc kid) k d i b s e = rw e refl

pub nodes_before-next : (c kid k d : ℕ) (i : List ℤ) (b s : Forest) → eqb d c ≡ true → nodes_before c (suc kid) (tree k d i b s) ≡ suc (size b + nodes_before c kid s)
nodes_before-next c kid k d i b s e = rw e refl

pub nodes_before-here : (c k d : ℕ) (i : List ℤ) (b s : Forest) → eqb d c ≡ true → nodes_before c 0 (tree k d i b s) ≡ 0
nodes_before-here c k d i b s e = rw e refl

-- the first tree from a kid of a child on stands in that child
pub child-from_kid : (c kid : ℕ) (f : Forest) → IsTree (from_kid c kid f) → child_of (from_kid c kid f) ≡ c
child-from_kid c kid none h = elim h [ ]
child-from_kid c zero (tree k d i b s) h = go (eqb d c) refl (child-from_kid c zero s)
  where
    go : (found : Bool) → eqb d c ≡ found → (IsTree (from_kid c 0 s) → child_of (from_kid c 0 s) ≡ c) → child_of (from_kid c 0 (tree k d i b s)) ≡ c
    go true e later = rw e (eqb-true d c e)
    go false e later = rw e (later (rw e at h))
child-from_kid c (suc kid) (tree k d i b s) h = go (eqb d c) refl (child-from_kid c kid s) (child-from_kid c (suc kid) s)
  where
    go : (found : Bool) → eqb d c ≡ found → (IsTree (from_kid c kid s) → child_of (from_kid c kid s) ≡ c) → (IsTree (from_kid c (suc kid) s) → child_of (from_kid c (suc kid) s) ≡ c) → child_of (from_kid c (suc kid) (tree k d i b s)) ≡ c
    go true e next later = rw e (next (rw e at h))
    go false e next later = rw e (later (rw e at h))
