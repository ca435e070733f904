-- Trees that are the same but for their inputs.
use Rattle.std.proofs.Common.{◌≡◌, ℕ, zero, suc, ◌+◌, Bool, true, false, cond, eqb, refl, sym, ◌∙◌, ap, ap₂, ◌∷◌, ◌++◌, map, flat_map, sum_by, take, length}
use Rattle.ftl_model.specs.lists.Lists.{place_in}
use mathlib.Core.Path.{fun_ext}
use Rattle.ftl_model.specs.layout.Tree.{Forest, none, tree, IsTree, size, class_of, below_of, count_in, from_kid, nodes_before}
use Rattle.ftl_model.specs.layout.Path.{Path, top, down, at, Has, class_at, kids_at, size_at, number_of, one_more, nodes_below, preorder}
use Rattle.ftl_model.specs.layout.AttributeGrammar.{AttributeGrammar, attributes_of}
use Rattle.ftl_model.specs.layout.Solves.{Instance, instance_of}
use Rattle.ftl_model.specs.layout.Table.{width_at, instances, instance_count, instance_number}
use Rattle.ftl_model.specs.layout.Inputs.{IsSameButInputs}

same_size : (t u : Forest) → IsSameButInputs t u → size t ≡ size u
same_size none none h = refl
same_size none (tree l d j c r) h = absurd h
same_size (tree k c i b s) none h = absurd h
same_size (tree k c i b s) (tree l d j v w) h =
    ap₂ (λ m n. suc (m + n)) (same_size b v h.3) (same_size s w h.4)

pub same_tree : (t u : Forest) → IsSameButInputs t u → IsTree t → IsTree u
same_tree none none h is = is
same_tree none (tree l d j c r) h is = absurd h
same_tree (tree k c i b s) none h is = absurd h
same_tree (tree k c i b s) (tree l d j v w) h is = tt

pub same_sym : (t u : Forest) → IsSameButInputs t u → IsSameButInputs u t
same_sym none none h = tt
same_sym none (tree l d j c r) h = absurd h
same_sym (tree k c i b s) none h = absurd h
same_sym (tree k c i b s) (tree l d j v w) h =
    (sym h.0, sym h.1, sym h.2, same_sym b v h.3, same_sym s w h.4)

same_class : (t u : Forest) → IsSameButInputs t u → class_of t ≡ class_of u
same_class none none h = refl
same_class none (tree l d j c r) h = absurd h
same_class (tree k c i b s) none h = absurd h
same_class (tree k c i b s) (tree l d j v w) h = h.0

same_below : (t u : Forest) → IsSameButInputs t u → IsSameButInputs (below_of t) (below_of u)
same_below none none h = tt
same_below none (tree l d j c r) h = absurd h
same_below (tree k c i b s) none h = absurd h
same_below (tree k c i b s) (tree l d j v w) h = h.3

same_count : (e : ℕ) (t u : Forest) → IsSameButInputs t u → count_in e t ≡ count_in e u
same_count e none none h = refl
same_count e none (tree l d j c r) h = absurd h
same_count e (tree k c i b s) none h = absurd h
same_count e (tree k c i b s) (tree l d j v w) h =
    ap₂ (λ x n. cond (eqb x e) (suc n) n) h.1 (same_count e s w h.4)

same_from : (e n : ℕ) (t u : Forest) → IsSameButInputs t u → IsSameButInputs (from_kid e n t) (from_kid e n u)
same_from e n none none h = tt
same_from e n none (tree l d j c r) h = absurd h
same_from e n (tree k c i b s) none h = absurd h
same_from e zero (tree k c i b s) (tree l d j v w) h =
    go (eqb c e) (eqb d e) (ap (λ x. eqb x e) h.1) (same_from e zero s w h.4)
  where
    go : (p q : Bool) → p ≡ q → IsSameButInputs (from_kid e zero s) (from_kid e zero w)
        → IsSameButInputs (cond p (tree k c i b s) (from_kid e zero s)) (cond q (tree l d j v w) (from_kid e zero w))
    go true true same later = h
    go false false same later = later
    go true false same later = absurd (let z : ⊥ = cc same in z)
    go false true same later = absurd (let z : ⊥ = cc same in z)
same_from e (suc n) (tree k c i b s) (tree l d j v w) h =
    go (eqb c e) (eqb d e) (ap (λ x. eqb x e) h.1) (same_from e n s w h.4) (same_from e (suc n) s w h.4)
  where
    go : (p q : Bool) → p ≡ q → IsSameButInputs (from_kid e n s) (from_kid e n w)
        → IsSameButInputs (from_kid e (suc n) s) (from_kid e (suc n) w)
        → IsSameButInputs (cond p (from_kid e n s) (from_kid e (suc n) s))
        (cond q (from_kid e n w) (from_kid e (suc n) w))
    go true true same next later = next
    go false false same next later = later
    go true false same next later = absurd (let z : ⊥ = cc same in z)
    go false true same next later = absurd (let z : ⊥ = cc same in z)

same_before : (e n : ℕ) (t u : Forest) → IsSameButInputs t u → nodes_before e n t ≡ nodes_before e n u
same_before e n none none h = refl
same_before e n none (tree l d j c r) h = absurd h
same_before e n (tree k c i b s) none h = absurd h
same_before e zero (tree k c i b s) (tree l d j v w) h =
    ap (λ x. cond (eqb x e) 0 (suc (size b + nodes_before e zero s))) h.1
    ∙ ap₂ (λ m n. cond (eqb d e) 0 (suc (m + n))) (same_size b v h.3) (same_before e zero s w h.4)
same_before e (suc n) (tree k c i b s) (tree l d j v w) h =
    ap (λ x. cond (eqb x e) (suc (size b + nodes_before e n s)) (suc (size b + nodes_before e (suc n) s))) h.1
    ∙ ap (λ m. cond (eqb d e) (suc (m + nodes_before e n s)) (suc (m + nodes_before e (suc n) s))) (same_size b v h.3)
    ∙ ap₂ (λ x y. cond (eqb d e) (suc (size v + x)) (suc (size v + y))) (same_before e n s w h.4)
    (same_before e (suc n) s w h.4)

same_walk : (p : Path) (seen : ℕ → ℕ) (t u : Forest) → IsSameButInputs t u → nodes_below p seen t ≡ nodes_below p seen u
same_walk p seen none none h = refl
same_walk p seen none (tree l d j c r) h = absurd h
same_walk p seen (tree k c i b s) none h = absurd h
same_walk p seen (tree k c i b s) (tree l d j v w) h =
    ap (λ x. (down x (seen x) p ∷ nodes_below (down x (seen x) p) (λ y. 0) b) ++ nodes_below p (one_more x seen) s) h.1
    ∙ ap₂ (λ m n. (down d (seen d) p ∷ m) ++ n) (same_walk (down d (seen d) p) (λ y. 0) b v h.3)
    (same_walk p (one_more d seen) s w h.4)

module _ (t u : Forest) (h : IsSameButInputs t u) where
  same_at : (p : Path) → IsSameButInputs (at t p) (at u p)
  same_at top = h
  same_at (down c k p) = same_from c k (below_of (at t p)) (below_of (at u p)) (same_below (at t p) (at u p) (same_at p))

  pub same_nodes : (p : Path) → Has t p → Has u p
  same_nodes p has = same_tree (at t p) (at u p) (same_at p) has

  pub same_classes : (p : Path) → class_at t p ≡ class_at u p
  same_classes p = same_class (at t p) (at u p) (same_at p)

  pub same_kids : (p : Path) → kids_at t p ≡ kids_at u p
  same_kids p = fun_ext (λ c. same_count c (below_of (at t p)) (below_of (at u p)) (same_below (at t p) (at u p) (same_at p)))

  pub same_sizes : (p : Path) → size_at t p ≡ size_at u p
  same_sizes p = ap suc (same_size (below_of (at t p)) (below_of (at u p)) (same_below (at t p) (at u p) (same_at p)))

  pub same_numbers : (p : Path) → number_of t p ≡ number_of u p
  same_numbers top = refl
  same_numbers (down c k p) =
      ap₂ (λ m n. suc (m + n)) (same_numbers p)
      (same_before c k (below_of (at t p)) (below_of (at u p)) (same_below (at t p) (at u p) (same_at p)))

  pub same_preorder : preorder t ≡ preorder u
  same_preorder = ap (λ ps. top ∷ ps) (same_walk top (λ c. 0) (below_of t) (below_of u) (same_below t u h))

  module _ (g : AttributeGrammar) where
    pub same_attributes : (p : Path) → attributes_of g (class_at t p) ≡ attributes_of g (class_at u p)
    same_attributes p = ap (attributes_of g) (same_classes p)

    same_widths : width_at g t ≡ width_at g u
    same_widths = fun_ext (λ p. ap (λ k. length (attributes_of g k)) (same_classes p))

    pub same_instances : instances g t ≡ instances g u
    same_instances =
        ap (λ f. flat_map f (preorder t)) (fun_ext (λ p. ap (λ xs. map (instance_of p) xs) (same_attributes p)))
        ∙ ap (flat_map (λ p. map (instance_of p) (attributes_of g (class_at u p)))) same_preorder

    pub same_instance_count : instance_count g t ≡ instance_count g u
    same_instance_count = ap₂ sum_by same_widths same_preorder

    pub same_instance_number : (i : Instance) → instance_number g t i ≡ instance_number g u i
    same_instance_number i =
        ap₂ (λ f k. sum_by f (take k (preorder t)) + place_in (attributes_of g (class_at t i.node)) i.attribute)
        same_widths (same_numbers i.node)
        ∙ ap₂ (λ ps xs. sum_by (width_at g u) (take (number_of u i.node) ps) + place_in xs i.attribute) same_preorder
        (same_attributes i.node)
