-- No tree is lost in the list of its nodes.
use Rattle.std.proofs.Common.{◌≡◌, ℕ, zero, suc, ◌≤◌, ◌∷◌, ◌++◌, length, drop, refl, ap, ◌∙◌, arith, length-append}
use Rattle.std.proofs.lemmas.List.{take_at, drop_at}
use Rattle.ftl_model.specs.layout.Tree.{Forest, none, tree, size}
use Rattle.ftl_model.specs.layout.Shape.{shape, shapes, forest_within, forest_of}

-- the list has a node for each
pub length-shapes : (f : Forest) → length (shapes f) ≡ size f
length-shapes none = refl
length-shapes (tree k d i b s) =
    omega (arith, length-append (shape k d i (size b) ∷ shapes b) (shapes s), length-shapes b, length-shapes s)

-- the trees come back in at least as many steps as there are nodes
pub forest_within-shapes : (n : ℕ) (f : Forest) → size f ≤ n → forest_within n (shapes f) ≡ f
forest_within-shapes zero none h = refl
forest_within-shapes (suc n) none h = refl
forest_within-shapes zero (tree k d i b s) h = absurd (omega (arith, h))
forest_within-shapes (suc n) (tree k d i b s) h =
    ap (λ xs. tree k d i (forest_within n xs) (forest_within n (drop (size b) (shapes b ++ shapes s))))
    (take_at (shapes b) (shapes s) (size b) (length-shapes b))
    ∙ ap (λ xs. tree k d i (forest_within n (shapes b)) (forest_within n xs))
    (drop_at (shapes b) (shapes s) (size b) (length-shapes b))
    ∙ ap (λ f. tree k d i f (forest_within n (shapes s))) (forest_within-shapes n b (omega (arith, h)))
    ∙ ap (λ f. tree k d i b f) (forest_within-shapes n s (omega (arith, h)))

-- the trees that have a family's nodes are the family
pub forest_of-shapes : (f : Forest) → forest_of (shapes f) ≡ f
forest_of-shapes f = forest_within-shapes (length (shapes f)) f (omega (arith, length-shapes f))
