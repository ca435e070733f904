-- The tree of a tree's rows is the tree.
use Rattle.std.proofs.Common.{◌≡◌, ℕ, suc, ◌+◌, ◌-◌, List, [], ◌∷◌, ◌++◌, ℤ, length, map, drop, refl, sym, ap, ap₂, ◌∙◌, subst, arith}
use Rattle.std.specs.List.{flat_map, AllByRecursion}
use Rattle.std.proofs.lemmas.List.{append-nil, map-append, take_at, drop_at}
use Rattle.ftl_model.specs.layout.AttributeGrammar.{AttributeGrammar}
use Rattle.ftl_model.specs.layout.Path.{Has, Path, at, child_at, class_at, down, inputs_at, nodes_below, one_more, preorder, size_at, top}
use Rattle.ftl_model.specs.layout.Shape.{Shape, forest_of, shape, shapes}
use Rattle.ftl_model.specs.layout.ShapeLaws.{forest_of-shapes}
use Rattle.ftl_model.specs.layout.Tree.{Forest, IsTree, below_of, class_of, inputs_of, none, size, tree}
use Rattle.ftl_model.specs.layout.TreeOf.{IsTreeOf}
use Rattle.ftl_model.proofs.layout.Fits.{fits_at}
use Rattle.ftl_model.proofs.layout.Numbering.{Left, at-left, has-preorder, left_all, left_below, left_next}
use Rattle.ftl_tree.specs.rows.Rows.{AreRowsOf, all_inputs, input_width, row_of, rows_of, shapes_of, sizes_of, tree_of}

-- a node with its inputs, and how many nodes stand below it
abbrev pub shape_at : Forest → Path → Shape
shape_at t p = shape (class_at t p) (child_at p) (inputs_at t p) (size (below_of (at t p)))

pub shapes-left : (t : Forest) (p : Path) (seen : ℕ → ℕ) (f : Forest) (passed : ℕ) → Left t p seen f passed
    → shapes f ≡ map (shape_at t) (nodes_below p seen f)
shapes-left t p seen none passed h = refl
shapes-left t p seen (tree k d i b s) passed h =
    let q = down d (seen d) p in
    let here : shape k d i (size b) ≡ shape_at t q = ap (λ (f : Forest). shape (class_of f) d (inputs_of f) (size (below_of f))) (sym (at-left t p seen passed k d i b s h)) in
    ap₂ (λ xs ys. xs ++ ys)
    (ap₂ (λ x xs. x ∷ xs) here (shapes-left t q (λ c. 0) b 0 (left_below t p seen passed k d i b s h)))
    (shapes-left t p (one_more d seen) s (passed + suc (size b)) (left_next t p seen passed k d i b s h))
    ∙ sym (map-append (shape_at t) (q ∷ nodes_below q (λ c. 0) b) (nodes_below p (one_more d seen) s))

-- one tree, in its first child and with none beside it
pub record IsOne (t : Forest) : Type 0 where
  pub class : ℕ
  pub inputs : List ℤ
  pub below : Forest
  pub is : t ≡ tree class 0 inputs below none

pub one_tree : (g : AttributeGrammar) (t : Forest) → IsTreeOf g t → IsOne t
one_tree g none h = elim h [ ]
one_tree g (tree k d i b s) h =
    record { class = k; inputs = i; below = b; is = ap (λ d. tree k d i b s) h.3 ∙ ap (λ s. tree k 0 i b s) h.4 }

pub there : (g : AttributeGrammar) (t : Forest) → IsTreeOf g t → IsTree t
there g none h = h
there g (tree k d i b s) h = tt

-- the list of a tree's nodes
pub shapes-preorder : (g : AttributeGrammar) (t : Forest) → IsTreeOf g t → shapes t ≡ map (shape_at t) (preorder t)
shapes-preorder g t h = go (one_tree g t h)
  where
    go : IsOne t → shapes t ≡ map (shape_at t) (preorder t)
    go one =
        subst (λ (f : Forest). shapes f ≡ map (shape_at f) (preorder f)) (sym one.is)
        (let f = tree one.class 0 one.inputs one.below none in
        append-nil (shape one.class 0 one.inputs (size one.below) ∷ shapes one.below)
        ∙ ap (λ xs. shape_at f top ∷ xs) (shapes-left f top (λ c. 0) one.below 0 (left_all f top)))

-- each node has as many inputs as its class
abbrev pub HasInputs : AttributeGrammar → Forest → Path → Type 0
HasInputs g t p = length (inputs_at t p) ≡ input_width g (class_at t p)

pub has_inputs : (g : AttributeGrammar) (t : Forest) (ps : List Path) → IsTreeOf g t → AllByRecursion (Has t) ps → AllByRecursion (HasInputs g t) ps
has_inputs g t [] h has = tt
has_inputs g t (p ∷ ps) h has = ((fits_at g t p h has.0).class.count, has_inputs g t ps h has.1)

shapes_of-paths : (g : AttributeGrammar) (t : Forest) (ps : List Path) → AllByRecursion (HasInputs g t) ps
    → shapes_of g (map (row_of t) ps) (map (size_at t) ps) (flat_map (inputs_at t) ps) ≡ map (shape_at t) ps
shapes_of-paths g t [] h = refl
shapes_of-paths g t (p ∷ ps) h =
    let less : size_at t p - 1 ≡ size (below_of (at t p)) = omega arith in
    let rest = flat_map (inputs_at t) ps in
    ap (λ xs. shape (class_at t p) (child_at p) xs (size_at t p - 1)
    ∷ shapes_of g (map (row_of t) ps) (map (size_at t) ps) (drop (input_width g (class_at t p)) (inputs_at t p ++ rest)))
    (take_at (inputs_at t p) rest (input_width g (class_at t p)) h.0)
    ∙ ap (λ xs. shape (class_at t p) (child_at p) (inputs_at t p) (size_at t p - 1)
    ∷ shapes_of g (map (row_of t) ps) (map (size_at t) ps) xs)
    (drop_at (inputs_at t p) rest (input_width g (class_at t p)) h.0)
    ∙ ap₂ (λ m xs. shape (class_at t p) (child_at p) (inputs_at t p) m ∷ xs) less (shapes_of-paths g t ps h.1)

-- the rows of a tree of the grammar stand for it
pub tree_of-rows : (g : AttributeGrammar) (t : Forest) → IsTreeOf g t → tree_of g (rows_of t) (sizes_of t) (all_inputs t) ≡ t
tree_of-rows g t h =
    ap forest_of (shapes_of-paths g t (preorder t) (has_inputs g t (preorder t) h (has-preorder t (there g t h)))
    ∙ sym (shapes-preorder g t h))
    ∙ forest_of-shapes t

-- what is known of rows, of a tree that is theirs
pub kept : (g : AttributeGrammar) (t : Forest) (rows : _) (sizes : List ℕ) (inputs : List ℤ)
    → AreRowsOf g (tree_of g rows sizes inputs) rows sizes inputs → tree_of g rows sizes inputs ≡ t → AreRowsOf g t rows sizes inputs
kept g t rows sizes inputs h is = subst (λ (f : Forest). AreRowsOf g f rows sizes inputs) is h

pub kept_back : (g : AttributeGrammar) (t : Forest) (rows : _) (sizes : List ℕ) (inputs : List ℤ)
    → AreRowsOf g t rows sizes inputs → tree_of g rows sizes inputs ≡ t
kept_back g t rows sizes inputs h =
    ap (λ rs. tree_of g rs sizes inputs) h.rows_are
    ∙ ap (λ ns. tree_of g (rows_of t) ns inputs) h.sizes_are
    ∙ ap (λ xs. tree_of g (rows_of t) (sizes_of t) xs) h.inputs_are
    ∙ tree_of-rows g t h.is_tree

pub flat : (g : AttributeGrammar) (t : Forest) (rows : _) (sizes : List ℕ) (inputs : List ℤ)
    → AreRowsOf g t rows sizes inputs → AreRowsOf g (tree_of g rows sizes inputs) rows sizes inputs
flat g t rows sizes inputs h = subst (λ (f : Forest). AreRowsOf g f rows sizes inputs) (sym (kept_back g t rows sizes inputs h)) h
