-- The rows of a tree that is built, in preorder.
use Rattle.std.specs.Prelude.{ℕ, zero, suc, ◌+◌, List, [], ◌∷◌, ◌++◌, length}
use Rattle.ftl_model.specs.layout.AttributeGrammar.{AttributeGrammar}
use Rattle.ftl_model.specs.layout.Path.{one_more}
use Rattle.ftl_model.specs.layout.Tree.{Forest, none, size, tree}
use Rattle.ftl_tree.specs.declared.rows.row.NodeRow.{NodeRow}
use Rattle.ftl_tree.specs.declared.rows.row.Place.{Place}
use Rattle.ftl_example.specs.declared.trees.site.Site.{Site}
use Rattle.ftl_example.specs.trees.ExampleTree.{Want}
use Rattle.ftl_example.specs.trees.WantsMeant.{want_meant}

-- a row
abbrev pub row_at : (class parent : ℕ) → Place → NodeRow
row_at k n place = record { class = k; parent = n; place = place }

-- the rows of trees below the node `n`, where so many rows come before and so many kids of each child have come
abbrev pub forest_rows : (n before : ℕ) → (ℕ → ℕ) → Forest → List NodeRow
forest_rows n m seen none = []
forest_rows n m seen (tree k c i below beside) =
    row_at k n (record { child = c; kid = seen c })
    ∷ (forest_rows m (suc m) (λ d. 0) below ++ forest_rows n (suc m + size below) (one_more c seen) beside)

-- of a node with what is below it
abbrev pub node_rows : (parent : ℕ) → Place → (before : ℕ) → ℕ × Forest → List NodeRow
node_rows n place m node = row_at node.0 n place ∷ forest_rows m (suc m) (λ d. 0) node.1

-- of the kids in a child from the j-th on, by what is taken for each
abbrev pub kid_rows : (pick : Want → (interface : ℕ) → ℕ × Forest) → (n before interface child j : ℕ) → List Want
    → List NodeRow
kid_rows pick n m i c j [] = []
kid_rows pick n m i c j (x ∷ xs) =
    let own = node_rows n (record { child = c; kid = j }) m (pick x i) in
    own ++ kid_rows pick n (m + length own) i c (suc j) xs

-- of the kids in so many children of a class, from child c on
abbrev pub children_rows : AttributeGrammar → (pick : Want → (interface : ℕ) → ℕ × Forest) → (wants : ℕ → List Want)
    → (n before class child count : ℕ) → List NodeRow
children_rows g pick wants n m k c zero = []
children_rows g pick wants n m k c (suc count) =
    let own = kid_rows pick n m (g.child_interface k c) c 0 (wants c) in
    own ++ children_rows g pick wants n (m + length own) k (suc c) count

-- of what is to be built at a site, after so many rows
abbrev pub site_rows : (pick : Want → (interface : ℕ) → ℕ × Forest) → Site → (before : ℕ) → List NodeRow
site_rows pick x m = node_rows x.parent x.place m (pick (want_meant x.want) x.interface)
