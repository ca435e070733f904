-- Sums over the nodes so far, and over the attributes of a node so far.
use Rattle.std.proofs.Common.{◌≡◌, ℕ, ◌+◌, ◌*◌, ◌<◌, ◌≤◌, List, [], ◌∷◌, ◌++◌, length, map, flat_map, take, get_or}
use Rattle.std.proofs.Common.{append_assoc, sym, ◌∙◌, ap, subst, arith}
use Rattle.std.proofs.lemmas.List.{flat_map_more, map-append, take_all, take_more}
use Rattle.ftl_model.specs.layout.Path.{node_at, preorder, top}
use Rattle.ftl_model.specs.layout.Solves.{instance_of}
use Rattle.ftl_model.specs.layout.Tree.{size}
use Rattle.ftl_model.specs.layout.TreeOf.{IsTreeOf}
use Rattle.ftl_model.specs.layout.Values.{Value}
use Rattle.ftl_model.proofs.layout.Numbering.{length-preorder}
use Rattle.ftl_tree.proofs.rows.Access.{size-one}
use Rattle.ftl_deps.specs.reads.Meant.{meant}
use Rattle.ftl_meaning.specs.grammars.GrammarOf.{names_of}
use Rattle.ftl_tree.specs.trees.CheckedTree.{CheckedTree}
use Rattle.ftl_tree.specs.boxes.Shows.{node_shows}
use Rattle.ftl_tree.specs.boxes.WordValues.{table_of_words}
use Rattle.ftl_answer.specs.answers.Summary.{shown_values, values_at}
use Rattle.ftl_answer.specs.summary.Summed.{AreSumsOf, AreWithin, values_of}
use Rattle.ftl_answer.specs.declared.summary.sums.Sums.{Sums}

-- the sums of the first nodes, none of which shows more than so many values
pub record AreSumsUpTo (t : CheckedTree) (words : List ℕ) (n : ℕ) (sums : Sums) : Type 0 where
  pub are : AreSumsOf (flat_map (values_at (names_of t.checked.grammar) t.tree (table_of_words t words))
      (take n (preorder t.tree))) sums
  pub within : AreWithin sums
  pub few : sums.shown ≤ n * 4294967295

-- sums with the values of the first of some attributes of a node
pub record AreWithValues (t : CheckedTree) (words : List ℕ) (n : ℕ) (shown : List ℕ) (before : Sums) (count : ℕ)
    (sums : Sums) : Type 0 where
  pub more : (values : List Value) → AreSumsOf values before
      → AreSumsOf (values ++ values_of t words n (take count shown)) sums
  pub within : AreWithin sums
  pub shown_more : sums.shown ≡ before.shown + count

-- one more attribute
pub one_more : (t : CheckedTree) (words : List ℕ) (n : ℕ) (shown : List ℕ) (k d : ℕ) (values : List Value) (sums : Sums)
    → k < length shown
    → AreSumsOf ((values ++ values_of t words n (take k shown))
    ++ (table_of_words t words (instance_of (node_at t.tree n) (get_or shown k d)) ∷ [])) sums
    → AreSumsOf (values ++ values_of t words n (take (k + 1) shown)) sums
one_more t words n shown k d values sums within h =
    let f = λ (b : ℕ). table_of_words t words (instance_of (node_at t.tree n) b) in
    subst (λ (vs : List Value). AreSumsOf vs sums)
    (append_assoc values (values_of t words n (take k shown)) (f (get_or shown k d) ∷ [])
    ∙ ap (λ ys. values ++ ys)
    (sym (map-append f (take k shown) (get_or shown k d ∷ [])) ∙ ap (map f) (sym (take_more shown k d within))))
    h

-- one more node
pub node_more : (t : CheckedTree) (words : List ℕ) (n : ℕ) (before sums : Sums) → IsTreeOf (meant t.checked) t.tree
    → n < size t.tree → AreSumsUpTo t words n before
    → ((values : List Value) → AreSumsOf values before
    → AreSumsOf (values ++ values_of t words n (node_shows t n)) sums)
    → AreSumsOf (flat_map (values_at (names_of t.checked.grammar) t.tree (table_of_words t words))
    (take (n + 1) (preorder t.tree))) sums
node_more t words n before sums is within so_far more =
    let f = values_at (names_of t.checked.grammar) t.tree (table_of_words t words) in
    let known : n < length (preorder t.tree) =
    omega (arith, size-one (meant t.checked) t.tree is, length-preorder t.tree, within) in
    subst (λ values. AreSumsOf values sums)
    (flat_map_more f [] (take n (preorder t.tree)) (node_at t.tree n)
    ∙ ap (flat_map f) (sym (take_more (preorder t.tree) n top known)))
    (more (flat_map f (take n (preorder t.tree))) so_far.are)

-- all nodes
pub nodes_all : (t : CheckedTree) (words : List ℕ) (n : ℕ) (sums : Sums) → IsTreeOf (meant t.checked) t.tree
    → n ≡ size t.tree → AreSumsUpTo t words n sums
    → AreSumsOf (shown_values (names_of t.checked.grammar) t.tree (table_of_words t words)) sums
nodes_all t words n sums is all so_far =
    let f = values_at (names_of t.checked.grammar) t.tree (table_of_words t words) in
    subst (λ values. AreSumsOf values sums)
    (ap (flat_map f)
    (take_all n (preorder t.tree) (omega (arith, size-one (meant t.checked) t.tree is, length-preorder t.tree, all))))
    so_far.are
