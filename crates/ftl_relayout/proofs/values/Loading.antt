-- What reads give, by the values there are, and a row of it.
use Rattle.std.proofs.Common.{◌≡◌, ℕ, ◌+◌, ◌<◌, List, [], ◌∷◌, ◌++◌, map, take, get_or, set, length, Some, sym, ap, ap₂, ◌∙◌, subst, add-one}
use Rattle.std.proofs.Math.Seq.{take-suc}
use Rattle.std.proofs.lemmas.List.{map-append, take_more_set}
use Rattle.ftl_deps.specs.reads.Meant.{meant}
use Rattle.ftl_meaning.specs.grammars.Meaning.{value_seen}
use Rattle.ftl_model.proofs.lists.Elements.{here_in}
use Rattle.ftl_model.specs.layout.AttributeGrammar.{Occurrence}
use Rattle.ftl_model.specs.layout.Path.{node_at}
use Rattle.ftl_model.specs.layout.Solves.{seen_from}
use Rattle.ftl_model.specs.layout.Table.{instance_count}
use Rattle.ftl_model.specs.layout.TreeOf.{IsTreeOf}
use Rattle.ftl_model.specs.layout.Values.{Value, overflow}
use Rattle.ftl_order.proofs.orders.Instances.{number_within}
use Rattle.ftl_step_value.specs.cells.Seen.{EachIsSeen, cell_seen}
use Rattle.ftl_tree.specs.trees.CheckedTree.{CheckedTree}
use Rattle.ftl_relayout.specs.values.PartSites.{value_at}

module _ (t : CheckedTree) (node : ℕ) where
  -- a read of one cell gives its value
  pub one_given : (cell : ℕ) (os : List Occurrence) (values : List Value) → cell ∷ [] ≡ map (cell_seen t node) os
      → Some (get_or values cell overflow) ≡ value_seen (value_at t values node) os
  one_given cell [] values is = absurd (let z : ⊥ = cc in z)
  one_given cell (o ∷ os) values is =
      let e : cell ≡ cell_seen t node o = cc in ap (λ n. Some (get_or values n overflow)) e

  -- the cell is there
  pub one_within : (fits : IsTreeOf (meant t.checked) t.tree) (cell : ℕ) (os : List Occurrence)
      → cell ∷ [] ≡ map (cell_seen t node) os → EachIsSeen t node os
      → cell < instance_count (meant t.checked) t.tree
  one_within fits cell [] is all = absurd (let z : ⊥ = cc in z)
  one_within fits cell (o ∷ os) is all =
      let e : cell_seen t node o ≡ cell = cc in
      let i = seen_from (node_at t.tree node) o in
      let here = all o (here_in o os) in
      subst (λ n. n < instance_count (meant t.checked) t.tree) e
      (number_within (meant t.checked) t.tree i.node i.attribute here.0 here.1)

-- one more at the end of a row
pub row_more : {X V : Type 0} (f : X → V) (xs : List X) (row : List V) (k : ℕ) (d : X) (v : V)
    → k < length xs → k < length row → take k row ≡ map f (take k xs) → v ≡ f (get_or xs k d)
    → take (k + 1) (set row k v) ≡ map f (take (k + 1) xs)
row_more f xs row k d v in_list in_row so_far is =
    take_more_set row k v in_row
    ∙ ap₂ (λ vs w. vs ++ w ∷ []) so_far is
    ∙ sym
    (ap (λ n. map f (take n xs)) (add-one k)
    ∙ ap (map f) (take-suc xs k d in_list)
    ∙ map-append f (take k xs) (get_or xs k d ∷ []))
