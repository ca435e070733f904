-- What reads give, by the words that are there.
use Rattle.std.proofs.Common.{◌≡◌, ℕ, List, [], ◌∷◌, map, Some, None, refl, ap, subst, Contains}
use Rattle.ftl_deps.specs.reads.Meant.{meant}
use Rattle.ftl_meaning.specs.grammars.Meaning.{value_seen}
use Rattle.ftl_model.proofs.lists.Elements.{here_in}
use Rattle.ftl_model.proofs.lists.Rising.{map_has}
use Rattle.ftl_model.specs.layout.AttributeGrammar.{Occurrence}
use Rattle.ftl_model.specs.layout.Path.{Path, node_at}
use Rattle.ftl_model.specs.layout.Solves.{Instance, IsInstance, seen_from}
use Rattle.ftl_model.specs.layout.Table.{value_in}
use Rattle.ftl_model.specs.layout.Values.{Value}
use Rattle.ftl_step_value.specs.cells.Seen.{EachIsSeen}
use Rattle.ftl_tree.specs.trees.CheckedTree.{CheckedTree}
use Rattle.ftl_demand.specs.declared.demand.waiting.NodeAttr.{NodeAttr}
use Rattle.ftl_demand.specs.demand.Outcomes.{IsLacking, instances_seen, value_at}
use Rattle.ftl_demand.specs.demand.Sites.{instance_at}
use Rattle.ftl_demand.proofs.demand.WaitingSteps.{map_in}

module _ (t : CheckedTree) (node : ℕ) where
  abbrev p : Path
  p = node_at t.tree node

  -- of nothing
  pub none_given : (s : Occurrence → Value) (os : List Occurrence) → [] ≡ instances_seen t node os
      → None ≡ value_seen s os
  none_given s [] is = refl
  none_given s (o ∷ os) is = absurd (let z : ⊥ = cc in z)

  -- of one instance
  pub one_given : (i : Instance) (os : List Occurrence) (values : List Value) → i ∷ [] ≡ instances_seen t node os
      → Some (value_in (meant t.checked) t.tree values i) ≡ value_seen (value_at t values node) os
  one_given i [] values is = absurd (let z : ⊥ = cc in z)
  one_given i (o ∷ os) values is =
      let e : i ≡ seen_from p o = cc in ap (λ j. Some (value_in (meant t.checked) t.tree values j)) e

  pub one_there : (i : Instance) (os : List Occurrence) → i ∷ [] ≡ instances_seen t node os → EachIsSeen t node os
      → IsInstance (meant t.checked) t.tree i
  one_there i [] is all = absurd (let z : ⊥ = cc in z)
  one_there i (o ∷ os) is all =
      let e : seen_from p o ≡ i = cc in subst (IsInstance (meant t.checked) t.tree) e (all o (here_in o os))

  pub one_seen : (i : Instance) (os : List Occurrence) → i ∷ [] ≡ instances_seen t node os
      → Contains (instances_seen t node os) i
  one_seen i os is = subst (λ is. Contains is i) is (here_in i [])

  -- what some of the occurrences lack all lack
  pub lacks_more : (os more : List Occurrence) → ((o : Occurrence) → Contains os o → Contains more o)
      → (words : List ℕ) (y : NodeAttr) → IsLacking t words (instances_seen t node os) y
      → IsLacking t words (instances_seen t node more) y
  lacks_more os more among words y h =
      let from = map_in (seen_from p) os (instance_at t y) h.read in
      record {
        known = h.known;
        read =
            subst (Contains (map (seen_from p) more)) from.2
            (map_has (seen_from p) more from.0 (among from.0 from.1));
        none = h.none;
      }
