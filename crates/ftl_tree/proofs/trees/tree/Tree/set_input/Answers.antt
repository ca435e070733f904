-- One number is put into the list of all inputs, and the tree of the rows is the one with that number.
use Rattle.std.proofs.Common.{◌≡◌, ◌+◌, ◌<◌, ap, ap₂, arith, get_or, of_z, rules, subst, sym, to_z, w64, ◌∙◌, ℕ, ℤ}
use Rattle.std.proofs.Common.{List, Contains, SFits}
use Rattle.std.specs.Prelude.{slice_set}
use Rattle.std.proofs.lemmas.Int.{to_z-of_z}
use Rattle.ftl_model.specs.lists.Lists.{place_in}
use Rattle.ftl_model.proofs.lists.Places.{place_within}
use Rattle.ftl_model.specs.layout.AttributeGrammar.{attributes_of, class_inputs, is_input}
use Rattle.ftl_model.specs.layout.Path.{class_at, node_at}
use Rattle.ftl_model.specs.layout.Tree.{Forest, size}
use Rattle.ftl_model.specs.layout.TreeOf.{IsInput}
use Rattle.ftl_deps.specs.reads.Meant.{meant}
use Rattle.ftl_tree.specs.rows.Rows.{AreNodesOf}
use Rattle.ftl_tree.proofs.rows.AttributePlaces.{fewer}
use Rattle.ftl_tree.proofs.rows.Shapes.{kept_back}
use Rattle.ftl_tree.specs.trees.CheckedTree.{CheckedTree}
use Rattle.ftl_tree.specs.trees.FlatTree.{IsFlat, checked_tree_inside, grammar_inside, tree_inside}
use Rattle.ftl_model.specs.layout.WithInput.{IsInputOf, with_input}
use Rattle.ftl_tree.specs.declared.trees.tree.Tree.TheInside.{Inside}
use Rattle.ftl_tree.proofs.trees.InputSet.{nodes_are, runs_are, set_within, sizes_are}
use Rattle.ftl_tree.proofs.trees.Known.{class_within, first_room, known, length_first_inputs}
use Rattle.ftl_tree.proofs.trees.Made.{are_rows, made}
use Rattle.ftl_tree.proofs.trees.tree.Tree.set_input.Goals as goal

-- the place of an input among those of its node
abbrev place_of : CheckedTree → (node attribute : ℕ) → ℕ
place_of t n a = place_in (class_inputs (meant t.checked) (class_at t.tree (node_at t.tree n))) a

-- what is known of the fields
record Set (i : Inside) (n a : ℕ) (z : ℤ) : Type 0 where
  at : IsInputOf (grammar_inside i) (tree_inside i) n a
  fits : IsInput (grammar_inside i).greatest z

set_known : (i : Inside) (t : CheckedTree) (n a : ℕ) (z : ℤ) → IsFlat i → checked_tree_inside i ≡ t → n < size t.tree
    → Contains (class_inputs (meant t.checked) (class_at t.tree (node_at t.tree n))) a
    → IsInput (meant t.checked).greatest z → Set i n a z
set_known i t n a z flat is within input fits =
    let at : IsInputOf (meant t.checked) t.tree n a =
    record { is_tree = (known i t flat is).rows.is_tree; known = within; input = input } in
    record {
      at = subst (λ (t : CheckedTree). IsInputOf (meant t.checked) t.tree n a) (sym is) at;
      fits = subst (λ (t : CheckedTree). IsInput (meant t.checked).greatest z) (sym is) fits;
    }

-- the nodes with the number in its place
set_nodes : (i : Inside) (n a : ℕ) (z : ℤ) (flat : IsFlat i) (k : Set i n a z) (first place : ℕ) (w : ℤ)
    → first ≡ get_or i.first_inputs.items n first → place ≡ place_of (checked_tree_inside i) n a → w ≡ z
    → AreNodesOf (grammar_inside i) (with_input (grammar_inside i) (tree_inside i) n a z) i.rows.items
    (slice_set i.inputs.items (first + place) w)
set_nodes i n a z flat k first place w start at same =
    let g = grammar_inside i in
    subst (λ (xs : List ℤ). AreNodesOf g (with_input g (tree_inside i) n a z) i.rows.items xs)
    (ap₂ (λ m v. slice_set i.inputs.items (first + m) v) (sym at) (sym same))
    (nodes_are g (tree_inside i) n a z k.at k.fits i.rows.items i.sizes.items i.inputs.items flat.rows
    i.first_inputs.items first first flat.first_inputs start)

pub index-start-requires : goal.index-start-requires
index-start-requires c =
    let k = known c.self.inside c.args.self.now c.self.invariant c.self.view_is in
    omega (arith, length_first_inputs c.self.inside c.args.self.now k, c.requires.node)

pub input_place-requires-clause-class : goal.input_place-requires-clause-class
input_place-requires-clause-class c =
    let k = known c.self.inside c.args.self.now c.self.invariant c.self.view_is in
    omega (arith, c.class.ensures.class, class_within c.self.inside c.args.self.now k c.args.node c.requires.node)

pub input_place-requires-clause-attr : goal.input_place-requires-clause-attr
input_place-requires-clause-attr c =
    subst (λ (m : ℕ). Contains (class_inputs (meant c.args.self.now.checked) m) c.args.attr)
    (sym c.class.ensures.class) c.requires.attr

pub overflow_add-place : goal.overflow_add-place
overflow_add-place c =
    let i = c.self.inside in
    let t = c.args.self.now in
    let g = meant t.checked in
    let k = known i t c.self.invariant c.self.view_is in
    let class = class_at t.tree (node_at t.tree c.args.node) in
    let place = c.input_place.ensures.place ∙ ap (λ m. place_in (class_inputs g m) c.args.attr) c.class.ensures.class in
    omega (
      arith,
      place,
      place_within (class_inputs g class) c.args.attr c.requires.attr,
      fewer (λ a. is_input (g.sort a)) (attributes_of g class),
      first_room i t k c.args.node c.requires.node,
      c.type_inv.start.fits,
    )

pub index_mut-requires : goal.index_mut-requires
index_mut-requires c =
    let i = c.self.inside in
    let t = c.args.self.now in
    let k = known i t c.self.invariant c.self.view_is in
    let place = c.input_place.ensures.place
    ∙ ap (λ m. place_in (class_inputs (meant t.checked) m) c.args.attr) c.class.ensures.class in
    let at : IsInputOf (meant t.checked) t.tree c.args.node c.args.attr =
    record { is_tree = k.rows.is_tree; known = c.requires.node; input = c.requires.attr } in
    let within = set_within (meant t.checked) t.tree c.args.node c.args.attr c.args.value at i.rows.items i.sizes.items
    i.inputs.items i.first_inputs.items c.index-start.result.now c.index-start.result.now k.rows k.first_inputs
    c.index-start.ensures in
    omega (arith, place, within)

pub invariant_of-self : goal.invariant_of-self
invariant_of-self c =
    let i = c.self.inside in
    let t = c.args.self.now in
    let flat = c.self.invariant in
    let n = c.args.node in
    let a = c.args.attr in
    let z = c.args.value in
    let k = set_known i t n a z flat c.self.view_is c.requires.node c.requires.attr c.requires.value in
    let range : SFits w64 z = search rules in
    let place = c.input_place.ensures.place
    ∙ ap (λ m. place_in (class_inputs (meant t.checked) m) a) c.class.ensures.class
    ∙ ap (λ (t : CheckedTree). place_of t n a) (sym c.self.view_is) in
    made _ (with_input (grammar_inside i) (tree_inside i) n a z)
    (set_nodes i n a z flat k c.index-start.result.now c.input_place.result (to_z w64
    (of_z w64 z)) c.index-start.ensures
    place (to_z-of_z w64 z range))
    (flat.rows.sizes_are ∙ sizes_are (grammar_inside i) (tree_inside i) n a z k.at)
    flat.classes flat.input_counts flat.first_instances flat.first_inputs flat.slots
    (runs_are (grammar_inside i) (tree_inside i) n a z k.at i.slots.items i.run_starts.items i.kids.items flat.runs)
    flat.kid_first_instances flat.attribute_places

pub returns : goal.returns
returns c =
    let i = c.self.inside in
    let t = c.args.self.now in
    let flat = c.self.invariant in
    let n = c.args.node in
    let a = c.args.attr in
    let z = c.args.value in
    let g = grammar_inside i in
    let u = with_input g (tree_inside i) n a z in
    let k = set_known i t n a z flat c.self.view_is c.requires.node c.requires.attr c.requires.value in
    let range : SFits w64 z = search rules in
    let place = c.input_place.ensures.place
    ∙ ap (λ m. place_in (class_inputs (meant t.checked) m) a) c.class.ensures.class
    ∙ ap (λ (t : CheckedTree). place_of t n a) (sym c.self.view_is) in
    let nodes = set_nodes i n a z flat k c.index-start.result.now c.input_place.result (to_z w64 (of_z w64 z))
    c.index-start.ensures place (to_z-of_z w64 z range) in
    let with_tree : Forest → CheckedTree = λ f. record { checked = i.checked.now; tree = f } in
    let inputs = slice_set i.inputs.items (c.index-start.result.now + c.input_place.result) (to_z w64 (of_z w64 z)) in
    record {
      tree =
          ap with_tree
          (kept_back g u i.rows.items i.sizes.items inputs
          (are_rows g u i.rows.items i.sizes.items inputs nodes
          (flat.rows.sizes_are ∙ sizes_are g (tree_inside i) n a z k.at)))
          ∙ ap (λ (t : CheckedTree). let s : CheckedTree = record {
            checked = t.checked;
            tree = with_input
                (meant t.checked) t.tree n a z;
          } in s)
          c.self.view_is;
    }
