-- The pass of an item with its visits, its nodes, and what its steps compute.
use Rattle.std.proofs.Common.{◌≡◌, ◌≢◌, ℕ, ◌+◌, ◌<◌, ◌≤◌, Bool, refl, sym, ◌∙◌, ap, subst, arith, List, [], get_or, length, map, Contains}
use Rattle.std.specs.List.{range_with_len}
use Rattle.std.proofs.lemmas.List.{get_or-map, get_or_default, length-map}
use Rattle.ftl_model.proofs.lists.Elements.{in_range_from}
use Rattle.ftl_cursors.specs.items.HostRows.{AreCutAs}
use Rattle.ftl_cursors.specs.items.RowsCut.{is_whole_in}
use Rattle.ftl_cursors.specs.items.StageItems.{IsFound, cuts_in, item_in, pass_numbered, passes_in, tree_in}
use Rattle.ftl_cursors.specs.declared.items.columns.ItemRows.{ItemRows}
use Rattle.ftl_cursors.specs.declared.items.view.FoundItem.{FoundItem}
use Rattle.ftl_items.specs.stage_items.Cut.{nodes_by}
use Rattle.ftl_items.specs.stage_items.Items.{Item, form_steps, item_steps, pass_place}
use Rattle.ftl_items.specs.stage_items.Visits.{visit}
use Rattle.ftl_items.proofs.stage_items.Reverses.{in_reverse}
use Rattle.ftl_cursors.specs.inorder.InorderSteps.{StepsComputeTheSequence, inorder_steps}
use Rattle.ftl_model.specs.layout.AttributeGrammar.{AttributeGrammar}
use Rattle.ftl_model.specs.layout.Path.{Has, Path, node_at, number_of, top}
use Rattle.ftl_model.specs.layout.Solves.{Instance}
use Rattle.ftl_model.specs.layout.Tree.{Forest, size}
use Rattle.ftl_model.proofs.layout.Numbering.{has-node_at, number_of-node_at}
use Rattle.ftl_order.specs.orders.Lawful.{IsLawful}
use Rattle.ftl_order.specs.orders.Schedule as order
use Rattle.ftl_order.specs.orders.Schedule.{EachStandsOnce, Schedule, empty_pass, placing_of}
use Rattle.ftl_order.specs.orders.Sequence.{sequence}
use Rattle.ftl_order.proofs.orders.Kids.{root_there}
use Rattle.ftl_schedule.specs.declared.syntax.kind.PassKind.{PassKind}
use Rattle.ftl_schedule.specs.declared.syntax.kind.PassKind.TheVariants.{BottomUp, InOrder, TopDown}
use Rattle.ftl_cursors.specs.sequence.BlockPlaces.{places_of}
use Rattle.ftl_cursors.specs.declared.sequence.block_places.BlockPlaces.{BlockPlaces}
use Rattle.ftl_cursors.specs.stages.PassTables.{pass_places, pass_visits}
use Rattle.ftl_schedule.specs.stages.Stages.{kind_of, pass_of}
use Rattle.ftl_schedule.specs.declared.stages.types.Pass.{Pass}
use Rattle.ftl_order.specs.steps.Steps.{target_of}
use Rattle.ftl_tree.proofs.rows.Access.{size-one}
use Rattle.ftl_cursors.specs.visits.ItemSteps.{node_count_by, targets_by}
use Rattle.ftl_cursors.specs.visits.NodeRanges.{nodes_in}
use Rattle.ftl_cursors.specs.visits.VisitSteps.{steps_of_nodes}
use Rattle.ftl_cursors.specs.declared.visits.nodes.NodeOrder.{NodeOrder}
use Rattle.ftl_cursors.specs.declared.visits.nodes.NodeOrder.TheVariants.{Preorder, Reverse}
use Rattle.ftl_cursors.proofs.items.Found.{told}
use Rattle.ftl_cursors.proofs.items.RowFacts.{length-nodes_by}
use Rattle.ftl_cursors.proofs.visits.ItemLemmas.{bottomup_targets, nodes_within, topdown_targets}
use Rattle.ftl_cursors.proofs.item_cursor.PassesAt.{no_pass, numbered_is, pass_at, table_at, table_known, visits_at}
use Rattle.ftl_visit.specs.declared.visits.visit_op.VisitOp.{VisitOp}
use Rattle.ftl_visit.specs.passes.VisitRows.{visits_of}
use Rattle.ftl_cursors.specs.item_cursor.ItemSteps.{AreItemTables, forest_in, form_in, grammar_in, order_of}
use Rattle.ftl_cursors.specs.declared.item_cursor.item.ItemTables.{ItemTables}

same_kind : (k l : PassKind) → kind_of k ≡ kind_of l → k ≡ l
same_kind TopDown TopDown e = refl
same_kind TopDown BottomUp e = absurd (let z : ⊥ = cc in z)
same_kind TopDown InOrder e = absurd (let z : ⊥ = cc in z)
same_kind BottomUp TopDown e = absurd (let z : ⊥ = cc in z)
same_kind BottomUp BottomUp e = refl
same_kind BottomUp InOrder e = absurd (let z : ⊥ = cc in z)
same_kind InOrder TopDown e = absurd (let z : ⊥ = cc in z)
same_kind InOrder BottomUp e = absurd (let z : ⊥ = cc in z)
same_kind InOrder InOrder e = refl

-- the nodes of a range are below its end
pub in_nodes : (o : NodeOrder) (first count n : ℕ) → Contains (nodes_in o first count) n → n < first + count
in_nodes Preorder first count n h = (in_range_from first count n h).1
in_nodes Reverse first count n h = (in_range_from first count n (in_reverse (range_with_len first count) n h)).1

module _ (x : ItemTables) (i : ℕ) (found : FoundItem) (is : IsFound x.items i found) where
  abbrev this : Item
  this = item_in x.items i

  -- the pass of the item
  abbrev pub pass : Pass
  pass = pass_at x found.pass

  pub pass_is : pass_numbered x.items this.pass ≡ pass_of pass
  pass_is = ap (pass_numbered x.items) (sym is.pass_is) ∙ numbered_is x found.pass is.pass_known

  pub kind_is : found.kind ≡ pass.kind
  kind_is = same_kind found.kind pass.kind (is.kind_is ∙ ap (λ (p : order.Pass). p.kind) pass_is)

  pub pass_listed : (d : Pass) → get_or x.items.passes.now found.pass d ≡ pass
  pass_listed d = get_or_default x.items.passes.now found.pass d no_pass is.pass_known

  pub visits_are : AreItemTables x → (d : List (List VisitOp))
      → get_or x.visits.now found.pass d ≡ visits_of (grammar_in x) found.kind pass.attrs
  visits_are tables d =
      visits_at x found.pass is.pass_known tables d
      ∙ ap (λ k. visits_of (grammar_in x) k pass.attrs) (sym kind_is)

  pub visit_known : AreItemTables x → found.pass < length x.visits.now
  visit_known tables = table_known x found.pass is.pass_known (pass_visits (grammar_in x)) x.visits.now tables.visits

  pub places_are : AreItemTables x → (d : List (List BlockPlaces))
      → get_or x.places.now found.pass d ≡ places_of (visits_of (grammar_in x) found.kind pass.attrs)
  places_are tables d =
      table_at x found.pass is.pass_known (pass_places (grammar_in x)) x.places.now d tables.places
      ∙ ap (λ k. places_of (visits_of (grammar_in x) k pass.attrs)) (sym kind_is)

  pub places_known : AreItemTables x → found.pass < length x.places.now
  places_known tables = table_known x found.pass is.pass_known (pass_places (grammar_in x)) x.places.now tables.places

  pub number_is : number_of (forest_in x) this.first ≡ found.node
  number_is =
      let one = size-one (grammar_in x) (forest_in x) is.is_tree in
      let low = is.known in
      ap (number_of (forest_in x)) (sym is.node_is)
      ∙ number_of-node_at (forest_in x) found.node (omega (arith, one, low))

  pub node_there : Has (forest_in x) this.first
  node_there =
      let one = size-one (grammar_in x) (forest_in x) is.is_tree in
      let low = is.known in
      subst (Has (forest_in x)) is.node_is
      (has-node_at (forest_in x) found.node (root_there (grammar_in x) (forest_in x) is.is_tree)
      (omega (arith, one, low)))

  -- which trees are one item
  abbrev pub whole : Path → Bool
  whole = (cuts_in x.items this.pass).is_whole

  -- the nodes of the item, by the rows of its pass
  pub count_is : (rows : ItemRows) → AreCutAs x.items.rows.now (cuts_in x.items found.pass) rows
      → length (nodes_by (is_whole_in rows) (tree_in rows) (node_at (tree_in rows) found.node))
      ≡ node_count_by whole (forest_in x) this.first
  count_is rows cut =
      told x.items i found is rows cut (λ w t. length (nodes_by w t.tree (node_at t.tree found.node)))
      ∙ ap (λ p. length (nodes_by whole (forest_in x) p)) is.node_is
      ∙ length-nodes_by whole (forest_in x) this.first

  pub within : found.node + node_count_by whole (forest_in x) this.first ≤ size (forest_in x)
  within =
      let all = nodes_within (grammar_in x) (forest_in x) is.is_tree whole this.first node_there in
      let number = number_is in
      omega (arith, all, number)

  module _ (law : IsLawful (grammar_in x)) (s : Schedule) (stage : ℕ) where
    abbrev g : AttributeGrammar
    g = grammar_in x

    abbrev t : Forest
    t = forest_in x

    -- the steps of the item in a pass of this kind, with this list
    abbrev steps_with : order.PassKind → List ℕ → List Instance
    steps_with kind attributes =
        form_steps kind
        (record {
          cut = record { kind = kind; is_whole = whole };
          visit = visit g t attributes;
          sequence = sequence g (placing_of s) (pass_place stage this.pass) t;
        })
        t this.first

    by_kind : (k : PassKind) → k ≢ InOrder
        → targets_by g whole t k pass.attrs (order_of k) this.first ≡ steps_with (kind_of k) pass.attrs
    by_kind TopDown ne = topdown_targets g t is.is_tree whole this.first node_there law pass.attrs
    by_kind BottomUp ne = bottomup_targets g t is.is_tree whole this.first node_there law pass.attrs
    by_kind InOrder ne = absurd (ne refl)

    -- what the item has, by its pass
    has : steps_with (kind_of found.kind) pass.attrs ≡ item_steps (form_in x s stage) t this
    has =
        ap (λ k. steps_with (kind_of k) pass.attrs) kind_is
        ∙ ap (λ (p : order.Pass). steps_with p.kind p.attributes) (sym pass_is)

    -- what the steps of its visits compute is what the item has
    pub targets_are : found.kind ≢ InOrder
        → map (target_of g t)
        (steps_of_nodes g t (visits_of g found.kind pass.attrs)
        (nodes_in (order_of found.kind) found.node (node_count_by whole t this.first)))
        ≡ item_steps (form_in x s stage) t this
    targets_are other =
        ap
        (λ n. map (target_of g t)
        (steps_of_nodes g t (visits_of g found.kind pass.attrs)
        (nodes_in (order_of found.kind) n (node_count_by whole t this.first))))
        (sym number_is)
        ∙ by_kind found.kind other
        ∙ has

    -- the pass in the schedule
    pass_there : order.pass_at s stage this.pass ≡ pass_numbered x.items this.pass → pass_of pass ≡ order.pass_at s stage this.pass
    pass_there there = sym pass_is ∙ sym there

    -- and so is what the steps of an inorder pass compute
    pub sequence_is : StepsComputeTheSequence → found.kind ≡ InOrder → EachStandsOnce g s
        → order.pass_at s stage this.pass ≡ pass_numbered x.items this.pass
        → map (target_of g t) (inorder_steps g t pass.attrs top) ≡ item_steps (form_in x s stage) t this
    sequence_is computes kind ordered there =
        ap (λ (p : order.Pass). map (target_of g t) (inorder_steps g t p.attributes top)) (pass_there there)
        ∙ computes g s t law ordered is.is_tree stage this.pass
        ∙ ap (λ k. steps_with (kind_of k) pass.attrs) (sym kind)
        ∙ has
