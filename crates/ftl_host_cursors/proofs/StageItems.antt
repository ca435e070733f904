-- The steps of an item of a stage some of whose passes nest others.
use Rattle.std.proofs.Common.{◌≡◌, ◌≢◌, ℕ, ◌<◌, refl, sym, ◌∙◌, ap, subst, arith, List, ◌++◌, Bool, get_or, length, Option, None, Some}
use Rattle.std.proofs.lemmas.List.{append-nil}
use Rattle.std.proofs.lemmas.List.Elements.{All-get_or}
use Rattle.std.proofs.Math.ListN.{get_or-map}
use mathlib.Core.Path.{fun_ext}
use Rattle.ftl_deps.specs.reads.Meant.{meant}
use Rattle.ftl_model.specs.layout.AttributeGrammar.{AttributeGrammar}
use Rattle.ftl_model.specs.layout.Path.{Path, number_of}
use Rattle.ftl_model.specs.layout.Solves.{Instance}
use Rattle.ftl_model.specs.layout.Tree.{Forest}
use Rattle.ftl_order.specs.declared.steps.step.Step.{Step}
use Rattle.ftl_order.specs.orders.Lawful.{IsLawful}
use Rattle.ftl_order.specs.orders.Schedule as order
use Rattle.ftl_order.specs.orders.Schedule.{EachStandsOnce, entries, pass_at, placing_of}
use Rattle.ftl_order.specs.orders.Sequence.{sequence}
use Rattle.ftl_schedule.specs.declared.stages.types.Pass.{Pass}
use Rattle.ftl_schedule.specs.declared.syntax.kind.PassKind.TheVariants.{InOrder}
use Rattle.ftl_schedule.specs.stages.Stages.{kind_of, pass_of}
use Rattle.ftl_tree.specs.trees.CheckedTree.{CheckedTree}
use Rattle.ftl_items.specs.stage_items.Cut.{PassCut}
use Rattle.ftl_items.specs.stage_items.Items.{Item, form_steps, item_steps, pass_place}
use Rattle.ftl_items.specs.stage_items.Visits.{visit}
use Rattle.ftl_nests.specs.NestItems.{nest_form, visit_with}
use Rattle.ftl_nests.specs.Nests.{Nest, NestingPass, NestingSchedule, inner_stages, nesting_pass, no_pass, outer_schedule}
use Rattle.ftl_nests.proofs.Sides.{outer_pass_at}
use Rattle.ftl_cursors.specs.item_cursor.ItemSteps.{AreStepsOf, forest_in, form_in, grammar_in, order_of}
use Rattle.ftl_cursors.specs.items.StageItems.{IsFound, cuts_in, hosts_in, item_in, pass_numbered, passes_in}
use Rattle.ftl_cursors.specs.stages.PassTables.{ArePassTables}
use Rattle.ftl_cursors.specs.visits.ItemSteps.{node_count_by}
use Rattle.ftl_cursors.specs.visits.NodeRanges.{nodes_in}
use Rattle.ftl_cursors.specs.declared.items.view.FoundItem.{FoundItem}
use Rattle.ftl_cursors.proofs.item_cursor.PassesAt as passes_at
use Rattle.ftl_cursors.proofs.item_cursor.ItemVisits.{node_there, number_is, pass, pass_is, whole}
use Rattle.ftl_host_cursors.specs.HostLaws.{StandFor}
use Rattle.ftl_host_cursors.specs.HostPlaces.{steps_in}
use Rattle.ftl_host_cursors.specs.HostSteps.{host_steps}
use Rattle.ftl_host_cursors.specs.NestTables.{AreHostTablesOf, AreNestTables, AreOfStage, HasTables, NestMeaning, kept_meaning, nest_meaning, nesting_passes, own_pass}
use Rattle.ftl_host_cursors.specs.declared.nest_rows.NestRows.{NestRows}
use Rattle.ftl_host_cursors.specs.declared.tables.HostTables.{HostTables}
use Rattle.ftl_host_cursors.specs.declared.tables.NestTables.{NestTables}
use Rattle.ftl_host_cursors.proofs.ItemTargets.{item_is}
use Rattle.ftl_host_cursors.proofs.KeptNests.{few_inner, no_nest}
use Rattle.ftl_host_cursors.proofs.StageCuts as cuts

module _ (x : NestTables) (i : ℕ) (found : FoundItem) (is : IsFound x.own.items i found) where
  abbrev g : AttributeGrammar
  g = grammar_in x.own

  abbrev t : Forest
  t = forest_in x.own

  abbrev grain : ℕ
  grain = x.own.items.rows.now.grain

  abbrev this : Item
  this = item_in x.own.items i

  -- the pass of the item has an entry
  pub nest_known : AreNestTables x → found.pass < length x.nests.now
  nest_known are =
      let long = are.count in
      let below = is.pass_known in
      omega (arith, long, below)

  -- where it nests others, these have their tables, and it is no inorder one
  pub nest_tables : AreNestTables x → (nest : NestRows) → get_or x.nests.now found.pass None ≡ Some nest
      → ArePassTables g nest.passes.items nest.tables
  nest_tables are nest some =
      subst (HasTables g) some (All-get_or (HasTables g) x.nests.now found.pass None (nest_known are) are.tables)

  pub not_inorder : AreNestTables x → (nest : NestRows) → get_or x.nests.now found.pass None ≡ Some nest
      → (pass x.own i found is).kind ≢ InOrder
  not_inorder are nest some inorder =
      let kind = ap (λ (p : order.Pass). p.kind) (pass_is x.own i found is) ∙ ap kind_of inorder in
      let none = ap (λ m. get_or x.nests.now m None) is.pass_is ∙ are.inorder_has_none this.pass kind in
      let both = sym none ∙ some in
      let z : ⊥ = cc in
      z

  module _ (s : NestingSchedule) (stage : ℕ) (of : AreOfStage x s stage) where
    -- the pass of the item with what it nests
    abbrev w : NestingPass
    w = nesting_pass s stage this.pass

    abbrev instances : List Instance
    instances = item_steps (nest_form g s t grain stage) t this

    own_is : pass_numbered x.own.items this.pass ≡ own_pass w
    own_is = cuts.own_at g s t grain stage (passes_in x.own.items) (hosts_in x.own.items) of.passes of.hosts this.pass

    cut_is : cuts_in x.own.items this.pass ≡ (nest_form g s t grain stage this.pass).cut
    cut_is = cuts.cut_is g s t grain stage (passes_in x.own.items) (hosts_in x.own.items) of.passes of.hosts this.pass

    -- what is kept is what it nests
    nest_is : (kept : Option NestRows) → get_or x.nests.now found.pass None ≡ kept → kept_meaning kept ≡ nest_meaning w.nest
    nest_is kept e =
        ap kept_meaning (sym e)
        ∙ sym (get_or-map kept_meaning x.nests.now found.pass None)
        ∙ ap (λ (ns : List NestMeaning). get_or ns found.pass (kept_meaning None)) of.nests
        ∙ get_or-map (λ (p : NestingPass). nest_meaning p.nest) (nesting_passes s stage) found.pass no_pass
        ∙ ap (λ n. nest_meaning (nesting_pass s stage n).nest) is.pass_is

    -- ---- where it nests nothing

    module _ (nothing : get_or x.nests.now found.pass None ≡ None) where
      none : w.nest ≡ None
      none = no_nest w.nest (ap (λ (n : NestMeaning). n.host) (nest_is None nothing))

      -- the outer schedule has its own list alone
      pub outer_is : pass_at (outer_schedule s) stage this.pass ≡ pass_numbered x.own.items this.pass
      outer_is =
          outer_pass_at s stage this.pass
          ∙ ap (λ (nest : Option Nest). record { kind = w.kind; attributes = w.attributes ++ entries (inner_stages nest) })
          none
          ∙ ap (λ (own : List ℕ). record { kind = w.kind; attributes = own }) (append-nil w.attributes)
          ∙ sym own_is

      abbrev steps_with : PassCut → (Path → List Instance) → List Instance
      steps_with cut visit_at =
          form_steps cut.kind
          (record {
            cut = cut;
            visit = visit_at;
            sequence = sequence g (placing_of (outer_schedule s)) (pass_place stage this.pass) t;
          }) t this.first

      visit_is : visit g t w.attributes ≡ visit_with g t w.kind w.attributes w.nest
      visit_is =
          fun_ext (λ p. ap (λ (nest : Option Nest). visit_with g t w.kind w.attributes nest p) (sym none))

      -- so the item has the steps of a flat one
      pub plain_is : item_steps (form_in x.own (outer_schedule s) stage) t this ≡ instances
      plain_is =
          ap (λ (cut : PassCut). steps_with cut (visit g t (pass_numbered x.own.items this.pass).attributes)) cut_is
          ∙ ap
          (λ (p : order.Pass). steps_with (nest_form g s t grain stage this.pass).cut (visit g t p.attributes)) own_is
          ∙ ap (steps_with (nest_form g s t grain stage this.pass).cut) visit_is

    -- ---- where it nests others

    module _ (nest : NestRows) (some : get_or x.nests.now found.pass None ≡ Some nest) where
      abbrev of_pass : Pass
      of_pass = pass x.own i found is

      own_pass_is : pass_of of_pass ≡ own_pass w
      own_pass_is = sym (pass_is x.own i found is) ∙ own_is

      stand : StandFor w of_pass (Some nest.host) nest.passes.items
      stand =
          let kept = nest_is (Some nest) some in
          record {
            kind = ap (λ (p : order.Pass). p.kind) own_pass_is;
            own = ap (λ (p : order.Pass). p.attributes) own_pass_is;
            host = ap (λ (n : NestMeaning). n.host) kept;
            inner = ap (λ (n : NestMeaning). n.inner) kept;
          }

      abbrev nodes_with : (Path → Bool) → List Step
      nodes_with is_whole =
          host_steps g t of_pass (Some nest.host) nest.passes.items
          (nodes_in (order_of of_pass.kind) (number_of t this.first) (node_count_by is_whole t this.first))

      pub hosted_are : IsLawful g → of_pass.kind ≢ InOrder → EachStandsOnce g (outer_schedule s)
          → AreStepsOf g t instances (nodes_with (whole x.own i found is))
      hosted_are law kind once =
          subst (λ (cut : PassCut). AreStepsOf g t instances (nodes_with cut.is_whole)) (sym cut_is)
          (item_is g t law is.is_tree of_pass (Some nest.host) nest.passes.items kind s grain stage this
          (node_there x.own i found is) w refl stand (few_inner g s once stage this.pass))

  -- what the cursor gives are these steps
  module _ (nest : NestRows) (y : HostTables) (of : AreHostTablesOf x found nest y) where
    pub given_are : (count : ℕ) → count ≡ node_count_by (whole x.own i found is) t this.first
        → steps_in y (nodes_in (order_of y.pass.now.kind) found.node count)
        ≡ host_steps g t (pass x.own i found is) (Some nest.host) nest.passes.items
        (nodes_in (order_of (pass x.own i found is).kind) (number_of t this.first)
        (node_count_by (whole x.own i found is) t this.first))
    given_are count counted =
        ap
        (λ (u : CheckedTree). host_steps (meant u.checked) u.tree y.pass.now y.host y.inner.now
        (nodes_in (order_of y.pass.now.kind) found.node count)) of.tree
        ∙ ap (λ (h : Option ℕ). host_steps g t y.pass.now h y.inner.now
        (nodes_in (order_of y.pass.now.kind) found.node count)) of.host
        ∙ ap (λ (inner : List Pass). host_steps g t y.pass.now (Some nest.host) inner
        (nodes_in (order_of y.pass.now.kind) found.node count)) of.inner
        ∙ ap (λ (p : Pass). host_steps g t p (Some nest.host) nest.passes.items
        (nodes_in (order_of p.kind) found.node count)) (of.pass passes_at.no_pass)
        ∙ ap (λ n. host_steps g t (pass x.own i found is) (Some nest.host) nest.passes.items
        (nodes_in (order_of (pass x.own i found is).kind) n count)) (sym (number_is x.own i found is))
        ∙ ap (λ n. host_steps g t (pass x.own i found is) (Some nest.host) nest.passes.items
        (nodes_in (order_of (pass x.own i found is).kind) (number_of t this.first) n)) counted
