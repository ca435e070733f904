-- Items have no steps whose nodes have no class with operations.
use Rattle.std.proofs.Common.{◌≡◌, ◌≢◌, ℕ, ◌<◌, [], flat_map, get_or, length, reverse, Contains, refl, sym, ◌∙◌, ap, arith}
use Rattle.std.proofs.lemmas.List.{length-map}
use Rattle.std.proofs.lemmas.List.Elements.{Contains-get_or}
use Rattle.ftl_items.specs.stage_items.Cut.{nodes_by}
use Rattle.ftl_items.specs.stage_items.Items.{Item, PassForm, form_steps, no_item}
use Rattle.ftl_items.specs.stage_items.Visits as items
use Rattle.ftl_items.proofs.stage_items.CutItems.{item_here}
use Rattle.ftl_items.proofs.stage_items.Homes.{has_held}
use Rattle.ftl_items.proofs.stage_items.Reverses.{in_reverse}
use Rattle.ftl_model.specs.layout.AttributeGrammar.{AttributeGrammar}
use Rattle.ftl_model.specs.layout.Path.{Has, Path, class_at}
use Rattle.ftl_model.specs.layout.Tree.{Forest}
use Rattle.ftl_model.specs.layout.TreeOf.{IsTreeOf}
use Rattle.ftl_order.specs.orders.Lawful.{IsLawful}
use Rattle.ftl_order.specs.orders.Schedule as order
use Rattle.ftl_order.specs.orders.Schedule.{bottomup, inorder, topdown}
use Rattle.ftl_order.proofs.orders.Kids.{class_known, root_there}
use Rattle.ftl_schedule.specs.declared.syntax.kind.PassKind.TheVariants.{InOrder}
use Rattle.ftl_schedule.specs.declared.stages.types.Pass.{Pass}
use Rattle.ftl_schedule.specs.stages.Stages.{kind_of, pass_of}
use Rattle.ftl_visit.specs.visits.Visits.{rules_by_key}
use Rattle.ftl_visit.specs.declared.visits.visit_op.VisitOp.{VisitOp}
use Rattle.ftl_cursors.specs.classes.ClassSets.{HasClass, HasVisited, HaveNoneInCommon}
use Rattle.ftl_cursors.specs.items.ItemClasses.{set_of}
use Rattle.ftl_cursors.specs.items.StageItems.{cuts_in, item_in, items_in, passes_in}
use Rattle.ftl_cursors.specs.item_cursor.ItemSteps.{AreItemTables, forest_in, form_in, grammar_in}
use Rattle.ftl_cursors.specs.item_cursor.VisitedItems.{ItemsWithoutSteps}
use Rattle.ftl_cursors.specs.visit_steps.VisitLaws.{rules_run}
use Rattle.ftl_cursors.specs.declared.item_cursor.item.ItemTables.{ItemTables}
use Rattle.ftl_cursors.proofs.classes.SetLemmas.{is_empty, none_in_both}
use Rattle.ftl_cursors.proofs.items.Starts.{top_there}
use Rattle.ftl_cursors.proofs.item_cursor.PassesAt.{numbered_is, pass_at, visits_at}
use Rattle.ftl_cursors.proofs.visit_steps.Runs.{runs_by_key}
use Rattle.ftl_cursors.proofs.visits.PartLemmas.{none_of}
use Rattle.ftl_cursors.proofs.visits.VisitLemmas.{by_key, visit_at}

-- where no node of an item is visited for anything, its visits compute nothing
no_form_steps : (kind : order.PassKind) → kind ≢ inorder → (form : PassForm) (t : Forest) (p : Path)
    → ((q : Path) → Contains (nodes_by form.cut.is_whole t p) q → form.visit q ≡ []) → form_steps kind form t p ≡ []
no_form_steps topdown other form t p each = none_of form.visit (nodes_by form.cut.is_whole t p) each
no_form_steps bottomup other form t p each =
    let nodes = nodes_by form.cut.is_whole t p in
    none_of form.visit (reverse nodes) (λ q among. each q (in_reverse nodes q among))
no_form_steps inorder other form t p each = absurd (other refl)

module _ (x : ItemTables) (law : IsLawful (grammar_in x)) (fits : IsTreeOf (grammar_in x) (forest_in x))
    (tables : AreItemTables x) (m : ℕ) (known : m < length x.items.passes.now) (other : (pass_at x m).kind ≢ InOrder) where
  abbrev g : AttributeGrammar
  g = grammar_in x

  abbrev t : Forest
  t = forest_in x

  abbrev these : Pass
  these = pass_at x m

  -- a visit without operations computes nothing
  no_visit : (p : Path) → Has t p → get_or (get_or x.visits.now m []) (class_at t p) [] ≡ []
      → items.visit g t these.attrs p ≡ []
  no_visit p there none =
      let class = class_at t p in
      let within = class_known g t fits p there in
      let ops : rules_by_key g class these.attrs ≡ [] =
      sym (by_key g these.kind other these.attrs class)
      ∙ sym (visit_at g these.kind these.attrs class within)
      ∙ sym (ap (λ vs. get_or vs class []) (visits_at x m known tables []))
      ∙ none in
      ap (flat_map (items.steps_of_rule t p))
      (sym (runs_by_key g law class within these.attrs) ∙ ap (flat_map (rules_run g)) ops)

  -- nor does that of a class that is in a set with none of the visited classes
  pub unvisited : (set visited : ℕ) → HaveNoneInCommon set visited → HasVisited visited (get_or x.visits.now m [])
      → (p : Path) → Has t p → HasClass set (class_at t p) → items.visit g t these.attrs p ≡ []
  unvisited set visited none have p there has =
      no_visit p there
      (is_empty (get_or (get_or x.visits.now m []) (class_at t p) [])
      (λ some. none_in_both set visited (class_at t p) none has (have (class_at t p) some)))

pub no_item_steps : ItemsWithoutSteps
no_item_steps x law fits tables sets are visited have i below other none s stage =
    let t = forest_in x in
    let it = item_in x.items i in
    let cut = cuts_in x.items it.pass in
    let here =
    item_here (length (passes_in x.items)) (cuts_in x.items) t it (Contains-get_or (items_in x.items) i no_item below) in
    let known : it.pass < length x.items.passes.now =
    (let inside = here.known in let long = length-map x.items.passes.now pass_of in omega (arith, inside, long)) in
    let same = numbered_is x it.pass known in
    let first =
    top_there cut.kind cut.is_whole t it.first (root_there (grammar_in x) t fits) here.there in
    no_form_steps cut.kind other (form_in x s stage it.pass) t it.first
    (λ q among.
    ap (λ (p : order.Pass). items.visit (grammar_in x) t p.attributes q) same
    ∙ unvisited x law fits tables it.pass known
    (λ e. other (ap (λ (p : order.Pass). p.kind) same ∙ ap kind_of e))
    (set_of sets i) visited none (have it.pass known) q (has_held cut.is_whole t it.first q first among)
    (are.classes i below other q among))
