-- The pass of a number in a stage, and its entries in tables of the passes.
use Rattle.std.proofs.Common.{◌≡◌, ℕ, ◌<◌, List, [], get_or, length, map, ◌∙◌, ap, arith}
use Rattle.std.proofs.lemmas.List.{get_or-map, length-map}
use Rattle.ftl_order.specs.orders.Schedule.{empty_pass}
use Rattle.ftl_schedule.specs.declared.syntax.kind.PassKind.TheVariants.{TopDown}
use Rattle.ftl_schedule.specs.stages.Stages.{pass_of}
use Rattle.ftl_schedule.specs.declared.stages.types.Pass.{Pass}
use Rattle.ftl_visit.specs.declared.visits.visit_op.VisitOp.{VisitOp}
use Rattle.ftl_visit.specs.passes.VisitRows.{visits_of}
use Rattle.ftl_cursors.specs.items.StageItems.{pass_numbered}
use Rattle.ftl_cursors.specs.item_cursor.ItemSteps.{AreItemTables, grammar_in}
use Rattle.ftl_cursors.specs.stages.PassTables.{pass_visits}
use Rattle.ftl_cursors.specs.declared.item_cursor.item.ItemTables.{ItemTables}

abbrev pub no_pass : Pass
no_pass = record { kind = TopDown; attrs = [] }

-- the pass
abbrev pub pass_at : ItemTables → (number : ℕ) → Pass
pass_at x m = get_or x.items.passes.now m no_pass

module _ (x : ItemTables) (m : ℕ) (known : m < length x.items.passes.now) where
  pub numbered_is : pass_numbered x.items m ≡ pass_of (pass_at x m)
  numbered_is = get_or-map pass_of x.items.passes.now m no_pass empty_pass known

  -- the entry of a table of the passes
  pub table_at : {X : Type 0} (f : Pass → X) (xs : List X) (d : X) → xs ≡ map f x.items.passes.now
      → get_or xs m d ≡ f (pass_at x m)
  table_at f xs d are = ap (λ ys. get_or ys m d) are ∙ get_or-map f x.items.passes.now m no_pass d known

  pub table_known : {X : Type 0} (f : Pass → X) (xs : List X) → xs ≡ map f x.items.passes.now → m < length xs
  table_known f xs are =
      let long = ap length are ∙ length-map x.items.passes.now f in
      omega (arith, long, known)

  -- its visits
  pub visits_at : AreItemTables x → (d : List (List VisitOp))
      → get_or x.visits.now m d ≡ visits_of (grammar_in x) (pass_at x m).kind (pass_at x m).attrs
  visits_at tables d = table_at (pass_visits (grammar_in x)) x.visits.now d tables.visits
