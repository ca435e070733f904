use Rattle.std.proofs.Common.{List, map, refl, sym, ◌∙◌, ap, subst}
use Rattle.std.specs.Prelude.{◌≢◌}
use Rattle.std.proofs.lemmas.List.{get_or_default}
use Rattle.ftl_schedule.specs.declared.stages.types.Pass.{Pass}
use Rattle.ftl_schedule.specs.declared.syntax.kind.PassKind.TheVariants.{InOrder}
use Rattle.ftl_cursors.specs.item_cursor.ItemSteps.{grammar_in}
use Rattle.ftl_cursors.specs.stages.PassTables.{pass_places, pass_visits}
use Rattle.ftl_cursors.proofs.item_cursor.ItemVisits.{kind_is, pass, pass_listed, visit_known, visits_are}
use Rattle.ftl_visit.specs.passes.VisitRows.{visits_of}
use Rattle.ftl_host_cursors.proofs.StageItems.{nest_tables, not_inorder}
use Rattle.ftl_host_cursors.proofs.item.host_tables.Goals as goal

pub bounds-tables-found : goal.bounds-tables-found
bounds-tables-found c = c.requires.found.pass_known

pub bounds-tables-found-2 : goal.bounds-tables-found-2
bounds-tables-found-2 c =
    visit_known c.args.tables.own c.args.item c.args.found c.requires.found c.requires.tables.own

pub returns : goal.returns
returns c =
    let x = c.args.tables in
    let i = c.args.item in
    let found = c.args.found in
    let is = c.requires.found in
    let nest = c.args.nest.now in
    let g = grammar_in x.own in
    let inner = nest_tables x i found is c.requires.tables nest c.requires.nest in
    let kind = not_inorder x i found is c.requires.tables nest c.requires.nest in
    let read = c.index-tables-found.result in
    let here = pass_listed x.own i found is read in
    let visits =
    visits_are x.own i found is c.requires.tables.own c.index-tables-found-2.result
    ∙ ap (λ k. visits_of g k (pass x.own i found is).attrs) (kind_is x.own i found is)
    ∙ ap (pass_visits g) (sym here) in
    record {
      tables = record {
        are = record {
          law = c.requires.law;
          targets = c.requires.tables.own.targets;
          kind = subst (λ (p : Pass). p.kind ≢ InOrder) (sym here) kind;
          visits = visits;
          inner_visits =
              c.as_slice-2.ensures.value
              ∙ inner.visits
              ∙ ap (λ (ps : List Pass). map (pass_visits g) ps) (sym c.as_slice.ensures.value);
          inner_places =
              c.as_slice-3.ensures.value
              ∙ inner.places
              ∙ ap (λ (ps : List Pass). map (pass_places g) ps) (sym c.as_slice.ensures.value);
        };
        tree = refl;
        pass = λ d. get_or_default x.own.items.passes.now found.pass read d is.pass_known;
        host = refl;
        inner = c.as_slice.ensures.value;
      };
    }
