use Rattle.std.proofs.Common.{◌≡◌, ℕ, List, ap, ◌∙◌, sym, subst, length, map, Contains, arith}
use Rattle.ftl_cursors.specs.classes.ClassSets.{AreClassBlocks}
use Rattle.ftl_cursors.specs.inorder.InorderSteps.{inorder_steps}
use Rattle.ftl_cursors.specs.item_cursor.ItemSteps.{forest_in, grammar_in}
use Rattle.ftl_cursors.proofs.item_cursor.ItemVisits.{pass, pass_listed, places_are, places_known, sequence_is, visit_known, visits_are}
use Rattle.ftl_cursors.proofs.sequence.CursorMoves.{visits_count}
use Rattle.ftl_meaning.specs.faults.Checked.{CheckedGrammar}
use Rattle.ftl_model.specs.layout.Path.{top}
use Rattle.ftl_schedule.specs.declared.syntax.kind.PassKind.TheVariants.{InOrder}
use Rattle.ftl_cursors.specs.sequence.BlockPlaces.{places_of}
use Rattle.ftl_schedule.specs.declared.stages.types.Pass.{Pass}
use Rattle.ftl_order.specs.steps.Steps.{target_of}
use Rattle.ftl_order.specs.declared.steps.step.Step.{Step}
use Rattle.ftl_tree.proofs.rows.Access.{size-one}
use Rattle.ftl_visit.specs.declared.visits.visit_op.VisitOp.{VisitOp}
use Rattle.ftl_visit.specs.passes.VisitRows.{visits_of}
use Rattle.ftl_cursors.proofs.item_cursor.sparse_sequence.sparse_sequence.Goals as goal

pub bounds-tables-found : goal.bounds-tables-found
bounds-tables-found c = visit_known c.args.tables c.args.item c.args.found c.requires.found c.requires.tables

pub bounds-tables-found-2 : goal.bounds-tables-found-2
bounds-tables-found-2 c = places_known c.args.tables c.args.item c.args.found c.requires.found c.requires.tables

pub bounds-tables-found-3 : goal.bounds-tables-found-3
bounds-tables-found-3 c = c.requires.found.pass_known

pub ruled_classes-ruled-requires : goal.ruled_classes-ruled-requires
ruled_classes-ruled-requires c =
    let x = c.args.tables in
    let g = grammar_in x in
    let found = c.args.found in
    let of_pass = pass x c.args.item found c.requires.found in
    record {
      count =
          c.class_count.ensures.count
          ∙ ap (λ (k : CheckedGrammar). length k.grammar.classes) c.checked.ensures.grammar
          ∙ sym
          (ap (λ (vs : List (List VisitOp)). length vs)
          (visits_are x c.args.item found c.requires.found c.requires.tables c.index-tables-found.result)
          ∙ ap (λ k. length (visits_of g k of_pass.attrs)) c.requires.kind
          ∙ visits_count g of_pass.attrs);
    }

pub new-requires : goal.new-requires
new-requires c =
    let x = c.args.tables in
    let g = grammar_in x in
    let t = forest_in x in
    let found = c.args.found in
    let is = c.requires.found in
    let of_pass = pass x c.args.item found is in
    let one = size-one g t is.is_tree in
    record {
      tables = record {
        all = record {
          first = omega (arith, one);
          visits =
              visits_are x c.args.item found is c.requires.tables c.index-tables-found.result
              ∙ ap (λ k. visits_of g k of_pass.attrs) c.requires.kind
              ∙ ap (λ (a : Pass). visits_of g InOrder a.attrs)
              (sym (pass_listed x c.args.item found is c.index-tables-found-3.result))
              ∙ ap (visits_of g InOrder) (sym c.as_slice.ensures);
          places =
              places_are x c.args.item found is c.requires.tables c.index-tables-found-2.result
              ∙ ap places_of
              (sym (visits_are x c.args.item found is c.requires.tables c.index-tables-found.result));
        };
        blocks = subst (AreClassBlocks t) (sym c.as_slice-blocks.ensures.value) x.items.rows.now.classes;
        ruled = c.ruled_classes-ruled.ensures.ruled;
      };
    }

pub returns : goal.returns
returns c =
    let x = c.args.tables in
    let g = grammar_in x in
    let t = forest_in x in
    let found = c.args.found in
    let is = c.requires.found in
    let of_pass = pass x c.args.item found is in
    let steps : c.new.result ≡ inorder_steps g t of_pass.attrs top =
    c.new.ensures.steps
    ∙ ap (λ (ns : List ℕ). inorder_steps g t ns top)
    (c.as_slice.ensures
    ∙ ap (λ (a : Pass). a.attrs) (pass_listed x c.args.item found is c.index-tables-found-3.result)) in
    record {
      steps = λ s stage ordered there. record {
        steps_are = λ y among.
            c.inorder_steps_make_sequences.ensures.tree g t c.requires.law is.is_tree of_pass.attrs y
            (subst (λ (ys : List Step). Contains ys y) steps among);
        targets =
            ap (map (target_of g t)) steps
            ∙ sequence_is x c.args.item found is c.requires.law s stage
            c.inorder_steps_make_sequences.ensures.steps c.requires.kind ordered there;
      };
    }
