use Rattle.std.proofs.Common.{◌++◌, [], get_or, length, List, inl, refl, sym, ◌∙◌, ap, subst, arith}
use Rattle.std.proofs.lemmas.List.{append-nil}
use Rattle.ftl_cursors.specs.inorder.InorderSteps.{inorder_steps}
use Rattle.ftl_model.specs.layout.Path.{class_at}
use Rattle.ftl_items.proofs.stage_items.HandingLaws.{node_itself}
use Rattle.ftl_schedule.specs.declared.syntax.kind.PassKind.TheVariants.{InOrder}
use Rattle.ftl_tree.proofs.rows.Access.{has_at}
use Rattle.ftl_visit.specs.declared.visits.visit_op.VisitOp.{VisitOp}
use Rattle.ftl_visit.specs.passes.VisitRows.{visits_of}
use Rattle.ftl_cursors.specs.sequence.Places.{FitOps, first_of, grammar_of, tree_of}
use Rattle.ftl_cursors.specs.sequence.SequenceRest.{rest_of_ops}
use Rattle.ftl_cursors.proofs.sequence.Above.{none_after}
use Rattle.ftl_cursors.proofs.sequence.CursorMoves.{class_within, visit_fits, visit_in, visits_count}
use Rattle.ftl_cursors.proofs.sequence.RestLemmas.{visit_left}
use Rattle.ftl_cursors.proofs.sequence.place.start_place.Goals as goal

pub visit-ops-requires : goal.visit-ops-requires
visit-ops-requires c =
    let x = c.args.tables in
    let known =
    class_within (grammar_of x) (tree_of x) c.node_count-nodes.ensures.is_tree x.first c.requires.tables.first in
    let count = ap length c.requires.tables.visits ∙ visits_count (grammar_of x) x.attrs.now in
    record { class = omega (arith, c.class.ensures.class) }

pub returns : goal.returns
returns c =
    let x = c.args.tables in
    let g = grammar_of x in
    let t = tree_of x in
    let a = x.attrs.now in
    let fits = c.node_count-nodes.ensures.is_tree in
    let first = first_of x in
    let known = c.requires.tables.first in
    let is =
    c.visit-ops.ensures.visit
    ∙ ap (λ (vs : List (List VisitOp)). get_or vs c.class.result []) c.requires.tables.visits
    ∙ ap (λ n. get_or (visits_of g InOrder a) n []) c.class.ensures.class
    ∙ visit_in g a (class_at t first) (class_within g t fits x.first known) in
    record {
      place = record {
        node = known;
        within = inl refl;
        ops = subst (FitOps g t first 0) (sym is) (visit_fits g t first a);
      };
      steps =
          ap (rest_of_ops g t a first first 0) is
          ∙ visit_left g t a first first fits (has_at g t x.first fits known)
          ∙ ap (λ rest. inorder_steps g t a first ++ rest) (none_after g t a first first (node_itself first))
          ∙ append-nil (inorder_steps g t a first);
    }
