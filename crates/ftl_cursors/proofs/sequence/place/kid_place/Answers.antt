use Rattle.std.proofs.Common.{◌≡◌, ◌+◌, ◌-◌, ◌<◌, ◌≤◌, get_or, sym, ◌∙◌, ap, subst, arith}
use Rattle.ftl_model.specs.layout.Path.{class_at, kids_at}
use Rattle.ftl_visit.specs.declared.visits.visit_op.VisitOp.TheVariants.{Begin, Visit}
use Rattle.ftl_cursors.specs.sequence.Moves.{moves_left}
use Rattle.ftl_cursors.specs.sequence.Places.{FitOps, first_of, grammar_of, node_of, tree_of}
use Rattle.ftl_cursors.specs.sequence.SequenceRest.{rest_of_ops}
use Rattle.ftl_cursors.proofs.sequence.BlockLemmas.{behind_is, drop_within, nowhere}
use Rattle.ftl_cursors.proofs.sequence.MoveLemmas.{block_moves, blocks_moves, no_kid_moves}
use Rattle.ftl_cursors.proofs.sequence.CursorMoves.{block_fits, blocks_fit}
use Rattle.ftl_cursors.proofs.sequence.RestLemmas.{block_left, blocks_left, no_kid_left}
use Rattle.ftl_cursors.proofs.sequence.TableLemmas.{block_there, has_places, has_visit}
use Rattle.ftl_cursors.proofs.sequence.VisitShape.{block_of, blocks_from}
use Rattle.ftl_cursors.proofs.sequence.place.kid_place.Goals as goal

pub visit-visit-requires : goal.visit-visit-requires
visit-visit-requires c =
    record {
      class =
          has_visit c.args.tables c.requires.tables c.node_count-nodes.ensures.is_tree c.args.node
          c.requires.at.known c.class-class.result c.class-class.ensures.class;
    }

pub blocks-requires : goal.blocks-requires
blocks-requires c =
    record {
      class =
          has_places c.args.tables c.requires.tables c.node_count-nodes.ensures.is_tree c.args.node
          c.requires.at.known c.class-class.result c.class-class.ensures.class;
    }

pub bounds-blocks-child : goal.bounds-blocks-child
bounds-blocks-child c =
    let x = c.args.tables in
    let has =
    block_there x c.requires.tables c.node_count-nodes.ensures.is_tree c.args.node c.requires.at.known
    c.class-class.result c.class-class.ensures.class c.visit-visit.result.now c.blocks-2.result.now
    c.visit-visit.ensures.visit c.blocks-2.ensures.blocks c.args.child c.requires.at.declared in
    has.known

pub behind-ops-requires : goal.behind-ops-requires
behind-ops-requires c =
    let x = c.args.tables in
    let has =
    block_there x c.requires.tables c.node_count-nodes.ensures.is_tree c.args.node c.requires.at.known
    c.class-class.result c.class-class.ensures.class c.visit-visit.result.now c.blocks-2.result.now
    c.visit-visit.ensures.visit c.blocks-2.ensures.blocks c.args.child c.requires.at.declared in
    record { place = drop_within _ _ _ _ has.is.begin }

pub behind-ops-requires-else-kid-kid_count : goal.behind-ops-requires-else-kid-kid_count
behind-ops-requires-else-kid-kid_count c =
    let x = c.args.tables in
    let has =
    block_there x c.requires.tables c.node_count-nodes.ensures.is_tree c.args.node c.requires.at.known
    c.class-class.result c.class-class.ensures.class c.visit-visit.result.now c.blocks-2.result.now
    c.visit-visit.ensures.visit c.blocks-2.ensures.blocks c.args.child c.requires.at.declared in
    record { place = drop_within _ _ _ _ has.is.visit }

pub returns-then-kid-kid_count : goal.returns-then-kid-kid_count
returns-then-kid-kid_count c =
    let x = c.args.tables in
    let has =
    block_there x c.requires.tables c.node_count-nodes.ensures.is_tree c.args.node c.requires.at.known
    c.class-class.result c.class-class.ensures.class c.visit-visit.result.now c.blocks-2.result.now
    c.visit-visit.ensures.visit c.blocks-2.ensures.blocks c.args.child c.requires.at.declared in
    let g = grammar_of x in
    let t = tree_of x in
    let p = node_of x c.args.node in
    let a = x.attrs.now in
    let at_first = first_of x in
    let child = c.args.child in
    let kid = c.args.kid in
    let class = class_at t p in
    let later = g.child_count class - (child + 1) in
    let there : kid < kids_at t p child = omega (arith, c.kid_count.ensures.count) in
    let is =
    c.behind-ops.ensures.rest
    ∙ behind_is (get_or c.blocks-2.result.now child nowhere).begin c.visit-visit.result.now (Begin child)
    (block_of g class a child later) has.is.begin in
    record {
      kid = record {
        place = record {
          node = c.requires.at.known;
          within = c.requires.within;
          ops = subst (FitOps g t p kid) (sym is) (block_fits g t p a child kid later c.requires.at.declared there);
        };
        left = ap (rest_of_ops g t a at_first p kid) is ∙ block_left g t a at_first p child kid later there;
        moves = ap (moves_left g t at_first p kid) is ∙ block_moves g t a at_first p child kid later there;
      };
    }

pub returns-else-kid-kid_count : goal.returns-else-kid-kid_count
returns-else-kid-kid_count c =
    let x = c.args.tables in
    let has =
    block_there x c.requires.tables c.node_count-nodes.ensures.is_tree c.args.node c.requires.at.known
    c.class-class.result c.class-class.ensures.class c.visit-visit.result.now c.blocks-2.result.now
    c.visit-visit.ensures.visit c.blocks-2.ensures.blocks c.args.child c.requires.at.declared in
    let g = grammar_of x in
    let t = tree_of x in
    let p = node_of x c.args.node in
    let a = x.attrs.now in
    let at_first = first_of x in
    let child = c.args.child in
    let kid = c.args.kid in
    let class = class_at t p in
    let declared = c.requires.at.declared in
    let later = g.child_count class - (child + 1) in
    let past : kids_at t p child ≤ kid = omega (arith, c.kid_count.ensures.count) in
    let all : child + 1 + later ≡ g.child_count class = omega arith in
    let is =
    c.behind-ops-else-kid-kid_count.ensures.rest
    ∙ behind_is (get_or c.blocks-2.result.now child nowhere).visit c.visit-visit.result.now (Visit child)
    (blocks_from g class a (child + 1) later) has.is.visit in
    record {
      kid = record {
        place = record {
          node = c.requires.at.known;
          within = c.requires.within;
          ops = subst (FitOps g t p 0) (sym is) (blocks_fit g t p a (child + 1) later all);
        };
        left =
            ap (rest_of_ops g t a at_first p 0) is ∙ blocks_left g t a at_first p (child + 1) later all
            ∙ no_kid_left g t a at_first p child kid past;
        moves =
            ap (moves_left g t at_first p 0) is ∙ blocks_moves g t a at_first p (child + 1) later all
            ∙ no_kid_moves g t a at_first p child kid past;
      };
    }
