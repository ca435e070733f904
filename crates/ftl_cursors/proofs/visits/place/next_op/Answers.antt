use Rattle.std.proofs.Common.{length, get_or, Contains, ap, subst, arith}
use Rattle.std.proofs.lemmas.List.Elements.{Contains-get_or}
use Rattle.ftl_visit.specs.declared.visits.visit_op.VisitOp.TheVariants.{Rule}
use Rattle.ftl_cursors.specs.visits.Places.{grammar_of, nodes_left, tree_of}
use Rattle.ftl_cursors.proofs.visits.LeftLemmas.{op_passed}
use Rattle.ftl_cursors.proofs.visits.PlaceLemmas.{after_first, first_and_rest, in_rest, no_steps}
use Rattle.ftl_cursors.proofs.visits.place.next_op.Goals as goal

pub turns-at-requires-clause-rule : goal.turns-at-requires-clause-rule
turns-at-requires-clause-rule c =
    let ops = c.args.at.now.ops.now in
    c.requires.place.ops (Rule c.in-Rule.rule)
    (subst (Contains ops) c.in-Rule.is (Contains-get_or ops 0 (Rule 0) c.requires.ops))

pub returns-in-Rule-clause-place : goal.returns-in-Rule-clause-place
returns-in-Rule-clause-place c =
    record {
      kids = omega arith;
      node = c.requires.place.node;
      ops = λ op there. c.requires.place.ops op (in_rest c.args.at.now.ops.now op there);
      nodes = c.requires.place.nodes;
    }

pub returns-in_default : goal.returns-in_default
returns-in_default c =
    let x = c.args.tables in
    let at = c.args.at.now in
    let ops = at.ops.now in
    let op = get_or ops 0 (Rule 0) in
    let parts = first_and_rest ops (Rule 0) c.requires.ops in
    record {
      place = record {
        kids = c.requires.place.kids;
        node = c.requires.place.node;
        ops = λ o there. c.requires.place.ops o (in_rest ops o there);
        nodes = c.requires.place.nodes;
      };
      left =
          op_passed (grammar_of x) (tree_of x) x.visits.now at.node at.rule at.kid at.kid_end op ops (after_first ops)
          (nodes_left x at) c.requires.done parts (no_steps (grammar_of x) (tree_of x) at.node op c.in_default.not-Rule);
      less = omega (arith, ap length parts);
    }
