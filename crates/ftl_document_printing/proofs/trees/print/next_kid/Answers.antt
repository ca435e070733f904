use Rattle.std.proofs.Common.{◌≡◌, ◌<◌, ◌≤◌, ◌+◌, suc, arith}
use Rattle.ftl_model.specs.layout.Path.{down, kids_at}
use Rattle.ftl_document_printing.specs.trees.Left.{node_of}
use Rattle.ftl_document_printing.proofs.trees.WriterPlaces.{kid_there, number_within}
use Rattle.ftl_document_printing.proofs.trees.Turns.{kid_entering, list_closing, on_ok}
use Rattle.ftl_document_printing.proofs.trees.print.next_kid.Goals as goal

pub enter-requires-clause-node : goal.enter-requires-clause-node
enter-requires-clause-node c =
    let t = c.args.tree.now in
    let is = c.tree_is_lawful.ensures.is_tree in
    let p = node_of t c.args.node in
    let few : c.args.kid < kids_at t.tree p c.args.child = omega
    (arith, c.if-kid-kid_count.true, c.kid_count.ensures.count) in
    let small = number_within t is (down c.args.child c.args.kid p) (kid_there t is p c.args.child c.args.kid few) in
    omega (arith, c.kid.ensures.kid, small)

pub returns-then-kid-kid_count : goal.returns-then-kid-kid_count
returns-then-kid-kid_count c =
    let t = c.args.tree.now in
    let is = c.tree_is_lawful.ensures.is_tree in
    let few : c.args.kid < kids_at t.tree (node_of t c.args.node) c.args.child =
    omega (arith, c.if-kid-kid_count.true, c.kid_count.ensures.count) in
    record {
      goes = on_ok _ _ _
          (λ next goes. kid_entering t is c.tree_is_lawful.ensures.faultless c.args.node c.args.child c.args.kid
          c.kid.result _ _ next
          c.requires.many few c.kid.ensures.kid goes)
          c.enter.ensures.goes;
    }

pub returns-in_ok-write_mark : goal.returns-in_ok-write_mark
returns-in_ok-write_mark c =
    let t = c.args.tree.now in
    let past : kids_at t.tree (node_of t c.args.node) c.args.child ≤ c.args.kid =
    omega (arith, c.if-kid-kid_count.false, c.kid_count.ensures.count) in
    record {
      goes = list_closing t c.tree_is_lawful.ensures.is_tree c.tree_is_lawful.ensures.faultless c.args.node c.args.child
          (c.args.child + 1) c.args.kid _ _ c.requires.at.known (let z : c.args.child + 1
          ≡ suc c.args.child = omega arith in z) past
          c.in_ok-write_mark.ensures.text;
    }
