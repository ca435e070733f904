use Rattle.std.proofs.Common.{◌≡◌, ◌<◌, true, false, arith}
use Rattle.std.proofs.lemmas.Grind.{common_steps}
use Rattle.ftl_meaning.specs.faults.Numbering.{child_at}
use Rattle.ftl_model.specs.layout.Path.{down, kids_at}
use Rattle.ftl_document_printing.specs.trees.Left.{class_in, is_many, node_of}
use Rattle.ftl_document_printing.proofs.trees.WriterPlaces.{has_node, kid_there, number_within, one_kid}
use Rattle.ftl_document_printing.proofs.trees.Turns.{on_ok, opening_list, opening_single}
use Rattle.ftl_document_printing.proofs.trees.print.open_field.Goals as goal

pub kid-requires-clause-k : goal.kid-requires-clause-k
kid-requires-clause-k c =
    let t = c.args.tree.now in
    let is = c.tree_is_lawful.ensures.is_tree in
    let p = node_of t c.args.node in
    let single : is_many t p c.args.child ≡ false = grind (arith, common_steps) in
    let one = one_kid t is p c.args.child
    (has_node t is c.args.node c.requires.at.known) c.requires.at.declared single in
    omega (arith, one)

pub enter-requires-clause-node : goal.enter-requires-clause-node
enter-requires-clause-node c =
    let t = c.args.tree.now in
    let is = c.tree_is_lawful.ensures.is_tree in
    let p = node_of t c.args.node in
    let single : is_many t p c.args.child ≡ false = grind (arith, common_steps) in
    let one = one_kid t is p c.args.child
    (has_node t is c.args.node c.requires.at.known) c.requires.at.declared single in
    let few : 0 < kids_at t.tree p c.args.child = omega (arith, one) in
    let small = number_within t is (down c.args.child 0 p) (kid_there t is p c.args.child 0 few) in
    omega (arith, c.kid.ensures.kid, small)

pub returns-in_ok-write_mark : goal.returns-in_ok-write_mark
returns-in_ok-write_mark c =
    let t = c.args.tree.now in
    let p = node_of t c.args.node in
    let many : is_many t p c.args.child ≡ true = grind (arith, common_steps) in
    let named : c.child_name.result.now ≡ (child_at t.checked.grammar (class_in t p) c.args.child).name =
    grind (arith, common_steps) in
    record {
      goes = opening_list t c.tree_is_lawful.ensures.is_tree c.tree_is_lawful.ensures.faultless c.args.node c.args.child
          c.child_name.result.now _ _ _ c.requires.at many named c.in_ok-write_field.ensures.text
          c.in_ok-write_mark.ensures.text;
    }

pub returns-else-child : goal.returns-else-child
returns-else-child c =
    let t = c.args.tree.now in
    let p = node_of t c.args.node in
    let single : is_many t p c.args.child ≡ false = grind (arith, common_steps) in
    let named : c.child_name.result.now ≡ (child_at t.checked.grammar (class_in t p) c.args.child).name =
    grind (arith, common_steps) in
    record {
      goes = on_ok _ _ _
          (λ next goes. opening_single t c.tree_is_lawful.ensures.is_tree c.tree_is_lawful.ensures.faultless c.args.node
          c.args.child c.kid.result c.child_name.result.now _ _ _ next c.requires.at single named c.kid.ensures.kid
          c.in_ok-write_field.ensures.text goes)
          c.enter.ensures.goes;
    }
