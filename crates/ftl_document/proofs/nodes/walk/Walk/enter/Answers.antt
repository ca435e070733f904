use Rattle.std.proofs.Common.{◌+◌, ◌++◌, ◌∙◌, ap, arith}
use Rattle.ftl_document.specs.syntax.Rows.{rows_of_fields}
use Rattle.ftl_document.specs.nodes.Walk.{all_rows}
use Rattle.ftl_document.proofs.nodes.Filled.{first_numbers}
use Rattle.ftl_document.proofs.nodes.Nodes.{node_entered}
use Rattle.ftl_document.proofs.nodes.Rows.{between, long_enough}
use Rattle.ftl_document.proofs.nodes.walk.Walk.enter.Goals as goal

pub check_node-requires-clause-end : goal.check_node-requires-clause-end
check_node-requires-clause-end c =
    let n = c.requires.next.is in
    long_enough c.args.self.now.rows.now (rows_of_fields n.fields)
    (all_rows n.outer) c.args.next.from c.args.next.end n.within n.left n.ends

pub returns-clause-exact : goal.returns-clause-exact
returns-clause-exact c node n =
    let g = c.args.self.now.checked.now.grammar in
    let xs = c.args.self.now.rows.now in
    let next = c.args.next in
    let p = c.args.progress.now in
    let k = c.in_ok-class.class in
    let class = c.in_ok-class.ensures.class in
    let known = class.known in
    let many = c.requires.ready.count in
    let t = c.index-self-class.result in
    let table = c.requires.ready.tables k t (omega (arith, known, many)) in
    let few = table.few in
    let width = table.width in
    let rows = between xs (rows_of_fields n.fields) (all_rows n.outer) next.from next.end n.left n.ends in
    let entered = c.in_ok-add_node.ensures.entered in
    node_entered g node xs p next.class.now next.wanted next.from next.end next.parent next.place n _ k class
    (record {
      stack = entered.stack;
      at = entered.at;
      number = entered.number;
      count = entered.count ∙ ap (λ m. p.count + m) width;
      few = omega (arith, few, width);
      node_rows = entered.rows;
      inputs = c.in_ok-add_node.ensures.inputs
          ∙ ap (λ ys. p.inputs.items ++ ys)
          (first_numbers g k n.fields c.check_node.new.scratch.slots c.deref.result.now _
          (c.in_ok-class.ensures.filled n.fields rows) c.deref.ensures.value table.inputs);
    })
    (c.in_ok-class.ensures.exact n.fields rows)
