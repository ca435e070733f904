use Rattle.std.proofs.Common.{◌≡◌, ◌<◌, ◌≤◌, ◌++◌, arith, length, take, ap, subst, sym, ◌∙◌, take_at}
use Rattle.ftl_model.specs.layout.Tree.{size}
use Rattle.ftl_tree.specs.boxes.Shows.{line_text}
use Rattle.ftl_tree.proofs.boxes.Lines.{lines_all, lines_more, overflows_in_all, overflows_so_far}
use Rattle.ftl_tree.proofs.boxes.print.print_boxes.Goals as goal

pub loop-node-preserved : goal.loop-node-preserved
loop-node-preserved c =
    let t = c.args.tree.now in
    let words = c.args.words.now in
    let n = c.loop-node.node in
    let within : n < size t.tree = omega (arith, c.node_count-count.ensures.count) in
    let now = c.put_line-line.new.bytes in
    let all : length now ≡ c.make_room.new.bytes.len =
    omega (arith, c.put_line-line.auto.bytes, c.deref_mut.ensures.len) in
    record {
      lines =
          ap (take c.put_line-line.result.end) (take_at now _ c.make_room.new.bytes.len all)
          ∙ c.put_line-line.ensures.line
          ∙ ap (λ text. text ++ line_text t words n)
          (ap (take c.loop-node.written.end) c.deref_mut.ensures.value ∙ c.in_ok-make_room.ensures.text)
          ∙ lines_more t n c.node_count-count.ensures.is_tree within words
          (take c.loop-node.written.end c.loop-node.text.items) c.loop-node.invariant.lines;
      within =
          subst (λ n. c.put_line-line.result.end ≤ n) (ap length (sym (take_at now _ c.make_room.new.bytes.len all)))
          (omega (arith, c.put_line-line.ensures.within, c.put_line-line.auto.bytes));
      any =
          overflows_so_far t n c.node_count-count.ensures.is_tree within words
          c.loop-node.written.overflows c.put_line-line.result.overflows
          c.loop-node.invariant.any c.put_line-line.ensures.any;
    }

pub returns-clause-text : goal.returns-clause-text
returns-clause-text c =
    c.truncate.ensures.items
    ∙ c.loop-node.invariant.lines
    ∙ lines_all c.args.tree.now c.args.words.now c.loop-node.node c.node_count-count.ensures.is_tree
    (omega (arith, c.node_count-count.ensures.count))

pub returns-clause-overflows : goal.returns-clause-overflows
returns-clause-overflows c =
    c.loop-node.invariant.any
    ∙ overflows_in_all c.args.tree.now c.args.words.now c.loop-node.node c.node_count-count.ensures.is_tree
    (omega (arith, c.node_count-count.ensures.count))
