use Rattle.ftl_document.proofs.nodes.Handed.{walked_on}
use Rattle.ftl_document.proofs.nodes.Roots.{root_next}
use Rattle.ftl_document.proofs.nodes.walk.Walk.all.Goals as goal

pub enter-requires-clause-next : goal.enter-requires-clause-next
enter-requires-clause-next c =
    let g = c.args.self.now.checked.now.grammar in
    let xs = c.args.self.now.rows.now in
    let w = c.requires.written in
    record {
      node = w.node;
      is = root_next g xs c.args.class.now c.new-progress.result c.new-progress.ensures.first w.node w.node w.is w.few
          w.is c.root.result c.root.ensures.root;
    }

pub returns-in_err-enter : goal.returns-in_err-enter
returns-in_err-enter c =
    let g = c.args.self.now.checked.now.grammar in
    let xs = c.args.self.now.rows.now in
    let w = c.requires.written in
    record {
      exact = λ node is.
          walked_on g node c.in_err-enter.field-0.0 c.from_residual-in_err-enter.result c.from_residual-in_err-enter.ensures.1
          (c.in_err-enter.ensures.exact node
          (root_next g xs c.args.class.now c.new-progress.result c.new-progress.ensures.first w.node node w.is w.few is
          c.root.result c.root.ensures.root));
    }

pub finish-requires-clause-walked : goal.finish-requires-clause-walked
finish-requires-clause-walked c =
    let g = c.args.self.now.checked.now.grammar in
    let xs = c.args.self.now.rows.now in
    let w = c.requires.written in
    record {
      node = w.node;
      walked = c.in_ok-enter.ensures.exact w.node
          (root_next g xs c.args.class.now c.new-progress.result c.new-progress.ensures.first w.node w.node w.is w.few
          w.is c.root.result c.root.ensures.root);
    }

pub returns-in_err-finish : goal.returns-in_err-finish
returns-in_err-finish c =
    let g = c.args.self.now.checked.now.grammar in
    let xs = c.args.self.now.rows.now in
    let w = c.requires.written in
    record {
      exact = λ node is.
          walked_on g node c.in_err-finish.field-0.0 c.from_residual-in_err-finish.result
          c.from_residual-in_err-finish.ensures.1
          (c.in_err-finish.ensures.exact node
          (c.in_ok-enter.ensures.exact node
          (root_next g xs c.args.class.now c.new-progress.result c.new-progress.ensures.first w.node node w.is w.few is
          c.root.result c.root.ensures.root)));
    }

pub returns : goal.returns
returns c =
    let g = c.args.self.now.checked.now.grammar in
    let xs = c.args.self.now.rows.now in
    let w = c.requires.written in
    record {
      exact = λ node is.
          c.in_ok-finish.ensures.exact node
          (c.in_ok-enter.ensures.exact node
          (root_next g xs c.args.class.now c.new-progress.result c.new-progress.ensures.first w.node node w.is w.few is
          c.root.result c.root.ensures.root));
    }
