use Rattle.std.proofs.Common.{◌≤◌, length, arith}
use Rattle.ftl_meaning.specs.faults.Numbering.{class_at}
use Rattle.ftl_document.proofs.pass.NodesLeft.{children_ended}
use Rattle.ftl_document.proofs.pass.Steps.{on_ok}
use Rattle.ftl_document.proofs.pass.nodes.Pass.children.Goals as goal

pub returns-then-child_count-eq0 : goal.returns-then-child_count-eq0
returns-then-child_count-eq0 c =
    let g = c.args.self.now.checked.now.grammar in
    let greatest = c.args.self.now.greatest in
    let none : length (class_at g c.args.class).children ≤ 0 =
    omega (arith, c.if-child_count-eq0.true, c.child_count.ensures.count) in
    record {
      turn =
          on_ok c.mark.result (c.mark.ensures.mark greatest)
          (λ closes.
          record {
            known = c.requires.known;
            left = λ end left. children_ended g greatest c.args.class c.args.node 0 _ _ _ end none closes left;
          });
    }
