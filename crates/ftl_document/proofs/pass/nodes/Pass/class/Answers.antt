use Rattle.std.proofs.Common.{refl}
use Rattle.ftl_document.proofs.pass.Steps.{class_taken}
use Rattle.ftl_document.proofs.pass.nodes.Pass.class.Goals as goal

pub returns-in-Some : goal.returns-in-Some
returns-in-Some c = record {
  class =
      class_taken c.args.self.now c.args.wanted c.args.passed.now c.in-Some.found _ _ c.in-Some.ensures.class refl
      (c.set_class.ensures.same c.args.self.now.greatest);
}
