use Rattle.std.proofs.Common.{◌≡◌, ℕ, ◌∷◌, ◌++◌, [], List, arith, ap₂, ◌∙◌, length}
use Rattle.std.proofs.lemmas.Grind.{common_steps}
use Rattle.ftl_visit.specs.declared.visits.visit_op.VisitOp.{VisitOp}
use Rattle.ftl_visit.specs.passes.Runs.{runs}
use Rattle.ftl_visit.proofs.passes.RunLemmas.{runs_more}
use Rattle.ftl_visit.proofs.passes.pass_visits.add_run.Goals as goal

pub returns-clause-added : goal.returns-clause-added
returns-clause-added c =
    let starts = c.args.starts.now.items in
    let ops = c.args.ops.now.items in
    let longer : c.extend_from_slice.new.self.items ≡ ops ++ c.args.run.now = grind (arith, common_steps) in
    let more : c.push.new.self.items ≡ starts ++ length (ops ++ c.args.run.now) ∷ [] = grind (arith, common_steps) in
    ap₂ (λ (s : List ℕ) (x : List VisitOp). runs s x) more longer ∙ runs_more starts ops c.args.run.now c.requires.cut
