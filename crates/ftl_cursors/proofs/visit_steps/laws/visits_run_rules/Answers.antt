use Rattle.ftl_cursors.proofs.visit_steps.Runs.{ops_are_rules, runs_by_key}
use Rattle.ftl_cursors.proofs.visit_steps.laws.visits_run_rules.Goals as goal

pub returns : goal.returns
returns c = record {
  topdown = λ g law class known attributes. runs_by_key g law class known attributes;
  bottomup = λ g law class known attributes. runs_by_key g law class known attributes;
  alone = λ g law class known attributes. ops_are_rules g law class known attributes;
}
