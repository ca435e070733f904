use Rattle.ftl_items.proofs.stage_items.VisitLaws.{in_visit, visit_has, visit_once}
use Rattle.ftl_items.proofs.stage_items.visit_laws.visits.Goals as goal

pub returns : goal.returns
returns c = record {
  steps = λ g t law fits attributes p there i. (
    (λ h. in_visit g law t fits attributes p there i h),
    (λ h. visit_has g law t fits attributes p i h.0 h.1 h.2),
  );
  once = λ g t law fits attributes p once there. visit_once g law t fits attributes p once there;
}
