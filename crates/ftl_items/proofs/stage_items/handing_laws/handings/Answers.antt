use Rattle.ftl_items.proofs.stage_items.HandingLaws.{from_kids, from_parent, to_kids, to_parent}
use Rattle.ftl_items.proofs.stage_items.handing_laws.handings.Goals as goal

pub returns : goal.returns
returns c = record {
  topdown = λ t grain is p q in_p in_q. (
    (λ e. to_kids t grain is p q in_q e),
    (λ h. from_kids t grain is p q in_q h.0 h.1),
  );
  bottomup = λ t grain is p q in_p in_q. (
    (λ e. to_parent t grain is p q e),
    (λ h. from_parent t grain is p q in_p in_q h.0 h.1 h.2),
  );
}
