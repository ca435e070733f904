use Rattle.ftl_meaning.proofs.names.Numbered.{are_declared, counted, distinct, in_order, private_kept, shared_kept}
use Rattle.ftl_meaning.proofs.names.kept.attributes_are_kept.Goals as goal

pub returns : goal.returns
returns c = record {
  count = counted;
  shared = shared_kept;
  private = private_kept;
  order = in_order;
  distinct = distinct;
  declared = are_declared;
}
