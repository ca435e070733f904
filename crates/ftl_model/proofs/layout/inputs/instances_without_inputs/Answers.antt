use Rattle.std.proofs.Common.{subst, sym, Contains}
use Rattle.ftl_model.proofs.layout.SameTrees.{same_sym, same_nodes, same_attributes, same_instances, same_instance_count, same_instance_number}
use Rattle.ftl_model.proofs.layout.inputs.instances_without_inputs.Goals as goal

pub returns : goal.returns
returns c = record {
  instances = λ t u h g i. (
    (λ v. (same_nodes t u h i.node v.0, subst (λ xs. Contains xs i.attribute) (same_attributes t u h g i.node) v.1)),
    (λ v. (same_nodes u t (same_sym t u h) i.node v.0, subst (λ xs. Contains xs i.attribute) (sym (same_attributes t u h g i.node)) v.1)),
  );
  list = same_instances;
  count = same_instance_count;
  numbers = same_instance_number;
}
