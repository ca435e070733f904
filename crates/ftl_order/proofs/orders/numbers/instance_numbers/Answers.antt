use Rattle.ftl_model.specs.layout.Table.{instances}
use Rattle.ftl_model.specs.layout.Worked.{numbers}
use Rattle.ftl_order.proofs.orders.Instances.{instance_at_number, instance_here, number_within}
use Rattle.ftl_order.proofs.orders.numbers.instance_numbers.Goals as goal

pub returns : goal.returns
returns c = record {
  instances = λ g t i d valid.
      (number_within g t i.node i.attribute valid.0 valid.1, instance_at_number g t i.node i.attribute d valid.0 valid.1);
  numbers = λ g t n d law fits below. instance_here g t law fits n d below;
}
