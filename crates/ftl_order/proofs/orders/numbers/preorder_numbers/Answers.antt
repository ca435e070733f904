use Rattle.ftl_model.specs.layout.Worked.{numbers}
use Rattle.ftl_model.proofs.layout.Numbering.{has-node_at, length-preorder, number_of-node_at}
use Rattle.ftl_model.proofs.layout.Standing.{node_at-number_of, number_of-lt}
use Rattle.ftl_order.proofs.orders.numbers.preorder_numbers.Goals as goal

pub returns : goal.returns
returns c = record {
  nodes = λ t p h. (number_of-lt t p h, node_at-number_of t p h);
  numbers = λ t n is below. (has-node_at t n is below, number_of-node_at t n below);
  whole = length-preorder;
}
