use Rattle.ftl_model.proofs.layout.SameTrees.{same_sym, same_nodes, same_classes, same_kids, same_sizes, same_numbers, same_preorder}
use Rattle.ftl_model.proofs.layout.inputs.nodes_without_inputs.Goals as goal

pub returns : goal.returns
returns c = record {
  nodes = λ t u h p. (same_nodes t u h p, same_nodes u t (same_sym t u h) p);
  classes = same_classes;
  kids = same_kids;
  sizes = same_sizes;
  numbers = same_numbers;
  preorder = same_preorder;
}
