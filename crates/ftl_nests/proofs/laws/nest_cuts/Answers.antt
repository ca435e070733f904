use Rattle.std.proofs.Common.{◌≡◌, Some}
use Rattle.ftl_nests.specs.Nests.{Nest, nesting_pass}
use Rattle.ftl_nests.proofs.NestForms.{handed_open}
use Rattle.ftl_nests.proofs.Sorts.{host_nodes, node_nodes, open_node, small_nodes, sort_begins, sort_of}
use Rattle.ftl_nests.proofs.laws.nest_cuts.Goals as goal

pub returns : goal.returns
returns c = record {
  sorts = λ g s t law ordered none fits grain stage m p there.
      let nest = (nesting_pass s stage m).nest in
      let closed = λ (n : Nest) (e : (nesting_pass s stage m).nest ≡ Some n). (ordered.sides stage m n e).closed in (
        ((λ e. sort_of g t fits grain nest closed p e), (λ x. sort_begins g t fits grain nest closed p there x)),
        small_nodes g t fits grain nest closed p,
        host_nodes g t fits grain nest closed p,
        node_nodes g t fits grain nest closed p there,
      );
  handing = λ g s t law ordered none fits grain stage m p q known down_first in_q next.
      open_node g t fits grain (nesting_pass s stage m).nest (λ n e. (ordered.sides stage m n e).closed) p
      (handed_open g s t law ordered none fits grain stage m p q known down_first in_q next);
}
