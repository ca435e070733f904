use Rattle.ftl_nests.specs.Nests.{nest_placing_of}
use Rattle.ftl_nests.proofs.HostedOrder.{directly_first, hosts_free, one_host_of, own_below_none, own_bound, writer_directly}
use Rattle.ftl_nests.proofs.Sides.{sides_kept}
use Rattle.ftl_nests.proofs.InnerSequences.{inner_sequence}
use Rattle.ftl_nests.proofs.laws.ordered_nests.Goals as goal

pub returns : goal.returns
returns c = record {
  hosted = λ g s t law ordered fits. one_host_of g s t law ordered fits;
  directly = λ g s t law ordered fits. writer_directly g s t law ordered fits;
  precede = λ g s t law ordered fits i j step reads written.
      directly_first g t (nest_placing_of s) j i (writer_directly g s t law ordered fits i j step reads written);
  free = λ g s t law ordered fits. hosts_free g s t law ordered fits;
  bound = λ g s t law ordered fits. own_bound g s t law ordered fits;
  below = λ g s t law ordered fits.
      own_below_none g t law fits (nest_placing_of s) (sides_kept g s ordered.once ordered.sides t law fits);
  sequence = λ g s t law ordered fits. inner_sequence g s t law ordered fits;
}
