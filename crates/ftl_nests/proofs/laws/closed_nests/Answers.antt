use Rattle.ftl_nests.proofs.RegionNodes.{below_host, host_above, one_host}
use Rattle.ftl_nests.proofs.laws.closed_nests.Goals as goal

pub returns : goal.returns
returns c = record {
  below = λ g host t closed fits p there. (
    (λ region. host_above g t fits host closed p there region),
    (λ up. below_host g t fits host up.0 p there up.2 up.3),
  );
  one = λ g host t closed fits h m p a b. one_host g t fits host closed h m p a b;
}
