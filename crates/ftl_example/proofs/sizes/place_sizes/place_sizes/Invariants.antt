use Rattle.std.proofs.Common.{◌≡◌, map}
use Rattle.std.specs.List.{range_with_len}
use Rattle.ftl_deps.specs.reads.Meant.{meant}
use Rattle.ftl_example.specs.pairs.PairMeant.{pair_meant}
use Rattle.ftl_example.specs.sizes.Limited.{place_size_up_to}
use Rattle.ftl_example.specs.sizes.SizeTable.{by_table}
use Rattle.ftl_example.proofs.sizes.place_sizes.place_sizes.Given as goal

abbrev pub invariant-loop-interface : goal.invariant-loop-interface
invariant-loop-interface l =
    l.starts.items
    ≡ map (λ i. place_size_up_to 513 (meant l.checked) (by_table l.sizes) (pair_meant l.pair).runs_at (pair_meant l.pair) i)
    (range_with_len 0 l.interface)
