use Rattle.std.proofs.Common.{◌≡◌, map}
use Rattle.std.specs.List.{range_with_len}
use Rattle.ftl_deps.specs.reads.Meant.{meant}
use Rattle.ftl_example.specs.sizes.Least.{best_up_to}
use Rattle.ftl_example.specs.sizes.SizeTable.{by_table}
use Rattle.ftl_example.proofs.sizes.rounds.next_sizes.Given as goal

abbrev pub invariant-loop-interface : goal.invariant-loop-interface
invariant-loop-interface l =
    l.next.items
    ≡ map (λ i. best_up_to 513 (meant l.checked) (by_table l.sizes) i (meant l.checked).class_count)
    (range_with_len 0 l.interface)
