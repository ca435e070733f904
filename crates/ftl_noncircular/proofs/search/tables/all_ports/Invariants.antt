use Rattle.std.proofs.Common.{[]}
use Rattle.ftl_deps.specs.reads.Meant.{meant}
use Rattle.ftl_noncircular.specs.search.Shapes.{ArePorts}
use Rattle.ftl_noncircular.specs.search.Tables.{IsTable, port_sort}
use Rattle.ftl_noncircular.proofs.search.tables.all_ports.Given as goal

abbrev pub invariant-loop-interface : goal.invariant-loop-interface
invariant-loop-interface l =
    IsTable (λ i. ArePorts (meant l.checked) i (port_sort l.from_above)) [] l.interface l.all
