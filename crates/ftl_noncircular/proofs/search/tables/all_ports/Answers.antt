use Rattle.std.proofs.Common.{[]}
use Rattle.ftl_deps.specs.reads.Meant.{meant}
use Rattle.ftl_noncircular.specs.search.Shapes.{ArePorts}
use Rattle.ftl_noncircular.specs.search.Tables.{port_sort}
use Rattle.ftl_noncircular.proofs.search.TableLaws.{table_more}
use Rattle.ftl_noncircular.proofs.search.tables.all_ports.Goals as goal

pub loop-interface-preserved : goal.loop-interface-preserved
loop-interface-preserved c =
    table_more (λ i. ArePorts (meant c.args.checked.now) i (port_sort c.args.from_above)) [] c.loop-interface.interface
    c.loop-interface.all c.push.new.self c.in_ok-ports_of.field-0 c.loop-interface.invariant c.in_ok-push.ensures.ok
    c.in_ok-ports_of.ensures.ports
