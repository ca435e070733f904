use Rattle.ftl_deps.specs.reads.Meant.{meant}
use Rattle.ftl_noncircular.specs.search.Tables.{port_sort}
use Rattle.ftl_noncircular.proofs.search.tables.ports_of.Given as goal
use Rattle.ftl_noncircular.proofs.search.TableLaws.{ArePortsBelow}

abbrev pub invariant-loop-attr : goal.invariant-loop-attr
invariant-loop-attr l = ArePortsBelow (meant l.checked) l.interface (port_sort l.from_above) l.attr l.ports
