use Rattle.ftl_deps.specs.reads.Meant.{meant}
use Rattle.ftl_noncircular.specs.search.Tables.{IsKid, IsTable, no_kid}
use Rattle.ftl_noncircular.proofs.search.tables.kids_of.Given as goal

abbrev pub invariant-loop-child : goal.invariant-loop-child
invariant-loop-child l =
    IsTable (IsKid (meant l.checked) l.class) no_kid l.child l.kids
