use Rattle.ftl_noncircular.specs.search.Tables.{IsOwnerOf, IsTable, no_owner}
use Rattle.ftl_noncircular.proofs.search.tables.owners_of.Given as goal

abbrev pub invariant-loop-attr : goal.invariant-loop-attr
invariant-loop-attr l =
    IsTable (IsOwnerOf l.checked.grammar) no_owner l.attr l.owners
