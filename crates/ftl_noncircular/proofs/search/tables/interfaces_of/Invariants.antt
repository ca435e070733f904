use Rattle.std.proofs.Common.{◌≡◌}
use Rattle.ftl_deps.specs.reads.Meant.{meant}
use Rattle.ftl_noncircular.specs.search.Tables.{IsTable}
use Rattle.ftl_noncircular.proofs.search.tables.interfaces_of.Given as goal

abbrev pub invariant-loop-class : goal.invariant-loop-class
invariant-loop-class l =
    IsTable (λ k i. i ≡ (meant l.checked).interface k) 0 l.class l.interfaces
