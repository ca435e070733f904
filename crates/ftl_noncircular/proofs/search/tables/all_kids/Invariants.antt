use Rattle.std.proofs.Common.{[]}
use Rattle.ftl_deps.specs.reads.Meant.{meant}
use Rattle.ftl_noncircular.specs.search.Tables.{IsKid, IsTable, no_kid}
use Rattle.ftl_noncircular.proofs.search.tables.all_kids.Given as goal

abbrev pub invariant-loop-class : goal.invariant-loop-class
invariant-loop-class l =
    IsTable (λ k. IsTable (IsKid (meant l.checked) k) no_kid ((meant l.checked).child_count k)) [] l.class l.all
