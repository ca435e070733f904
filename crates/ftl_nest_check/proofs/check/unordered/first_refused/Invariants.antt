use Rattle.std.proofs.Common.{◌≡◌, drop}
use Rattle.std.specs.List.{enumerate_from}
use Rattle.ftl_model.specs.lists.FirstAlong.{first_along}
use Rattle.ftl_deps.specs.reads.Meant.{meant}
use Rattle.ftl_nests.specs.Nests.{nest_placing_of}
use Rattle.ftl_regions.specs.pairs.NestReads.{first_refused, refused_reads}
use Rattle.ftl_nest_check.specs.stages.Nested.{nests_of}
use Rattle.ftl_nest_check.proofs.check.unordered.first_refused.Given as goal

abbrev pub invariant-loop-rule : goal.invariant-loop-rule
invariant-loop-rule l =
    first_along (refused_reads (meant l.checked) (nest_placing_of (nests_of l.placed)))
    (drop l.rule (enumerate_from 0 (meant l.checked).rules))
    ≡ first_refused (meant l.checked) (nest_placing_of (nests_of l.placed))
