use Rattle.std.proofs.Common.{◌≡◌, drop}
use Rattle.ftl_model.specs.lists.FirstAlong.{first_along}
use Rattle.ftl_order.specs.dependencies.DepReads.{rule_reads}
use Rattle.ftl_order.specs.faults.FirstFault.{fault_by}
use Rattle.ftl_deps.specs.reads.Meant.{meant}
use Rattle.ftl_schedule.specs.check.RuleAt.{rule_at}
use Rattle.ftl_nests.specs.Nests.{nest_placing_of}
use Rattle.ftl_regions.specs.pairs.NestReads.{refused_reads, refused_writer}
use Rattle.ftl_nest_check.specs.stages.Nested.{nests_of}
use Rattle.ftl_nest_check.proofs.check.unordered.refused_reads.Given as goal

abbrev pub invariant-loop-place : goal.invariant-loop-place
invariant-loop-place l =
    first_along
    (λ d. fault_by l.rule
    (refused_writer (meant l.checked) (nest_placing_of (nests_of l.placed)) (rule_at (meant l.checked) l.rule) d))
    (drop l.place (rule_reads (meant l.checked) (rule_at (meant l.checked) l.rule)))
    ≡ refused_reads (meant l.checked) (nest_placing_of (nests_of l.placed)) (l.rule, rule_at (meant l.checked) l.rule)
