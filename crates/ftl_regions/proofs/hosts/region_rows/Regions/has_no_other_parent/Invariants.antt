use Rattle.std.proofs.Common.{ℕ, ◌<◌}
use Rattle.ftl_deps.specs.reads.Meant.{meant}
use Rattle.ftl_regions.specs.hosts.Parents.{IsRightParent}
use Rattle.ftl_regions.proofs.hosts.region_rows.Regions.has_no_other_parent.Given as goal

abbrev pub invariant-loop-class : goal.invariant-loop-class
invariant-loop-class l =
    (class : ℕ) → class < l.class → IsRightParent (meant l.self) l.host class
