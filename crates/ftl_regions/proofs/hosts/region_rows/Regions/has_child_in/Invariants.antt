use Rattle.std.proofs.Common.{ℕ, ◌<◌}
use Rattle.ftl_deps.specs.reads.Meant.{meant}
use Rattle.ftl_nests.specs.Region.{InRegion}
use Rattle.ftl_regions.proofs.hosts.region_rows.Regions.has_child_in.Given as goal

abbrev pub invariant-loop-child : goal.invariant-loop-child
invariant-loop-child l =
    (child : ℕ) → child < l.child → InRegion (meant l.self) l.host ((meant l.self).child_interface l.class child) → ⊥
