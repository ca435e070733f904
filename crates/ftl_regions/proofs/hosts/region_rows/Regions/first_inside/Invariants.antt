use Rattle.std.proofs.Common.{ℕ, ◌<◌, get_or}
use Rattle.ftl_deps.specs.reads.Meant.{meant}
use Rattle.ftl_regions.specs.hosts.Sides.{IsOutside}
use Rattle.ftl_regions.proofs.hosts.region_rows.Regions.first_inside.Given as goal

abbrev pub invariant-loop-place : goal.invariant-loop-place
invariant-loop-place l =
    (j : ℕ) → j < l.place → IsOutside (meant l.self) l.host (get_or l.attrs j 0)
