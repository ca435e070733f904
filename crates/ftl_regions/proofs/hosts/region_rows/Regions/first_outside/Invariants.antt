use Rattle.std.proofs.Common.{ℕ, ◌<◌, get_or}
use Rattle.ftl_deps.specs.reads.Meant.{meant}
use Rattle.ftl_nests.specs.Region.{OfRegion}
use Rattle.ftl_regions.proofs.hosts.region_rows.Regions.first_outside.Given as goal

abbrev pub invariant-loop-place : goal.invariant-loop-place
invariant-loop-place l =
    (j : ℕ) → j < l.place → OfRegion (meant l.self) l.host (get_or l.attrs j 0)
