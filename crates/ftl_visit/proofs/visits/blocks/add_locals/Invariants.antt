use Rattle.std.proofs.Common.{◌≡◌, ◌++◌, drop}
use Rattle.ftl_deps.specs.reads.Meant.{meant}
use Rattle.ftl_visit.specs.visits.Visits.{locals}
use Rattle.ftl_visit.proofs.visits.blocks.add_locals.Given as goal

abbrev pub invariant-loop-attr : goal.invariant-loop-attr
invariant-loop-attr l =
    l.ops ++ locals (meant l.index) l.class (drop l.attr-index l.attrs)
    ≡ l.initial.ops ++ locals (meant l.index) l.class l.attrs
