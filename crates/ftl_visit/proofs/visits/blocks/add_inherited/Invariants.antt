use Rattle.std.proofs.Common.{◌≡◌, ◌++◌, drop}
use Rattle.ftl_deps.specs.reads.Meant.{meant}
use Rattle.ftl_visit.specs.visits.Visits.{inherited_rules}
use Rattle.ftl_visit.proofs.visits.blocks.add_inherited.Given as goal

abbrev pub invariant-loop-attr : goal.invariant-loop-attr
invariant-loop-attr l =
    l.ops ++ inherited_rules (meant l.index) l.class l.child (drop l.attr-index l.attrs)
    ≡ l.initial.ops ++ inherited_rules (meant l.index) l.class l.child l.attrs
