use Rattle.std.proofs.Common.{◌≡◌, ◌++◌, drop}
use Rattle.ftl_deps.specs.reads.Meant.{meant}
use Rattle.ftl_visit.specs.visits.Visits.{rules_by_key}
use Rattle.ftl_visit.proofs.visits.blocks.add_rules.Given as goal

abbrev pub invariant-loop-attr : goal.invariant-loop-attr
invariant-loop-attr l =
    l.ops ++ rules_by_key (meant l.index) l.class (drop l.attr-index l.attrs)
    ≡ l.initial.ops ++ rules_by_key (meant l.index) l.class l.attrs
