use Rattle.std.proofs.Common.{◌≡◌, ◌++◌, drop}
use Rattle.ftl_deps.specs.reads.Meant.{meant}
use Rattle.ftl_visit.specs.visits.Visits.{synthesized_rules}
use Rattle.ftl_visit.proofs.visits.blocks.add_synthesized.Given as goal

abbrev pub invariant-loop-attr : goal.invariant-loop-attr
invariant-loop-attr l =
    l.ops ++ synthesized_rules (meant l.index) l.class (drop l.attr-index l.attrs)
    ≡ l.initial.ops ++ synthesized_rules (meant l.index) l.class l.attrs
