use Rattle.std.proofs.Common.{◌≡◌, ◌++◌, ◌-◌}
use Rattle.std.specs.List.{range_with_len}
use Rattle.ftl_visit.proofs.rule_tables.attributes.add_run.Given as goal

abbrev pub invariant-loop-attr : goal.invariant-loop-attr
invariant-loop-attr l =
    l.attrs ≡ l.initial.attrs ++ range_with_len l.first (l.attr - l.first)
