use Rattle.std.proofs.Common.{◌≡◌, take}
use Rattle.ftl_meaning.specs.faults.FirstFault.{attribute_names}
use Rattle.ftl_checked.proofs.lookup.tables.attr_names.Given as goal

abbrev pub invariant-loop-attr : goal.invariant-loop-attr
invariant-loop-attr l = l.names ≡ attribute_names (take l.attr-index l.attrs)
