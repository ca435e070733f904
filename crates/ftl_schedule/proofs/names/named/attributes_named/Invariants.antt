use Rattle.std.proofs.Common.{◌≡◌, drop}
use Rattle.ftl_schedule.specs.names.Named.{after, each, attribute_number}
use Rattle.ftl_schedule.proofs.names.named.attributes_named.Given as goal

abbrev pub invariant-loop-name : goal.invariant-loop-name
invariant-loop-name l =
    after l.found (each (attribute_number l.checked.grammar) (drop l.name-index l.names)) ≡ each (attribute_number l.checked.grammar) l.names
