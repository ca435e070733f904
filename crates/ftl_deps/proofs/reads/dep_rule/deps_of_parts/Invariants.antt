use Rattle.std.proofs.Common.{◌≡◌, ◌++◌, drop, flat_map}
use Rattle.ftl_deps.specs.reads.Meant.{meant, part_deps}
use Rattle.ftl_deps.proofs.reads.dep_rule.deps_of_parts.Given as goal

abbrev pub invariant-loop-part : goal.invariant-loop-part
invariant-loop-part l =
    l.deps ++ flat_map (part_deps (meant l.checked)) (drop l.part-index l.parts)
    ≡ flat_map (part_deps (meant l.checked)) l.parts
