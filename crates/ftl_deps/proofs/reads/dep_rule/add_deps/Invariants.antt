use Rattle.std.proofs.Common.{◌≡◌, ◌++◌, drop}
use Rattle.ftl_deps.specs.reads.Meant.{deps_in, meant}
use Rattle.ftl_deps.proofs.reads.dep_rule.add_deps.Given as goal

abbrev pub invariant-loop-read : goal.invariant-loop-read
invariant-loop-read l =
    l.deps ++ deps_in (meant l.checked) (drop l.read-index l.reads)
    ≡ l.initial.deps ++ deps_in (meant l.checked) l.reads
