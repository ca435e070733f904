use Rattle.std.proofs.Common.{◌≡◌, drop, map}
use Rattle.std.specs.List.{list_any}
use Rattle.ftl_nest_check.specs.check.WithoutNests.{has_nest}
use Rattle.ftl_nest_check.specs.stages.Nested.{nesting_pass_of}
use Rattle.ftl_nest_check.proofs.flat.without_nests.stage_has_nests.Given as goal

abbrev pub invariant-loop-pass : goal.invariant-loop-pass
invariant-loop-pass l =
    list_any has_nest (map nesting_pass_of (drop l.pass l.passes))
    ≡ list_any has_nest (map nesting_pass_of l.passes)
