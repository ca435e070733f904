use Rattle.std.proofs.Common.{◌≡◌, ◌++◌, drop}
use Rattle.ftl_base.specs.Widths.{greatest_of_width}
use Rattle.ftl_visit.specs.compiled.Pieces.{IsBuilt, codes_in}
use Rattle.ftl_visit.specs.compiled.RuleCode.{class_codes}
use Rattle.ftl_visit.proofs.compiled.compiling.build.Given as goal

abbrev pub invariant-loop-class : goal.invariant-loop-class
invariant-loop-class l =
    (codes_in l.built ++ class_codes (drop l.class-index l.classes) ≡ class_codes l.classes) × IsBuilt (greatest_of_width l.width) l.built
