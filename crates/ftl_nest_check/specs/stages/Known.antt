-- Schedules with nests of the classes and attributes of a grammar.
use Rattle.std.specs.Prelude.{◌<◌, List, length, IfSome}
use Rattle.std.specs.List.{All}
use Rattle.ftl_grammar.specs.declared.syntax.rules.Grammar.{Grammar}
use Rattle.ftl_meaning.specs.faults.Checked.{all_attributes}
use Rattle.ftl_schedule.specs.printing.WrittenOf.{AreStagesKnown}
use Rattle.ftl_nest_check.specs.declared.stages.types.Nest.{Nest}
use Rattle.ftl_nest_check.specs.declared.stages.types.NestingPass.{NestingPass}
use Rattle.ftl_nest_check.specs.declared.stages.types.NestingStage.{NestingStage}

-- the host is a class of the grammar, and the attributes are its attributes
pub record IsNestKnown (g : Grammar) (nest : Nest) : Type 0 where
  pub host : nest.host < length g.classes
  pub inner : AreStagesKnown g nest.inner.stages

-- those of a pass and of its nest
pub record IsNestingPassKnown (g : Grammar) (p : NestingPass) : Type 0 where
  pub attributes : All (λ a. a < length (all_attributes g)) p.attrs
  pub nest : IfSome p.nest (IsNestKnown g)

-- those of some passes
abbrev pub AreNestingPassesKnown : Grammar → List NestingPass → Type 0
AreNestingPassesKnown g passes = All (IsNestingPassKnown g) passes

-- those of some stages
abbrev pub AreNestingStagesKnown : Grammar → List NestingStage → Type 0
AreNestingStagesKnown g stages = All (λ (s : NestingStage). AreNestingPassesKnown g s.passes) stages
