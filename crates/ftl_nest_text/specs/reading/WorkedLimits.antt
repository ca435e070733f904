-- Stages without attributes, by how many passes they have.
use Rattle.std.specs.Prelude.{ℕ, List, [], codes, replicate, None, Some}
use Rattle.ftl_schedule.specs.declared.syntax.kind.PassKind.TheVariants.{TopDown}
use Rattle.ftl_schedule.specs.declared.syntax.types.WrittenStage.{WrittenStage}
use Rattle.ftl_schedule.specs.syntax.Trees.{written_pass, written_stage}
use Rattle.ftl_nest_text.specs.declared.syntax.types.WrittenNestingPass.{WrittenNestingPass}
use Rattle.ftl_nest_text.specs.declared.syntax.types.WrittenNestingStage.{WrittenNestingStage}
use Rattle.ftl_nest_text.specs.syntax.NestTrees.{nesting_pass, nesting_stage, written_nest}

-- the same entry so often
abbrev pub so_many : {X : Type 0} → ℕ → X → List X
so_many count x = replicate count x

-- an inner stage of so many passes
abbrev pub inner : ℕ → WrittenStage
inner count = written_stage (so_many count (written_pass TopDown []))

-- an outer pass that nests these stages
abbrev pub with_nest : List WrittenStage → WrittenNestingPass
with_nest stages = nesting_pass (written_pass TopDown []) (Some (written_nest (codes "Row") stages))

-- an outer pass without a nest
abbrev pub without : WrittenNestingPass
without = nesting_pass (written_pass TopDown []) None

-- an outer stage of these passes
abbrev pub outer : List WrittenNestingPass → WrittenNestingStage
outer passes = nesting_stage passes
