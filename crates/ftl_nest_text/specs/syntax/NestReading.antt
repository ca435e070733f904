-- How schedules with nests are read, one token ahead.
use Rattle.std.specs.Prelude.{List, [], ◌∷◌, Option, Some, None, Ok, Err, if◌then◌else◌}
use Rattle.ftl_tokens.specs.declared.scanner.kind.Kind.{Kind}
use Rattle.ftl_tokens.specs.declared.scanner.kind.Kind.TheVariants as kind
use Rattle.ftl_tokens.specs.reading.Reader.{Reader, ◌>>=◌, ◌>>◌, ◌<$>◌, pure, next_kind, rest_of, skip}
use Rattle.ftl_tokens.specs.reading.Reader.{is_name, expect, take_name, at_end, push, chain_of}
use Rattle.ftl_schedule.specs.declared.syntax.kind.PassKind.{PassKind}
use Rattle.ftl_schedule.specs.declared.syntax.kind.PassKind.TheVariants.{InOrder}
use Rattle.ftl_schedule.specs.declared.syntax.types.WrittenStage.{WrittenStage}
use Rattle.ftl_schedule.specs.syntax.Reading.{pass, stage, more_stage}
use Rattle.ftl_nest_text.specs.declared.syntax.types.WrittenNest.{WrittenNest}
use Rattle.ftl_nest_text.specs.declared.syntax.types.WrittenNestingPass.{WrittenNestingPass}
use Rattle.ftl_nest_text.specs.declared.syntax.types.WrittenNestingStage.{WrittenNestingStage}
use Rattle.ftl_nest_text.specs.declared.syntax.types.WrittenNestingSchedule.{WrittenNestingSchedule}
use Rattle.ftl_nest_text.specs.syntax.NestTrees as tree
use Rattle.ftl_nest_text.specs.syntax.NestTrees.{nest_word, written_nest}

-- takes the word that a nest begins with
unfoldable pub take_nest_word : Reader (Unit {0})
take_nest_word = λ ts. if is_name nest_word ts then Ok (tt, rest_of ts) else Err ts

-- a stage and those after it
unfoldable pub inner_stages : Reader (List WrittenStage)
inner_stages = do
  x ← stage
  chain_of push more_stage (x ∷ [])

-- the stages of a nest, by the kind of the next token
abbrev pub inner_by : Option Kind → Reader (List WrittenStage)
inner_by (Some kind.Name) = inner_stages
inner_by _ = pure []

-- the stages of a nest
unfoldable pub inner : Reader (List WrittenStage)
inner = λ ts. inner_by (next_kind ts) ts

-- a nest
unfoldable pub nest : Reader WrittenNest
nest = do
  take_nest_word
  host ← take_name
  expect kind.LeftBrace
  xs ← inner
  expect kind.RightBrace
  pure (written_nest host xs)

-- a nest, by the kind of the next token: no other name may follow a pass
abbrev pub more_nest_by : Option Kind → Reader (Option WrittenNest)
more_nest_by (Some kind.Name) = Some <$> nest
more_nest_by _ = pure None

-- a nest, if there is one
unfoldable pub more_nest : Reader (Option WrittenNest)
more_nest = λ ts. more_nest_by (next_kind ts) ts

-- what a pass of this kind nests
abbrev pub nest_after : PassKind → Reader (Option WrittenNest)
nest_after InOrder = pure None
nest_after _ = more_nest

-- a pass, and what it nests
unfoldable pub nesting_pass : Reader WrittenNestingPass
nesting_pass = do
  p ← pass
  found ← nest_after p.kind
  pure (tree.nesting_pass p found)

-- `||` and one more pass, by the kind of the next token
abbrev pub more_nesting_pass_by : Option Kind → Reader (Option WrittenNestingPass)
more_nesting_pass_by (Some kind.OrOr) = skip >> Some <$> nesting_pass
more_nesting_pass_by _ = pure None

-- `||` and one more pass, if they are there
unfoldable pub more_nesting_pass : Reader (Option WrittenNestingPass)
more_nesting_pass = λ ts. more_nesting_pass_by (next_kind ts) ts

-- a stage
unfoldable pub nesting_stage : Reader WrittenNestingStage
nesting_stage = do
  x ← nesting_pass
  xs ← chain_of push more_nesting_pass (x ∷ [])
  pure (tree.nesting_stage xs)

-- `;` and one more stage, by the kind of the next token
abbrev pub more_nesting_stage_by : Option Kind → Reader (Option WrittenNestingStage)
more_nesting_stage_by (Some kind.Semicolon) = skip >> Some <$> nesting_stage
more_nesting_stage_by _ = pure None

-- `;` and one more stage, if they are there
unfoldable pub more_nesting_stage : Reader (Option WrittenNestingStage)
more_nesting_stage = λ ts. more_nesting_stage_by (next_kind ts) ts

-- the stages, to the end of the tokens
unfoldable pub nesting_stages : Reader WrittenNestingSchedule
nesting_stages = do
  x ← nesting_stage
  xs ← chain_of push more_nesting_stage (x ∷ [])
  at_end
  pure (tree.nesting_schedule xs)

-- a schedule, by the kind of its first token
abbrev pub nesting_schedule_by : Option Kind → Reader WrittenNestingSchedule
nesting_schedule_by None = pure (tree.nesting_schedule [])
nesting_schedule_by (Some k) = nesting_stages

-- a whole schedule
unfoldable pub nesting_schedule : Reader WrittenNestingSchedule
nesting_schedule = λ ts. nesting_schedule_by (next_kind ts) ts
