-- How schedules are read, one token ahead.
use Rattle.std.specs.Prelude.{[], ◌∷◌, Option, Some, None, Ok, Err, if◌then◌else◌}
use Rattle.ftl_tokens.specs.declared.scanner.kind.Kind.{Kind}
use Rattle.ftl_tokens.specs.declared.scanner.kind.Kind.TheVariants as kind
use Rattle.ftl_tokens.specs.reading.Reader.{Reader, ◌>>=◌, ◌>>◌, ◌<$>◌, pure, next_kind, rest_of, skip}
use Rattle.ftl_tokens.specs.reading.Reader.{is_name, expect, take_name, at_end, push, chain_of}
use Rattle.ftl_schedule.specs.declared.syntax.kind.PassKind.{PassKind}
use Rattle.ftl_schedule.specs.declared.syntax.kind.PassKind.TheVariants.{TopDown, BottomUp, InOrder}
use Rattle.ftl_schedule.specs.declared.syntax.types.AttributeName.{AttributeName}
use Rattle.ftl_schedule.specs.declared.syntax.types.WrittenPass.{WrittenPass}
use Rattle.ftl_schedule.specs.declared.syntax.types.WrittenStage.{WrittenStage}
use Rattle.ftl_schedule.specs.declared.syntax.types.WrittenSchedule.{WrittenSchedule}
use Rattle.ftl_schedule.specs.syntax.Trees.{word_of, attribute_name, written_pass, written_stage, written_schedule}

-- where the next token is the word of this kind, it is taken
abbrev pub or_kind : PassKind → Reader PassKind → Reader PassKind
or_kind k other = λ ts. if is_name (word_of k) ts then Ok (k, rest_of ts) else other ts

-- takes the word of a kind of pass
unfoldable pub take_kind : Reader PassKind
take_kind = or_kind TopDown (or_kind BottomUp (or_kind InOrder (λ ts. Err ts)))

-- an owner, `.` and a name
unfoldable pub attribute : Reader AttributeName
attribute = do
  o ← take_name
  expect kind.Dot
  a ← take_name
  pure (attribute_name o a)

-- one more attribute, by the kind of the next token
abbrev pub more_attribute_by : Option Kind → Reader (Option AttributeName)
more_attribute_by (Some kind.Name) = Some <$> attribute
more_attribute_by _ = pure None

-- one more attribute, if there is one
unfoldable pub more_attribute : Reader (Option AttributeName)
more_attribute = λ ts. more_attribute_by (next_kind ts) ts

-- a pass
unfoldable pub pass : Reader WrittenPass
pass = do
  k ← take_kind
  expect kind.LeftBrace
  xs ← chain_of push more_attribute []
  expect kind.RightBrace
  pure (written_pass k xs)

-- `||` and one more pass, by the kind of the next token
abbrev pub more_pass_by : Option Kind → Reader (Option WrittenPass)
more_pass_by (Some kind.OrOr) = skip >> Some <$> pass
more_pass_by _ = pure None

-- `||` and one more pass, if they are there
unfoldable pub more_pass : Reader (Option WrittenPass)
more_pass = λ ts. more_pass_by (next_kind ts) ts

-- a stage
unfoldable pub stage : Reader WrittenStage
stage = do
  x ← pass
  xs ← chain_of push more_pass (x ∷ [])
  pure (written_stage xs)

-- `;` and one more stage, by the kind of the next token
abbrev pub more_stage_by : Option Kind → Reader (Option WrittenStage)
more_stage_by (Some kind.Semicolon) = skip >> Some <$> stage
more_stage_by _ = pure None

-- `;` and one more stage, if they are there
unfoldable pub more_stage : Reader (Option WrittenStage)
more_stage = λ ts. more_stage_by (next_kind ts) ts

-- the stages, to the end of the tokens
unfoldable pub stages : Reader WrittenSchedule
stages = do
  x ← stage
  xs ← chain_of push more_stage (x ∷ [])
  at_end
  pure (written_schedule xs)

-- a schedule, by the kind of its first token
abbrev pub schedule_by : Option Kind → Reader WrittenSchedule
schedule_by None = pure (written_schedule [])
schedule_by (Some k) = stages

-- a whole schedule
unfoldable pub schedule : Reader WrittenSchedule
schedule = λ ts. schedule_by (next_kind ts) ts
