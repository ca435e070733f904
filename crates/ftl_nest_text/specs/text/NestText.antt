-- The canonical text of a schedule with nests: its tokens, each with the white space behind it. It is that of a
-- schedule without nests, and a nest follows its pass as ` nest X {`, for each inner stage a space and its text, ` ;`
-- between inner stages, and ` }`.
use Rattle.std.specs.Prelude.{◌≡◌, ◌≢◌, ℕ, List, [], ◌∷◌, ◌++◌, codes, Option, Some, None, Ok}
use Rattle.std.specs.List.{All}
use Rattle.ftl_tokens.specs.declared.scanner.kind.Kind.TheVariants as kind
use Rattle.ftl_tokens.specs.declared.scanner.kind.Token.{Token}
use Rattle.ftl_tokens.specs.scanner.Scan.{scan}
use Rattle.ftl_tokens.specs.scanner.Tokenized.{fixed, name, symbols_of}
use Rattle.ftl_tokens.specs.writing.Written.{CanBeSaid, Written, text_of, written}
use Rattle.ftl_schedule.specs.declared.syntax.kind.PassKind.{PassKind}
use Rattle.ftl_schedule.specs.declared.syntax.types.WrittenPass.{WrittenPass}
use Rattle.ftl_schedule.specs.declared.syntax.types.WrittenStage.{WrittenStage}
use Rattle.ftl_schedule.specs.syntax.Trees.{NameText, written_schedule}
use Rattle.ftl_schedule.specs.text.ScheduleText.{CanBeWritten, HasNames, close, pass_written, stage_written}
use Rattle.ftl_nest_text.specs.declared.syntax.types.WrittenNest.{WrittenNest}
use Rattle.ftl_nest_text.specs.declared.syntax.types.WrittenNestingPass.{WrittenNestingPass}
use Rattle.ftl_nest_text.specs.declared.syntax.types.WrittenNestingStage.{WrittenNestingStage}
use Rattle.ftl_nest_text.specs.declared.syntax.types.WrittenNestingSchedule.{WrittenNestingSchedule}
use Rattle.ftl_nest_text.specs.syntax.NestSpelling.{SpellsNestingSchedule}
use Rattle.ftl_nest_text.specs.syntax.NestTrees.{MayNest, nest_word, own_pass}

-- `nest X {` and a space
abbrev pub open_nest : NameText → List Written
open_nest host =
    written (name nest_word) (codes " ") ∷ written (name host) (codes " ")
    ∷ written (fixed kind.LeftBrace) (codes " ") ∷ []

-- inner stages with `;` between them
abbrev pub inner_stages_written : WrittenStage → List WrittenStage → List Written
inner_stages_written s [] = stage_written (codes " ") s.passes
inner_stages_written s (t ∷ more) =
    stage_written (codes " ") s.passes
    ++ (written (fixed kind.Semicolon) (codes " ") ∷ inner_stages_written t more)

-- all inner stages
abbrev pub inner_written : List WrittenStage → List Written
inner_written [] = []
inner_written (s ∷ more) = inner_stages_written s more

-- a nest, and what follows it
abbrev pub nest_written : (gap : List ℕ) → WrittenNest → List Written
nest_written gap nest = open_nest nest.host ++ (inner_written nest.stages ++ close gap)

-- a pass with what it nests, and what follows it
abbrev pub pass_with : (gap : List ℕ) → WrittenPass → Option WrittenNest → List Written
pass_with gap pass None = pass_written gap pass
pass_with gap pass (Some nest) = pass_written (codes " ") pass ++ nest_written gap nest

-- a pass, and what follows it
abbrev pub nesting_pass_written : (gap : List ℕ) → WrittenNestingPass → List Written
nesting_pass_written gap p = pass_with gap (own_pass p) p.nest

-- passes with `||` between them, and what follows the last
abbrev pub nesting_passes_written : (gap : List ℕ) → WrittenNestingPass → List WrittenNestingPass → List Written
nesting_passes_written gap p [] = nesting_pass_written gap p
nesting_passes_written gap p (q ∷ more) =
    nesting_pass_written (codes " ") p
    ++ (written (fixed kind.OrOr) (codes " ") ∷ nesting_passes_written gap q more)

-- a stage, and what follows it
abbrev pub nesting_stage_written : (gap : List ℕ) → List WrittenNestingPass → List Written
nesting_stage_written gap [] = []
nesting_stage_written gap (p ∷ more) = nesting_passes_written gap p more

-- stages with `;` between them
abbrev pub nesting_stages_written : WrittenNestingStage → List WrittenNestingStage → List Written
nesting_stages_written s [] = nesting_stage_written (codes "\n") s.passes
nesting_stages_written s (t ∷ more) =
    nesting_stage_written (codes " ") s.passes
    ++ (written (fixed kind.Semicolon) (codes "\n") ∷ nesting_stages_written t more)

-- all stages
abbrev pub nesting_schedule_written : List WrittenNestingStage → List Written
nesting_schedule_written [] = []
nesting_schedule_written (s ∷ more) = nesting_stages_written s more

-- the canonical text
abbrev pub nesting_schedule_text : WrittenNestingSchedule → List ℕ
nesting_schedule_text s = text_of (nesting_schedule_written s.stages)

-- ---- what can be written

-- where a pass of this kind nests, it may, the name of the host can be said, and the inner stages can be written
abbrev pub CanNestBeWritten : PassKind → Option WrittenNest → Type 0
CanNestBeWritten k None = Unit {0}
CanNestBeWritten k (Some nest) =
    MayNest k × CanBeSaid 2147483647 (name nest.host) × CanBeWritten (written_schedule nest.stages)

-- each stage and each inner stage has a pass, all names can be said, and no inorder pass has a nest
pub record CanBeNestWritten (s : WrittenNestingSchedule) : Type 0 where
  pub passes : All (λ (stage : WrittenNestingStage). stage.passes ≢ []) s.stages
  pub names :
      All (λ (stage : WrittenNestingStage). All (λ (pass : WrittenNestingPass). All HasNames pass.attrs) stage.passes)
      s.stages
  pub nests :
      All
      (λ (stage : WrittenNestingStage).
      All (λ (pass : WrittenNestingPass). CanNestBeWritten pass.kind pass.nest) stage.passes) s.stages

-- the text has tokens, no number above 2147483647, and they spell the schedule
pub record IsNestTextOf (text : List ℕ) (s : WrittenNestingSchedule) : Type 0 where
  pub tokens : List Token
  pub scanned : scan 2147483647 text ≡ Ok tokens
  pub spells : SpellsNestingSchedule (symbols_of (record { text = text; tokens = tokens })) s
