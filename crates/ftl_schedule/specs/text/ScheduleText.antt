-- The canonical text of a schedule: its tokens, each with the white space behind it. A pass is its kind, ` {`, for each
-- attribute a space and `Owner.attr`, and ` }`. Passes of a stage are joined by ` || `, stages by ` ;` and a line feed,
-- and a last line feed follows where there is a stage.
use Rattle.std.specs.Prelude.{◌≡◌, ◌≢◌, ℕ, List, [], ◌∷◌, ◌++◌, flat_map, codes, Ok}
use Rattle.std.specs.List.{All}
use Rattle.ftl_tokens.specs.declared.scanner.kind.Kind.TheVariants as kind
use Rattle.ftl_tokens.specs.declared.scanner.kind.Token.{Token}
use Rattle.ftl_tokens.specs.scanner.Scan.{scan}
use Rattle.ftl_tokens.specs.scanner.Tokenized.{fixed, name, symbols_of}
use Rattle.ftl_tokens.specs.writing.Written.{CanBeSaid, Written, text_of, written}
use Rattle.ftl_schedule.specs.syntax.Spelling.{SpellsSchedule}
use Rattle.ftl_schedule.specs.syntax.Trees.{word_of}
use Rattle.ftl_schedule.specs.declared.syntax.kind.PassKind.{PassKind}
use Rattle.ftl_schedule.specs.declared.syntax.types.AttributeName.{AttributeName}
use Rattle.ftl_schedule.specs.declared.syntax.types.WrittenPass.{WrittenPass}
use Rattle.ftl_schedule.specs.declared.syntax.types.WrittenStage.{WrittenStage}
use Rattle.ftl_schedule.specs.declared.syntax.types.WrittenSchedule.{WrittenSchedule}

-- `Owner.attr` and a space
abbrev pub attribute_written : AttributeName → List Written
attribute_written x =
    written (name x.owner) [] ∷ written (fixed kind.Dot) [] ∷ written (name x.attr) (codes " ") ∷ []

-- the kind of a pass and `{`
abbrev pub open_pass : PassKind → List Written
open_pass k = written (name (word_of k)) (codes " ") ∷ written (fixed kind.LeftBrace) (codes " ") ∷ []

-- `}` and what follows it
abbrev pub close : (gap : List ℕ) → List Written
close gap = written (fixed kind.RightBrace) gap ∷ []

-- a pass, and what follows it
abbrev pub pass_written : (gap : List ℕ) → WrittenPass → List Written
pass_written gap p = open_pass p.kind ++ (flat_map attribute_written p.attrs ++ close gap)

-- passes with `||` between them, and what follows the last
abbrev pub passes_written : (gap : List ℕ) → WrittenPass → List WrittenPass → List Written
passes_written gap p [] = pass_written gap p
passes_written gap p (q ∷ more) =
    pass_written (codes " ") p ++ (written (fixed kind.OrOr) (codes " ") ∷ passes_written gap q more)

-- a stage, and what follows it
abbrev pub stage_written : (gap : List ℕ) → List WrittenPass → List Written
stage_written gap [] = []
stage_written gap (p ∷ more) = passes_written gap p more

-- stages with `;` between them
abbrev pub stages_written : WrittenStage → List WrittenStage → List Written
stages_written s [] = stage_written (codes "\n") s.passes
stages_written s (t ∷ more) =
    stage_written (codes " ") s.passes ++ (written (fixed kind.Semicolon) (codes "\n") ∷ stages_written t more)

-- all stages
abbrev pub schedule_written : List WrittenStage → List Written
schedule_written [] = []
schedule_written (s ∷ more) = stages_written s more

-- the canonical text
abbrev pub schedule_text : WrittenSchedule → List ℕ
schedule_text s = text_of (schedule_written s.stages)

-- both names can be said
abbrev pub HasNames : AttributeName → Type 0
HasNames x = CanBeSaid 2147483647 (name x.owner) × CanBeSaid 2147483647 (name x.attr)

-- each stage has a pass, and all names can be said
pub record CanBeWritten (s : WrittenSchedule) : Type 0 where
  pub passes : All (λ (stage : WrittenStage). stage.passes ≢ []) s.stages
  pub names :
      All (λ (stage : WrittenStage). All (λ (pass : WrittenPass). All HasNames pass.attrs) stage.passes) s.stages

-- the text has tokens, no number above 2147483647, and they spell the schedule
pub record IsTextOf (text : List ℕ) (s : WrittenSchedule) : Type 0 where
  pub tokens : List Token
  pub scanned : scan 2147483647 text ≡ Ok tokens
  pub spells : SpellsSchedule (symbols_of (record { text = text; tokens = tokens })) s
