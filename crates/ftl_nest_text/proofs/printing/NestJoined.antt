-- Passes and stages of schedules with nests that are written one after another.
use Rattle.std.proofs.Common.{ℕ, List, ◌∷◌, codes, map, refl}
use Rattle.std.proofs.lemmas.Grind.{flat_map-append}
use Rattle.ftl_tokens.specs.declared.scanner.kind.Kind.TheVariants as kind
use Rattle.ftl_tokens.specs.scanner.Tokenized.{fixed}
use Rattle.ftl_tokens.specs.writing.Written.{text_of, written, written_bytes}
use Rattle.ftl_grammar.specs.declared.syntax.rules.Grammar.{Grammar}
use Rattle.ftl_schedule.specs.declared.stages.types.Stage.{Stage}
use Rattle.ftl_schedule.specs.printing.WrittenOf.{pass_by_name, stage_by_name}
use Rattle.ftl_schedule.specs.text.ScheduleText.{stage_written}
use Rattle.ftl_schedule.proofs.printing.Joined.{IsJoined}
use Rattle.ftl_nest_check.specs.declared.stages.types.NestingPass.{NestingPass}
use Rattle.ftl_nest_check.specs.declared.stages.types.NestingStage.{NestingStage}
use Rattle.ftl_nest_text.specs.printing.NestWritten.{nesting_pass_by_name, nesting_stage_by_name}
use Rattle.ftl_nest_text.specs.text.NestText.{inner_stages_written, inner_written, nesting_pass_written}
use Rattle.ftl_nest_text.specs.text.NestText.{nesting_passes_written, nesting_schedule_written, nesting_stage_written}
use Rattle.ftl_nest_text.specs.text.NestText.{nesting_stages_written}

-- the passes of a stage
pub nesting_passes_joined : (g : Grammar) (gap : List ℕ)
    → IsJoined (λ (ps : List NestingPass). text_of (nesting_stage_written gap (map (nesting_pass_by_name g) ps)))
    (λ (p : NestingPass). text_of (nesting_pass_written (codes " ") (nesting_pass_by_name g p)))
    (λ (p : NestingPass). text_of (nesting_pass_written gap (nesting_pass_by_name g p)))
    (written_bytes (written (fixed kind.OrOr) (codes " ")))
nesting_passes_joined g gap = record {
  two = λ p q more. flat_map-append written_bytes (nesting_pass_written (codes " ") (nesting_pass_by_name g p))
      (written (fixed kind.OrOr) (codes " ")
      ∷ nesting_passes_written gap (nesting_pass_by_name g q) (map (nesting_pass_by_name g) more));
  one = λ p. refl;
  none = refl;
}

-- the stages of a schedule
pub nesting_stages_joined : (g : Grammar)
    → IsJoined (λ (ss : List NestingStage). text_of (nesting_schedule_written (map (nesting_stage_by_name g) ss)))
    (λ (s : NestingStage). text_of (nesting_stage_written (codes " ") (map (nesting_pass_by_name g) s.passes)))
    (λ (s : NestingStage). text_of (nesting_stage_written (codes "\n") (map (nesting_pass_by_name g) s.passes)))
    (written_bytes (written (fixed kind.Semicolon) (codes "\n")))
nesting_stages_joined g = record {
  two = λ s t more. flat_map-append written_bytes
      (nesting_stage_written (codes " ") (map (nesting_pass_by_name g) s.passes))
      (written (fixed kind.Semicolon) (codes "\n")
      ∷ nesting_stages_written (nesting_stage_by_name g t) (map (nesting_stage_by_name g) more));
  one = λ s. refl;
  none = refl;
}

-- the stages of a nest
pub inner_joined : (g : Grammar)
    → IsJoined (λ (ss : List Stage). text_of (inner_written (map (stage_by_name g) ss)))
    (λ (s : Stage). text_of (stage_written (codes " ") (map (pass_by_name g) s.passes)))
    (λ (s : Stage). text_of (stage_written (codes " ") (map (pass_by_name g) s.passes)))
    (written_bytes (written (fixed kind.Semicolon) (codes " ")))
inner_joined g = record {
  two = λ s t more. flat_map-append written_bytes (stage_written (codes " ") (map (pass_by_name g) s.passes))
      (written (fixed kind.Semicolon) (codes " ")
      ∷ inner_stages_written (stage_by_name g t) (map (stage_by_name g) more));
  one = λ s. refl;
  none = refl;
}
