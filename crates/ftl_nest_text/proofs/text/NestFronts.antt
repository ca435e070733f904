-- The tokens of the canonical text of a schedule with nests are read as they were written.
use Rattle.std.proofs.Common.{ℕ, List, [], ◌∷◌, ◌++◌, codes, Option, Some, None, refl}
use Rattle.std.specs.List.{All}
use Rattle.std.proofs.lemmas.List.Elements.{All-head, All-tail}
use Rattle.ftl_tokens.specs.declared.scanner.kind.Kind.TheVariants as kind
use Rattle.ftl_tokens.specs.scanner.Kinds.{kind_of_word}
use Rattle.ftl_tokens.specs.scanner.Tokenized.{fixed, name}
use Rattle.ftl_tokens.specs.writing.Written.{CanBeSaid, IsSpace, written}
use Rattle.ftl_schedule.specs.declared.syntax.kind.PassKind.{PassKind}
use Rattle.ftl_schedule.specs.declared.syntax.types.WrittenPass.{WrittenPass}
use Rattle.ftl_schedule.specs.declared.syntax.types.WrittenStage.{WrittenStage}
use Rattle.ftl_schedule.specs.syntax.Trees.{NameText}
use Rattle.ftl_schedule.specs.text.ScheduleText.{HasNames, close, pass_written, stage_written}
use Rattle.ftl_schedule.proofs.text.Fronts.{Fronts, front-append, no_front, spaced_front}
use Rattle.ftl_schedule.proofs.text.SpelledSchedule.{PassNames, StageNames, ascii_said, pass_front, stage_front}
use Rattle.ftl_schedule.proofs.text.SpelledSchedule.{word_is_name}
use Rattle.ftl_nest_text.specs.declared.syntax.types.WrittenNest.{WrittenNest}
use Rattle.ftl_nest_text.specs.declared.syntax.types.WrittenNestingPass.{WrittenNestingPass}
use Rattle.ftl_nest_text.specs.declared.syntax.types.WrittenNestingStage.{WrittenNestingStage}
use Rattle.ftl_nest_text.specs.syntax.NestTrees.{nest_word, own_pass}
use Rattle.ftl_nest_text.specs.text.NestText.{CanNestBeWritten, inner_stages_written, inner_written, nest_written}
use Rattle.ftl_nest_text.specs.text.NestText.{nesting_pass_written, nesting_passes_written, nesting_schedule_written}
use Rattle.ftl_nest_text.specs.text.NestText.{nesting_stage_written, nesting_stages_written, open_nest, pass_with}

-- ---- nests

-- the word of nests is a name
nest_said : CanBeSaid 2147483647 (name nest_word)
unfolding kind_of_word
nest_said = ascii_said _ _ refl (word_is_name _ _ refl refl refl)

open_front : (host : NameText) → CanBeSaid 2147483647 (name host) → Fronts (open_nest host)
open_front host said =
    front-append (written (name nest_word) (codes " ") ∷ [])
    (written (name host) (codes " ") ∷ written (fixed kind.LeftBrace) (codes " ") ∷ [])
    (spaced_front (written (name nest_word) (codes " ")) nest_said refl)
    (front-append (written (name host) (codes " ") ∷ []) (written (fixed kind.LeftBrace) (codes " ") ∷ [])
    (spaced_front (written (name host) (codes " ")) said refl)
    (spaced_front (written (fixed kind.LeftBrace) (codes " ")) tt refl))

inner_stages_front : (s : WrittenStage) (more : List WrittenStage) → All StageNames (s ∷ more)
    → Fronts (inner_stages_written s more)
inner_stages_front s [] names = stage_front (codes " ") s.passes refl (All-head StageNames s [] names)
inner_stages_front s (t ∷ more) names =
    front-append (stage_written (codes " ") s.passes)
    (written (fixed kind.Semicolon) (codes " ") ∷ inner_stages_written t more)
    (stage_front (codes " ") s.passes refl (All-head StageNames s (t ∷ more) names))
    (front-append (written (fixed kind.Semicolon) (codes " ") ∷ []) (inner_stages_written t more)
    (spaced_front (written (fixed kind.Semicolon) (codes " ")) tt refl)
    (inner_stages_front t more (All-tail StageNames s (t ∷ more) names)))

inner_front : (stages : List WrittenStage) → All StageNames stages → Fronts (inner_written stages)
inner_front [] names = no_front
inner_front (s ∷ more) names = inner_stages_front s more names

nest_front : (gap : List ℕ) (nest : WrittenNest) → IsSpace gap → CanBeSaid 2147483647 (name nest.host)
    → All StageNames nest.stages → Fronts (nest_written gap nest)
nest_front gap nest space said names =
    front-append (open_nest nest.host) (inner_written nest.stages ++ close gap) (open_front nest.host said)
    (front-append (inner_written nest.stages) (close gap) (inner_front nest.stages names)
    (spaced_front (written (fixed kind.RightBrace) gap) tt space))

-- ---- passes and stages

with_front : (gap : List ℕ) (k : PassKind) (p : WrittenPass) (nest : Option WrittenNest) → IsSpace gap → PassNames p
    → CanNestBeWritten k nest → Fronts (pass_with gap p nest)
with_front gap k p None space names can = pass_front gap p space names
with_front gap k p (Some nest) space names can =
    front-append (pass_written (codes " ") p) (nest_written gap nest) (pass_front (codes " ") p refl names)
    (nest_front gap nest space can.1 can.2.names)

-- the names of a pass's own list can be said
abbrev OwnNames : WrittenNestingPass → Type 0
OwnNames p = All HasNames p.attrs

-- what a pass nests can be written
abbrev pub NestCan : WrittenNestingPass → Type 0
NestCan p = CanNestBeWritten p.kind p.nest

passes_front : (gap : List ℕ) (p : WrittenNestingPass) (more : List WrittenNestingPass) → IsSpace gap
    → All OwnNames (p ∷ more) → All NestCan (p ∷ more) → Fronts (nesting_passes_written gap p more)
passes_front gap p [] space names nests =
    with_front gap p.kind (own_pass p) p.nest space (All-head OwnNames p [] names) (All-head NestCan p [] nests)
passes_front gap p (q ∷ more) space names nests =
    front-append (nesting_pass_written (codes " ") p)
    (written (fixed kind.OrOr) (codes " ") ∷ nesting_passes_written gap q more)
    (with_front (codes " ") p.kind (own_pass p) p.nest refl (All-head OwnNames p (q ∷ more) names)
    (All-head NestCan p (q ∷ more) nests))
    (front-append (written (fixed kind.OrOr) (codes " ") ∷ []) (nesting_passes_written gap q more)
    (spaced_front (written (fixed kind.OrOr) (codes " ")) tt refl)
    (passes_front gap q more space (All-tail OwnNames p (q ∷ more) names) (All-tail NestCan p (q ∷ more) nests)))

-- the names of a stage's own lists can be said
abbrev pub OuterNames : WrittenNestingStage → Type 0
OuterNames s = All OwnNames s.passes

-- what the passes of a stage nest can be written
abbrev pub NestsCan : WrittenNestingStage → Type 0
NestsCan s = All NestCan s.passes

outer_front : (gap : List ℕ) (passes : List WrittenNestingPass) → IsSpace gap → All OwnNames passes
    → All NestCan passes → Fronts (nesting_stage_written gap passes)
outer_front gap [] space names nests = no_front
outer_front gap (p ∷ more) space names nests = passes_front gap p more space names nests

stages_front : (s : WrittenNestingStage) (more : List WrittenNestingStage) → All OuterNames (s ∷ more)
    → All NestsCan (s ∷ more) → Fronts (nesting_stages_written s more)
stages_front s [] names nests =
    outer_front (codes "\n") s.passes refl (All-head OuterNames s [] names) (All-head NestsCan s [] nests)
stages_front s (t ∷ more) names nests =
    front-append (nesting_stage_written (codes " ") s.passes)
    (written (fixed kind.Semicolon) (codes "\n") ∷ nesting_stages_written t more)
    (outer_front (codes " ") s.passes refl (All-head OuterNames s (t ∷ more) names)
    (All-head NestsCan s (t ∷ more) nests))
    (front-append (written (fixed kind.Semicolon) (codes "\n") ∷ []) (nesting_stages_written t more)
    (spaced_front (written (fixed kind.Semicolon) (codes "\n")) tt refl)
    (stages_front t more (All-tail OuterNames s (t ∷ more) names) (All-tail NestsCan s (t ∷ more) nests)))

pub nesting_schedule_front : (stages : List WrittenNestingStage) → All OuterNames stages → All NestsCan stages
    → Fronts (nesting_schedule_written stages)
nesting_schedule_front [] names nests = no_front
nesting_schedule_front (s ∷ more) names nests = stages_front s more names nests
