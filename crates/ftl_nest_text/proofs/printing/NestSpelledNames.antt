-- A schedule with nests that the tokens of a text spell can be written.
use Rattle.std.proofs.Common.{◌≢◌, List, [], ◌∷◌}
use Rattle.std.specs.List.{All, AllByRecursion}
use Rattle.std.proofs.lemmas.List.Elements.{All-from_recursion, All-weaker}
use Rattle.ftl_tokens.specs.declared.scanner.kind.Kind.TheVariants as kind
use Rattle.ftl_tokens.specs.scanner.Tokenized.{fixed, name}
use Rattle.ftl_tokens.specs.reading.Reader.{Tokens}
use Rattle.ftl_grammar.proofs.printing.Levels.{Each, each-left, each-right}
use Rattle.ftl_grammar.proofs.printing.SpelledAttrs.{Said}
use Rattle.ftl_schedule.specs.declared.syntax.types.WrittenStage.{WrittenStage}
use Rattle.ftl_schedule.specs.syntax.Spelling.{no_stages, stages_of}
use Rattle.ftl_schedule.specs.syntax.Trees.{written_schedule}
use Rattle.ftl_schedule.specs.text.ScheduleText.{CanBeWritten, HasNames}
use Rattle.ftl_schedule.proofs.printing.SpelledNames.{pass_said, spelled_writable}
use Rattle.ftl_nest_text.specs.declared.syntax.types.WrittenNest.{WrittenNest}
use Rattle.ftl_nest_text.specs.declared.syntax.types.WrittenNestingPass.{WrittenNestingPass}
use Rattle.ftl_nest_text.specs.declared.syntax.types.WrittenNestingStage.{WrittenNestingStage}
use Rattle.ftl_nest_text.specs.declared.syntax.types.WrittenNestingSchedule.{WrittenNestingSchedule}
use Rattle.ftl_nest_text.specs.syntax.NestSpelling.{SpellsInner, SpellsNest, SpellsNestingPass, SpellsNestingPasses}
use Rattle.ftl_nest_text.specs.syntax.NestSpelling.{SpellsNestingSchedule, SpellsNestingStage, SpellsNestingStages}
use Rattle.ftl_nest_text.specs.syntax.NestSpelling.{inner_of, more_nesting_passes, more_nesting_stages, nest_of}
use Rattle.ftl_nest_text.specs.syntax.NestSpelling.{nesting_stage_of, nesting_stages_of, no_inner, no_nesting_stages}
use Rattle.ftl_nest_text.specs.syntax.NestSpelling.{one_nesting_pass, one_nesting_stage, with_nest, without_nest}
use Rattle.ftl_nest_text.specs.text.NestText.{CanBeNestWritten, CanNestBeWritten}

-- ---- nests

inner_writable : {ts : Tokens} {xs : List WrittenStage} → SpellsInner ts xs → Each Said ts
    → CanBeWritten (written_schedule xs)
inner_writable no_inner said = spelled_writable no_stages said
inner_writable (inner_of s) said = spelled_writable (stages_of s) said

nest_writable : {ts : Tokens} {n : WrittenNest} → SpellsNest ts n → Each Said ts
    → Said (name n.host) × CanBeWritten (written_schedule n.stages)
nest_writable (nest_of {a = a} s) said =
    (said.1.0, inner_writable s (each-left Said a (fixed kind.RightBrace ∷ []) said.1.1.1))

-- ---- passes and stages

-- the names of its own list can be said
abbrev pub OwnSaid : WrittenNestingPass → Type 0
OwnSaid p = All HasNames p.attrs

-- what it nests can be written
abbrev pub NestSaid : WrittenNestingPass → Type 0
NestSaid p = CanNestBeWritten p.kind p.nest

abbrev pub StageOwn : WrittenNestingStage → Type 0
StageOwn s = All OwnSaid s.passes

abbrev pub StageNests : WrittenNestingStage → Type 0
StageNests s = All NestSaid s.passes

-- both
abbrev IsSaid : WrittenNestingPass → Type 0
IsSaid p = OwnSaid p × NestSaid p

-- it has passes, and these are such
abbrev HasSaid : WrittenNestingStage → Type 0
HasSaid s = (s.passes ≢ []) × All IsSaid s.passes

nesting_pass_said : {ts : Tokens} {x : WrittenNestingPass} → SpellsNestingPass ts x → Each Said ts → IsSaid x
nesting_pass_said (without_nest s) said = (pass_said s said, tt)
nesting_pass_said (with_nest {a = a} {b = b} may s n) said =
    let nest = nest_writable n (each-right Said a b said) in
    (pass_said s (each-left Said a b said), (may, nest.0, nest.1))

passes_said : {ts : Tokens} {xs : List WrittenNestingPass} → SpellsNestingPasses ts xs → Each Said ts
    → AllByRecursion IsSaid xs
passes_said (one_nesting_pass s) said = (nesting_pass_said s said, tt)
passes_said (more_nesting_passes {a = a} {b = b} s t) said = (
  nesting_pass_said s (each-left Said a (fixed kind.OrOr ∷ b) said),
  passes_said t (each-right Said a (fixed kind.OrOr ∷ b) said).1,
)

some_passes : {ts : Tokens} {xs : List WrittenNestingPass} → SpellsNestingPasses ts xs → xs ≢ []
some_passes (one_nesting_pass s) = λ none. cc
some_passes (more_nesting_passes s t) = λ none. cc

stage_said : {ts : Tokens} {x : WrittenNestingStage} → SpellsNestingStage ts x → Each Said ts → HasSaid x
stage_said (nesting_stage_of {xs = xs} s) said = (some_passes s, All-from_recursion IsSaid xs (passes_said s said))

stages_said : {ts : Tokens} {xs : List WrittenNestingStage} → SpellsNestingStages ts xs → Each Said ts
    → AllByRecursion HasSaid xs
stages_said (one_nesting_stage s) said = (stage_said s said, tt)
stages_said (more_nesting_stages {a = a} {b = b} s t) said = (
  stage_said s (each-left Said a (fixed kind.Semicolon ∷ b) said),
  stages_said t (each-right Said a (fixed kind.Semicolon ∷ b) said).1,
)

schedule_said : {ts : Tokens} {s : WrittenNestingSchedule} → SpellsNestingSchedule ts s → Each Said ts
    → AllByRecursion HasSaid s.stages
schedule_said no_nesting_stages said = tt
schedule_said (nesting_stages_of s) said = stages_said s said

-- ---- all

-- what is spelled by tokens that can be said can be written
pub spelled_nest_writable : {ts : Tokens} {s : WrittenNestingSchedule} → SpellsNestingSchedule ts s → Each Said ts
    → CanBeNestWritten s
spelled_nest_writable {s = s} spells said =
    let all : All HasSaid s.stages = All-from_recursion HasSaid s.stages (schedule_said spells said) in
    record {
      passes = All-weaker HasSaid (λ (x : WrittenNestingStage). x.passes ≢ []) (λ x both. both.0) s.stages all;
      names =
          All-weaker HasSaid StageOwn
          (λ x both. All-weaker IsSaid OwnSaid (λ p two. two.0) x.passes both.1) s.stages all;
      nests =
          All-weaker HasSaid StageNests
          (λ x both. All-weaker IsSaid NestSaid (λ p two. two.1) x.passes both.1) s.stages all;
    }
