-- The tokens of the canonical text of a schedule with nests spell it.
use Rattle.std.proofs.Common.{◌≢◌, ℕ, List, [], ◌∷◌, codes, Option, Some, None, refl, sym, subst, arith}
use Rattle.std.specs.List.{All}
use Rattle.std.proofs.lemmas.List.{append-nil}
use Rattle.std.proofs.lemmas.List.Elements.{All-head, All-tail}
use Rattle.ftl_tokens.specs.declared.scanner.kind.Kind.TheVariants as kind
use Rattle.ftl_tokens.specs.scanner.Tokenized.{fixed, name}
use Rattle.ftl_tokens.specs.writing.Written.{AreReadable, said_by, written}
use Rattle.ftl_tokens.proofs.writing.WrittenScan.{says_written}
use Rattle.ftl_schedule.specs.declared.syntax.types.WrittenPass.{WrittenPass}
use Rattle.ftl_schedule.specs.declared.syntax.types.WrittenStage.{WrittenStage}
use Rattle.ftl_schedule.specs.syntax.Spelling.{SpellsStages, more_stages, one_stage}
use Rattle.ftl_schedule.specs.text.ScheduleText.{close, pass_written, stage_written}
use Rattle.ftl_schedule.proofs.text.SpelledSchedule.{HasPass, pass_spells, said-append, stage_spells}
use Rattle.ftl_nest_text.specs.declared.syntax.types.WrittenNest.{WrittenNest}
use Rattle.ftl_nest_text.specs.declared.syntax.types.WrittenNestingPass.{WrittenNestingPass}
use Rattle.ftl_nest_text.specs.declared.syntax.types.WrittenNestingStage.{WrittenNestingStage}
use Rattle.ftl_nest_text.specs.declared.syntax.types.WrittenNestingSchedule.{WrittenNestingSchedule}
use Rattle.ftl_nest_text.specs.syntax.NestSpelling.{SpellsInner, SpellsNest, SpellsNestingPass, SpellsNestingPasses}
use Rattle.ftl_nest_text.specs.syntax.NestSpelling.{SpellsNestingSchedule, SpellsNestingStage, SpellsNestingStages}
use Rattle.ftl_nest_text.specs.syntax.NestSpelling.{inner_of, more_nesting_passes, more_nesting_stages, nest_of}
use Rattle.ftl_nest_text.specs.syntax.NestSpelling.{nesting_stage_of, nesting_stages_of, no_inner, no_nesting_stages}
use Rattle.ftl_nest_text.specs.syntax.NestSpelling.{one_nesting_pass, one_nesting_stage, with_nest, without_nest}
use Rattle.ftl_nest_text.specs.syntax.NestTrees.{nest_word, nesting_pass, nesting_schedule, own_pass}
use Rattle.ftl_nest_text.specs.text.NestText.{CanBeNestWritten, CanNestBeWritten, IsNestTextOf, inner_stages_written}
use Rattle.ftl_nest_text.specs.text.NestText.{inner_written, nest_written, nesting_pass_written}
use Rattle.ftl_nest_text.specs.text.NestText.{nesting_passes_written, nesting_schedule_text, nesting_schedule_written}
use Rattle.ftl_nest_text.specs.text.NestText.{nesting_stage_written, nesting_stages_written, pass_with}
use Rattle.ftl_nest_text.proofs.text.NestFronts.{NestCan, NestsCan, nesting_schedule_front}

-- ---- nests

inner_stages_spell : (s : WrittenStage) (more : List WrittenStage) → All HasPass (s ∷ more)
    → SpellsStages (said_by (inner_stages_written s more)) (s ∷ more)
inner_stages_spell s [] some = one_stage (stage_spells (codes " ") s (All-head HasPass s [] some))
inner_stages_spell s (t ∷ more) some =
    subst (λ ts. SpellsStages ts (s ∷ t ∷ more))
    (sym
    (said-append (stage_written (codes " ") s.passes)
    (written (fixed kind.Semicolon) (codes " ") ∷ inner_stages_written t more)))
    (more_stages (stage_spells (codes " ") s (All-head HasPass s (t ∷ more) some))
    (inner_stages_spell t more (All-tail HasPass s (t ∷ more) some)))

inner_spells : (stages : List WrittenStage) → All HasPass stages → SpellsInner (said_by (inner_written stages)) stages
inner_spells [] some = no_inner
inner_spells (s ∷ more) some = inner_of (inner_stages_spell s more some)

nest_spells : (gap : List ℕ) (nest : WrittenNest) → All HasPass nest.stages
    → SpellsNest (said_by (nest_written gap nest)) nest
nest_spells gap nest some =
    subst (λ ts. SpellsNest (name nest_word ∷ name nest.host ∷ fixed kind.LeftBrace ∷ ts) nest)
    (sym (said-append (inner_written nest.stages) (close gap)))
    (nest_of (inner_spells nest.stages some))

-- ---- passes and stages

with_spells : (gap : List ℕ) (p : WrittenPass) (nest : Option WrittenNest) → CanNestBeWritten p.kind nest
    → SpellsNestingPass (said_by (pass_with gap p nest)) (nesting_pass p nest)
with_spells gap p None can = without_nest (pass_spells gap p)
with_spells gap p (Some nest) can =
    subst (λ ts. SpellsNestingPass ts (nesting_pass p (Some nest)))
    (sym (said-append (pass_written (codes " ") p) (nest_written gap nest)))
    (with_nest can.0 (pass_spells (codes " ") p) (nest_spells gap nest can.2.passes))

passes_spell : (gap : List ℕ) (p : WrittenNestingPass) (more : List WrittenNestingPass) → All NestCan (p ∷ more)
    → SpellsNestingPasses (said_by (nesting_passes_written gap p more)) (p ∷ more)
passes_spell gap p [] nests = one_nesting_pass (with_spells gap (own_pass p) p.nest (All-head NestCan p [] nests))
passes_spell gap p (q ∷ more) nests =
    subst (λ ts. SpellsNestingPasses ts (p ∷ q ∷ more))
    (sym
    (said-append (nesting_pass_written (codes " ") p)
    (written (fixed kind.OrOr) (codes " ") ∷ nesting_passes_written gap q more)))
    (more_nesting_passes (with_spells (codes " ") (own_pass p) p.nest (All-head NestCan p (q ∷ more) nests))
    (passes_spell gap q more (All-tail NestCan p (q ∷ more) nests)))

outer_spells : (gap : List ℕ) (s : WrittenNestingStage) → s.passes ≢ [] → NestsCan s
    → SpellsNestingStage (said_by (nesting_stage_written gap s.passes)) s
outer_spells gap s some nests = nesting_stage_of (by s.passes some nests)
  where
    by : (ps : List WrittenNestingPass) → ps ≢ [] → All NestCan ps
        → SpellsNestingPasses (said_by (nesting_stage_written gap ps)) ps
    by [] none nests = absurd (none refl)
    by (p ∷ more) there nests = passes_spell gap p more nests

-- a stage has a pass
abbrev HasOuterPass : WrittenNestingStage → Type 0
HasOuterPass s = s.passes ≢ []

stages_spell : (s : WrittenNestingStage) (more : List WrittenNestingStage) → All HasOuterPass (s ∷ more)
    → All NestsCan (s ∷ more) → SpellsNestingStages (said_by (nesting_stages_written s more)) (s ∷ more)
stages_spell s [] some nests =
    one_nesting_stage
    (outer_spells (codes "\n") s (All-head HasOuterPass s [] some) (All-head NestsCan s [] nests))
stages_spell s (t ∷ more) some nests =
    subst (λ ts. SpellsNestingStages ts (s ∷ t ∷ more))
    (sym
    (said-append (nesting_stage_written (codes " ") s.passes)
    (written (fixed kind.Semicolon) (codes "\n") ∷ nesting_stages_written t more)))
    (more_nesting_stages
    (outer_spells (codes " ") s (All-head HasOuterPass s (t ∷ more) some) (All-head NestsCan s (t ∷ more) nests))
    (stages_spell t more (All-tail HasOuterPass s (t ∷ more) some) (All-tail NestsCan s (t ∷ more) nests)))

schedule_spells : (stages : List WrittenNestingStage) → All HasOuterPass stages → All NestsCan stages
    → SpellsNestingSchedule (said_by (nesting_schedule_written stages)) (nesting_schedule stages)
schedule_spells [] some nests = no_nesting_stages
schedule_spells (s ∷ more) some nests = nesting_stages_of (stages_spell s more some nests)

-- ---- both

pub canonical : (s : WrittenNestingSchedule) → CanBeNestWritten s → IsNestTextOf (nesting_schedule_text s) s
canonical s can =
    let tokens = nesting_schedule_written s.stages in
    let ready : AreReadable 2147483647 tokens =
    subst (AreReadable 2147483647) (append-nil tokens) (nesting_schedule_front s.stages can.names can.nests [] tt) in
    let says = says_written 2147483647 (omega arith) tokens ready in
    record {
      tokens = says.tokens;
      scanned = says.scanned;
      spells = subst (λ ts. SpellsNestingSchedule ts s) (sym says.said) (schedule_spells s.stages can.passes can.nests);
    }
