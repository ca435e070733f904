-- Texts of schedules that nest nothing.
use Rattle.std.proofs.Common.{◌≡◌, ℕ, ◌+◌, refl, sym, ◌∙◌, ap, ap₂, subst, List, [], ◌∷◌, ◌++◌, map, length, Option, Some, None}
use Rattle.std.proofs.Common.{Result, Ok, Err, if◌then◌else◌}
use Rattle.std.specs.Prelude.{codes, nat_lt}
use Rattle.std.proofs.lemmas.List.{length-map}
use Rattle.ftl_deps.specs.reads.Meant.{meant}
use Rattle.ftl_grammar.specs.declared.syntax.rules.Grammar.{Grammar}
use Rattle.ftl_meaning.specs.faults.Checked.{CheckedGrammar}
use Rattle.ftl_tokens.specs.declared.scanner.kind.Kind.TheVariants as kind
use Rattle.ftl_tokens.specs.scanner.Tokenized.{fixed}
use Rattle.ftl_tokens.specs.reading.Reader.{Tokens}
use Rattle.ftl_tokens.specs.writing.Written.{text_of, written}
use Rattle.ftl_schedule.specs.declared.names.fault.ScheduleFault.{ScheduleFault}
use Rattle.ftl_schedule.specs.declared.names.fault.ScheduleFault.TheVariants.{TooManyBeside, TooManyPasses}
use Rattle.ftl_schedule.specs.declared.stages.types.Pass.{Pass}
use Rattle.ftl_schedule.specs.declared.stages.types.Schedule.{Schedule}
use Rattle.ftl_schedule.specs.declared.stages.types.Stage.{Stage}
use Rattle.ftl_schedule.specs.declared.syntax.types.WrittenPass.{WrittenPass}
use Rattle.ftl_schedule.specs.declared.syntax.types.WrittenSchedule.{WrittenSchedule}
use Rattle.ftl_schedule.specs.declared.syntax.types.WrittenStage.{WrittenStage}
use Rattle.ftl_schedule.specs.names.Named.{attribute_number, before, each, made_of, pass_named, schedule_named, stage_named}
use Rattle.ftl_schedule.specs.printing.WrittenOf.{pass_by_name, stage_by_name}
use Rattle.ftl_schedule.specs.reading.Limits.{beside_fault, limit_fault, pass_count}
use Rattle.ftl_schedule.specs.reading.Read.{schedule_of}
use Rattle.ftl_schedule.specs.reading.Read as flat
use Rattle.ftl_schedule.specs.stages.Stages.{pass_of}
use Rattle.ftl_schedule.specs.syntax.Spelling.{SpellsPasses, SpellsSchedule, SpellsStage, SpellsStages, more_passes}
use Rattle.ftl_schedule.specs.syntax.Spelling.{more_stages, no_stages, one_pass, one_stage, stage_of, stages_of as is_stages}
use Rattle.ftl_schedule.specs.text.ScheduleText.{pass_written, passes_written, schedule_written}
use Rattle.ftl_schedule.specs.text.ScheduleText.{stage_written, stages_written}
use Rattle.ftl_nests.specs.Flat.{plain, plain_pass, plain_stage}
use Rattle.ftl_nest_check.specs.declared.stages.types.NestingPass.{NestingPass}
use Rattle.ftl_nest_check.specs.declared.stages.types.NestingSchedule.{NestingSchedule}
use Rattle.ftl_nest_check.specs.declared.stages.types.NestingStage.{NestingStage}
use Rattle.ftl_nest_check.specs.stages.Nested.{nesting_pass_of}
use Rattle.ftl_nest_text.specs.declared.syntax.types.WrittenNestingPass.{WrittenNestingPass}
use Rattle.ftl_nest_text.specs.declared.syntax.types.WrittenNestingSchedule.{WrittenNestingSchedule}
use Rattle.ftl_nest_text.specs.declared.syntax.types.WrittenNestingStage.{WrittenNestingStage}
use Rattle.ftl_nest_text.specs.names.NestNamed.{nesting_pass_named, nesting_schedule_named, nesting_stage_named, pass_by}
use Rattle.ftl_nest_text.specs.names.RegionTests.{RegionTests, region_tests}
use Rattle.ftl_nest_text.specs.printing.NestWritten.{nest_written_of, nesting_pass_by_name, nesting_stage_by_name}
use Rattle.ftl_nest_text.specs.reading.NestLimits.{beside_in, inner_sizes, nest_limit_fault, pass_total, sizes_fault, stage_sizes}
use Rattle.ftl_nest_text.specs.reading.NestReading.{nesting_schedule_of}
use Rattle.ftl_nest_text.specs.reading.NestReading as reading
use Rattle.ftl_nest_text.specs.syntax.NestSpelling.{SpellsNestingPasses, SpellsNestingSchedule, SpellsNestingStage}
use Rattle.ftl_nest_text.specs.syntax.NestSpelling.{SpellsNestingStages, more_nesting_passes, more_nesting_stages}
use Rattle.ftl_nest_text.specs.syntax.NestSpelling.{nesting_stage_of, nesting_stages_of, no_nesting_stages}
use Rattle.ftl_nest_text.specs.syntax.NestSpelling.{one_nesting_pass, one_nesting_stage, without_nest}
use Rattle.ftl_nest_text.specs.syntax.NestTrees.{nesting_pass, nesting_schedule, nesting_stage}
use Rattle.ftl_nest_text.specs.text.NestText.{nesting_passes_written, nesting_schedule_text, nesting_schedule_written}
use Rattle.ftl_nest_text.specs.text.NestText.{nesting_stage_written, nesting_stages_written}
use Rattle.ftl_answer.specs.answers.Plain.{IsPlain, IsSame, PlainIsPrinted, PlainIsRead}
use Rattle.ftl_answer.proofs.answers.NestsBack.{one_stands}

-- ---- the schedule of code that nests nothing

abbrev bare_pass : Pass → NestingPass
bare_pass p = record { kind = p.kind; attrs = p.attrs; nest = None }

abbrev bare_stage : Stage → NestingStage
bare_stage s = record { passes = map bare_pass s.passes }

abbrev bare : Schedule → NestingSchedule
bare s = record { stages = map bare_stage s.stages }

passes_bare : (passes : List Pass) → map nesting_pass_of (map bare_pass passes) ≡ plain_stage (map pass_of passes)
passes_bare [] = refl
passes_bare (p ∷ passes) = ap (λ ps. plain_pass (pass_of p) ∷ ps) (passes_bare passes)

stages_bare : (stages : List Stage)
    → map (λ (t : NestingStage). map nesting_pass_of t.passes) (map bare_stage stages)
    ≡ plain (map (λ (t : Stage). map pass_of t.passes) stages)
stages_bare [] = refl
stages_bare (s ∷ stages) = ap₂ (λ ps ss. ps ∷ ss) (passes_bare s.passes) (stages_bare stages)

pub is_plain : (s : Schedule) → IsPlain (bare s) s
is_plain s = stages_bare s.stages

-- ---- its text

module _ (g : Grammar) where
  passes_printed : (gap : List ℕ) (p : Pass) (more : List Pass)
      → nesting_passes_written gap (nesting_pass_by_name g (bare_pass p)) (map (nesting_pass_by_name g) (map bare_pass more))
      ≡ passes_written gap (pass_by_name g p) (map (pass_by_name g) more)
  passes_printed gap p [] = refl
  passes_printed gap p (q ∷ more) =
      ap (λ ws. pass_written (codes " ") (pass_by_name g p) ++ (written (fixed kind.OrOr) (codes " ") ∷ ws))
      (passes_printed gap q more)

  stage_printed : (gap : List ℕ) (passes : List Pass)
      → nesting_stage_written gap (map (nesting_pass_by_name g) (map bare_pass passes))
      ≡ stage_written gap (map (pass_by_name g) passes)
  stage_printed gap [] = refl
  stage_printed gap (p ∷ more) = passes_printed gap p more

  stages_printed : (s : Stage) (more : List Stage)
      → nesting_stages_written (nesting_stage_by_name g (bare_stage s)) (map (nesting_stage_by_name g) (map bare_stage more))
      ≡ stages_written (stage_by_name g s) (map (stage_by_name g) more)
  stages_printed s [] = stage_printed (codes "\n") s.passes
  stages_printed s (t ∷ more) =
      ap₂ (λ xs ys. xs ++ (written (fixed kind.Semicolon) (codes "\n") ∷ ys)) (stage_printed (codes " ") s.passes)
      (stages_printed t more)

  all_printed : (stages : List Stage)
      → nesting_schedule_written (map (nesting_stage_by_name g) (map bare_stage stages))
      ≡ schedule_written (map (stage_by_name g) stages)
  all_printed [] = refl
  all_printed (s ∷ more) = stages_printed s more

pub plain_printed : PlainIsPrinted
plain_printed g s flat is =
    ap (λ (x : NestingSchedule). nesting_schedule_text (nest_written_of g x))
    (one_stands s (bare flat) (is ∙ sym (is_plain flat)))
    ∙ ap text_of (all_printed g flat.stages)

-- ---- what spells it

abbrev plain_pass_written : WrittenPass → WrittenNestingPass
plain_pass_written p = nesting_pass p None

abbrev plain_stage_written : WrittenStage → WrittenNestingStage
plain_stage_written s = nesting_stage (map plain_pass_written s.passes)

abbrev plain_written : WrittenSchedule → WrittenNestingSchedule
plain_written w = nesting_schedule (map plain_stage_written w.stages)

passes_spelled : {ts : Tokens} {ps : List WrittenPass} → SpellsPasses ts ps
    → SpellsNestingPasses ts (map plain_pass_written ps)
passes_spelled (one_pass s) = one_nesting_pass (without_nest s)
passes_spelled (more_passes s t) = more_nesting_passes (without_nest s) (passes_spelled t)

stage_spelled : {ts : Tokens} {s : WrittenStage} → SpellsStage ts s → SpellsNestingStage ts (plain_stage_written s)
stage_spelled (stage_of s) = nesting_stage_of (passes_spelled s)

stages_spelled : {ts : Tokens} {ss : List WrittenStage} → SpellsStages ts ss
    → SpellsNestingStages ts (map plain_stage_written ss)
stages_spelled (one_stage s) = one_nesting_stage (stage_spelled s)
stages_spelled (more_stages s t) = more_nesting_stages (stage_spelled s) (stages_spelled t)

plain_spelled : {ts : Tokens} {w : WrittenSchedule} → SpellsSchedule ts w → SpellsNestingSchedule ts (plain_written w)
plain_spelled no_stages = no_nesting_stages
plain_spelled (is_stages s) = nesting_stages_of (stages_spelled s)

-- ---- its limits

no_inner_sizes : (ps : List WrittenPass) → inner_sizes (map plain_pass_written ps) ≡ []
no_inner_sizes [] = refl
no_inner_sizes (p ∷ ps) = no_inner_sizes ps

abbrev sizes : List WrittenStage → List ℕ
sizes ss = map (λ (s : WrittenStage). length s.passes) ss

sizes_are : (ss : List WrittenStage) → stage_sizes (map plain_stage_written ss) ≡ sizes ss
sizes_are [] = refl
sizes_are (s ∷ ss) =
    ap₂ (λ n ns. n ∷ (ns ++ stage_sizes (map plain_stage_written ss))) (length-map s.passes plain_pass_written)
    (no_inner_sizes s.passes)
    ∙ ap (λ ns. length s.passes ∷ ns) (sizes_are ss)

total_is : (ss : List WrittenStage) → pass_total (sizes ss) ≡ pass_count ss
total_is [] = refl
total_is (s ∷ ss) = ap (λ n. length s.passes + n) (total_is ss)

beside_is : (n : ℕ) (ss : List WrittenStage) → beside_in n (sizes ss) ≡ beside_fault n ss
beside_is n [] = refl
beside_is n (s ∷ ss) =
    ap (λ o. if nat_lt 4 (length s.passes) then Some (TooManyBeside n (length s.passes)) else o) (beside_is (n + 1) ss)

limits_are : (ss : List WrittenStage) → nest_limit_fault (map plain_stage_written ss) ≡ limit_fault ss
limits_are ss =
    ap sizes_fault (sizes_are ss)
    ∙ ap₂ (λ (n : ℕ) (o : Option ScheduleFault). if nat_lt 2048 n then Some (TooManyPasses n) else o) (total_is ss)
    (beside_is 1 ss)

-- ---- its names

before_made : {Y Z : Type 0} (k : Y → Z) (x : Result Y ScheduleFault) (xs : Result (List Y) ScheduleFault)
    → before (made_of k x) (made_of (map k) xs) ≡ made_of (map k) (before x xs)
before_made k (Ok y) (Ok ys) = refl
before_made k (Ok y) (Err fault) = refl
before_made k (Err fault) xs = refl

each_made : {X W Y Z : Type 0} (f : X → Result Y ScheduleFault) (n : W → Result Z ScheduleFault) (h : X → W) (k : Y → Z)
    → ((x : X) → n (h x) ≡ made_of k (f x)) → (xs : List X) → each n (map h xs) ≡ made_of (map k) (each f xs)
each_made f n h k same [] = refl
each_made f n h k same (x ∷ xs) =
    ap₂ (λ y ys. before y ys) (same x) (each_made f n h k same xs) ∙ before_made k (f x) (each f xs)

module _ (tests : RegionTests) (g : Grammar) where
  pass_same : (p : WrittenPass) → nesting_pass_named tests g (plain_pass_written p) ≡ made_of bare_pass (pass_named g p)
  pass_same p = by (each (attribute_number g) p.attrs)
    where
      by : (r : Result (List ℕ) ScheduleFault)
          → pass_by p.kind r (Ok None)
          ≡ made_of bare_pass (made_of (λ (attrs : List ℕ). record { kind = p.kind; attrs = attrs }) r)
      by (Ok attrs) = refl
      by (Err fault) = refl

  stage_same : (s : WrittenStage)
      → nesting_stage_named tests g (plain_stage_written s) ≡ made_of bare_stage (stage_named g s)
  stage_same s =
      ap (made_of (λ (passes : List NestingPass). record { passes = passes }))
      (each_made (pass_named g) (nesting_pass_named tests g) plain_pass_written bare_pass pass_same s.passes)
      ∙ by (each (pass_named g) s.passes)
    where
      by : (r : Result (List Pass) ScheduleFault)
          → made_of (λ (passes : List NestingPass). record { passes = passes }) (made_of (map bare_pass) r)
          ≡ made_of bare_stage (made_of (λ (passes : List Pass). record { passes = passes }) r)
      by (Ok passes) = refl
      by (Err fault) = refl

named_same : (c : CheckedGrammar) (w : WrittenSchedule)
    → nesting_schedule_named c (plain_written w) ≡ made_of bare (schedule_named c.grammar w)
named_same c w =
    let tests = region_tests (meant c) in
    ap (made_of (λ (stages : List NestingStage). record { stages = stages }))
    (each_made (stage_named c.grammar) (nesting_stage_named tests c.grammar) plain_stage_written bare_stage
    (stage_same tests c.grammar) w.stages)
    ∙ by (each (stage_named c.grammar) w.stages)
  where
    by : (r : Result (List Stage) ScheduleFault)
        → made_of (λ (stages : List NestingStage). record { stages = stages }) (made_of (map bare_stage) r)
        ≡ made_of bare (made_of (λ (stages : List Stage). record { stages = stages }) r)
    by (Ok stages) = refl
    by (Err fault) = refl

-- ---- what is read

unless_same : (o : Option ScheduleFault) (r : Result Schedule ScheduleFault)
    → reading.unless o (made_of bare r) ≡ made_of bare (flat.unless o r)
unless_same None r = refl
unless_same (Some fault) r = refl

schedule_same : (c : CheckedGrammar) (w : WrittenSchedule)
    → nesting_schedule_of c (plain_written w) ≡ made_of bare (schedule_of c.grammar w)
schedule_same c w =
    ap₂ reading.unless (limits_are w.stages) (named_same c w)
    ∙ unless_same (limit_fault w.stages) (schedule_named c.grammar w)

answer_same : (found expected : Result Schedule ScheduleFault) → flat.Is found expected
    → reading.Is (made_of bare found) (made_of bare expected)
answer_same (Ok s) expected is = ap (made_of bare) is
answer_same (Err fault) expected is = λ told. ap (made_of bare) (is told)

is_same : (found : Result Schedule ScheduleFault) → IsSame (made_of bare found) found
is_same (Ok s) = is_plain s
is_same (Err fault) = refl

pub plain_read : PlainIsRead
plain_read c scanned found read = (
  made_of bare found,
  record {
    written = plain_written read.written;
    spells = plain_spelled read.spells;
    answer =
        subst (λ (r : Result NestingSchedule ScheduleFault). reading.Is (made_of bare found) r)
        (sym (schedule_same c read.written)) (answer_same found (schedule_of c.grammar read.written) read.answer);
  },
  is_same found,
)
