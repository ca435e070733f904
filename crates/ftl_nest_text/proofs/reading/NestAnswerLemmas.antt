-- Each text has one answer by a grammar, and no first fault is want of memory.
use Rattle.std.proofs.Common.{◌≡◌, ◌≢◌, inl, inr, refl, sym, ap, ◌∙◌, ℕ, ◌+◌, ◌-◌, nat_lt, Bool, true, false, not, List, [], ◌∷◌, length}
use Rattle.std.proofs.Common.{Option, Some, None, Result, Ok, Err}
use Rattle.ftl_deps.specs.reads.Meant.{meant}
use Rattle.ftl_grammar.specs.declared.syntax.rules.Grammar.{Grammar}
use Rattle.ftl_meaning.specs.faults.Checked.{CheckedGrammar, attribute_named, class_named}
use Rattle.ftl_tokens.specs.scanner.Tokenized.{Tokenized, symbols_of}
use Rattle.ftl_tokens.specs.reading.Place.{place_of}
use Rattle.ftl_tokens.specs.reading.Reader.{ReadResult}
use Rattle.ftl_tokens.proofs.reading.PlacesOnce.{one_place}
use Rattle.ftl_schedule.specs.declared.syntax.types.AttributeName.{AttributeName}
use Rattle.ftl_schedule.specs.declared.syntax.types.WrittenPass.{WrittenPass}
use Rattle.ftl_schedule.specs.declared.syntax.types.WrittenStage.{WrittenStage}
use Rattle.ftl_schedule.specs.declared.names.fault.ScheduleFault.{ScheduleFault}
use Rattle.ftl_schedule.specs.declared.names.fault.ScheduleFault.TheVariants.{OutOfMemory}
use Rattle.ftl_schedule.specs.declared.names.fault.ScheduleFault.TheVariants.{Syntax, TooManyBeside, TooManyPasses}
use Rattle.ftl_schedule.specs.names.Named.{attribute_number, each}
use Rattle.ftl_schedule.proofs.check.NeverMemory.{if_never}
use Rattle.ftl_schedule.proofs.reading.AnswerLemmas.{each_never, made_never, number_never}
use Rattle.ftl_nest_check.specs.declared.stages.types.NestingSchedule.{NestingSchedule}
use Rattle.ftl_nest_text.specs.declared.syntax.types.WrittenNest.{WrittenNest}
use Rattle.ftl_nest_text.specs.declared.syntax.types.WrittenNestingPass.{WrittenNestingPass}
use Rattle.ftl_nest_text.specs.declared.syntax.types.WrittenNestingStage.{WrittenNestingStage}
use Rattle.ftl_nest_text.specs.declared.syntax.types.WrittenNestingSchedule.{WrittenNestingSchedule}
use Rattle.ftl_nest_text.specs.syntax.NestReading.{nesting_schedule}
use Rattle.ftl_nest_text.specs.names.RegionTests.{RegionTests, region_tests}
use Rattle.ftl_nest_text.specs.names.NestNamed.{behind, closed_host, host_named, inner_named, inner_number, inner_pass_named, inner_stage_named, named_by, nest_by, nest_named, nesting_pass_named, nesting_schedule_named, nesting_stage_named, on_side, outer_number, pass_by, with_number}
use Rattle.ftl_nest_text.specs.reading.NestLimits.{beside_in, nest_limit_fault, pass_total, sizes_fault}
use Rattle.ftl_nest_text.specs.reading.NestLimits.{stage_sizes}
use Rattle.ftl_nest_text.specs.reading.NestReading.{Is, NestAnswers, nesting_schedule_of, unless}
use Rattle.ftl_nest_text.proofs.syntax.NestSchedules.{is_no_schedule, is_spelled}
use Rattle.ftl_nest_text.proofs.syntax.NestSchedules as syntax

-- ---- the definitions never answer want of memory

beside_never : (n : ℕ) (sizes : List ℕ) → beside_in n sizes ≢ Some OutOfMemory
beside_never n [] = λ e. cc
beside_never n (size ∷ more) =
    if_never OutOfMemory (nat_lt 4 size) (Some (TooManyBeside n size)) (beside_in (n + 1) more) (λ e. cc)
    (beside_never (n + 1) more)

limit_never : (sizes : List ℕ) → sizes_fault sizes ≢ Some OutOfMemory
limit_never sizes =
    if_never OutOfMemory (nat_lt 2048 (pass_total sizes)) (Some (TooManyPasses (pass_total sizes))) (beside_in 1 sizes) (λ e. cc)
    (beside_never 1 sizes)

with_never : {Y : Type 0} (f : ℕ → Result Y ScheduleFault) (r : Result ℕ ScheduleFault) → r ≢ Err OutOfMemory
    → ((a : ℕ) → f a ≢ Err OutOfMemory) → with_number f r ≢ Err OutOfMemory
with_never f (Ok a) told each_told = each_told a
with_never f (Err fault) told each_told = λ e. told cc

side_never : (right : Bool) (x : AttributeName) (a : ℕ) → on_side right x a ≢ Err OutOfMemory
side_never true x a = λ e. cc
side_never false x a = λ e. cc

behind_never : {X Y : Type 0} (r : Result X ScheduleFault) (later : Result Y ScheduleFault) → r ≢ Err OutOfMemory
    → later ≢ Err OutOfMemory → behind r later ≢ Err OutOfMemory
behind_never (Ok x) later told rest = rest
behind_never (Err fault) later told rest = λ e. told cc

module _ (t : RegionTests) (g : Grammar) where
  known_never : (x : AttributeName) → attribute_number g x ≢ Err OutOfMemory
  known_never x = number_never (attribute_named g x.owner x.attr) x

  inner_never : (host : ℕ) (x : AttributeName) → inner_number t g host x ≢ Err OutOfMemory
  inner_never host x =
      with_never (λ a. on_side (t.has host a) x a) (attribute_number g x) (known_never x)
      (λ a. side_never (t.has host a) x a)

  outer_never : (host : ℕ) (x : AttributeName) → outer_number t g host x ≢ Err OutOfMemory
  outer_never host x =
      with_never (λ a. on_side (not (t.has host a)) x a) (attribute_number g x) (known_never x)
      (λ a. side_never (not (t.has host a)) x a)

  inner_pass_never : (host : ℕ) (p : WrittenPass) → inner_pass_named t g host p ≢ Err OutOfMemory
  inner_pass_never host p = made_never _ _ (each_never (inner_number t g host) (inner_never host) p.attrs)

  inner_stage_never : (host : ℕ) (s : WrittenStage) → inner_stage_named t g host s ≢ Err OutOfMemory
  inner_stage_never host s = made_never _ _ (each_never (inner_pass_named t g host) (inner_pass_never host) s.passes)

  stages_never : (host : ℕ) (ss : List WrittenStage) → inner_named t g host ss ≢ Err OutOfMemory
  stages_never host ss = made_never _ _ (each_never (inner_stage_named t g host) (inner_stage_never host) ss)

  closed_never : (nest : WrittenNest) (o : Option ℕ) → closed_host t nest o ≢ Err OutOfMemory
  closed_never nest None = λ e. cc
  closed_never nest (Some host) = by_test (t.is_closed host)
    where
      by_test : (b : Bool) → closed_host (record { is_closed = λ k. b; has = t.has }) nest (Some host) ≢ Err OutOfMemory
      by_test true = λ e. cc
      by_test false = λ e. cc

  nest_never : (own : List AttributeName) (nest : WrittenNest) → nest_by t g own nest ≢ Err OutOfMemory
  nest_never own nest =
      with_never (λ host. behind (each (outer_number t g host) own) (inner_named t g host nest.stages))
      (host_named t g nest) (closed_never nest (class_named g nest.host))
      (λ host. behind_never (each (outer_number t g host) own) (inner_named t g host nest.stages)
      (each_never (outer_number t g host) (outer_never host) own) (stages_never host nest.stages))

  nested_never : (own : List AttributeName) (o : Option WrittenNest) → nest_named t g own o ≢ Err OutOfMemory
  nested_never own None = λ e. cc
  nested_never own (Some nest) = made_never _ _ (nest_never own nest)

  pass_never : (p : WrittenNestingPass) → nesting_pass_named t g p ≢ Err OutOfMemory
  pass_never p =
      by_own (each (attribute_number g) p.attrs) (each_never (attribute_number g) known_never p.attrs)
    where
      by_own : (r : Result (List ℕ) ScheduleFault) → r ≢ Err OutOfMemory
          → pass_by p.kind r (nest_named t g p.attrs p.nest) ≢ Err OutOfMemory
      by_own (Ok attrs) told = made_never _ _ (nested_never p.attrs p.nest)
      by_own (Err fault) told = λ e. told cc

  stage_never : (s : WrittenNestingStage) → nesting_stage_named t g s ≢ Err OutOfMemory
  stage_never s = made_never _ _ (each_never (nesting_pass_named t g) pass_never s.passes)

  named_never : (w : WrittenNestingSchedule) → named_by t g w ≢ Err OutOfMemory
  named_never w = made_never _ _ (each_never (nesting_stage_named t g) stage_never w.stages)

unless_never : (fault : Option ScheduleFault) (later : Result NestingSchedule ScheduleFault) → fault ≢ Some OutOfMemory
    → later ≢ Err OutOfMemory → unless fault later ≢ Err OutOfMemory
unless_never None later p q = q
unless_never (Some fault) later p q = λ e. p cc

pub never_memory : (c : CheckedGrammar) (w : WrittenNestingSchedule) → nesting_schedule_of c w ≢ Err OutOfMemory
never_memory c w =
    unless_never (nest_limit_fault w.stages) (nesting_schedule_named c w) (limit_never (stage_sizes w.stages))
    (named_never (region_tests (meant c)) c.grammar w)

-- ---- some answer

is_itself : (r : Result NestingSchedule ScheduleFault) → Is r r
is_itself (Ok s) = refl
is_itself (Err fault) = λ told. refl

-- a text has an answer
pub some_schedule : (c : CheckedGrammar) (scanned : Tokenized)
    → (answer : Result NestingSchedule ScheduleFault) × (answer ≢ Err OutOfMemory) × NestAnswers c scanned answer
some_schedule c scanned = by (nesting_schedule (symbols_of scanned)) refl
  where
    by : (given : ReadResult WrittenNestingSchedule) → nesting_schedule (symbols_of scanned) ≡ given
        → (answer : Result NestingSchedule ScheduleFault) × (answer ≢ Err OutOfMemory) × NestAnswers c scanned answer
    by (Ok (w, left)) e = (
      nesting_schedule_of c w,
      never_memory c w,
      inr (inl (record {
        written = w;
        spells = is_spelled (symbols_of scanned) left w e;
        answer = is_itself (nesting_schedule_of c w);
      })),
    )
    by (Err rest) e =
        let at = place_of scanned.tokens (length scanned.tokens - length rest) in (
          Err (Syntax at),
          (λ memory. cc),
          inl (record {
            at = at;
            none = is_no_schedule scanned rest (length rest) at e refl refl;
            answer = λ told. refl;
          }),
        )

-- ---- no other

expected_is : (r expected : Result NestingSchedule ScheduleFault) → Is r expected → r ≢ Err OutOfMemory → expected ≡ r
expected_is (Ok s) expected is told = is
expected_is (Err fault) expected is told = is (λ same. told (ap Err same))

-- and no other
pub one_schedule : (c : CheckedGrammar) (scanned : Tokenized) (a b : Result NestingSchedule ScheduleFault)
    → a ≢ Err OutOfMemory → b ≢ Err OutOfMemory → NestAnswers c scanned a → NestAnswers c scanned b → a ≡ b
one_schedule c scanned a b ta tb (inl p) (inl q) =
    sym (expected_is a (Err (Syntax p.at)) p.answer ta)
    ∙ (ap (λ k. Err (Syntax k)) (one_place p.none.place q.none.place)
    ∙ expected_is b (Err (Syntax q.at)) q.answer tb)
one_schedule c scanned a b ta tb (inl p) (inr (inl q)) = absurd (p.none.none q.written q.spells)
one_schedule c scanned a b ta tb (inl p) (inr (inr q)) = absurd (tb q)
one_schedule c scanned a b ta tb (inr (inl p)) (inl q) = absurd (q.none.none p.written p.spells)
one_schedule c scanned a b ta tb (inr (inl p)) (inr (inl q)) =
    sym (expected_is a (nesting_schedule_of c p.written) p.answer ta)
    ∙ (ap (nesting_schedule_of c) (syntax.one_schedule (symbols_of scanned) p.written q.written p.spells q.spells)
    ∙ expected_is b (nesting_schedule_of c q.written) q.answer tb)
one_schedule c scanned a b ta tb (inr (inl p)) (inr (inr q)) = absurd (tb q)
one_schedule c scanned a b ta tb (inr (inr p)) other = absurd (ta p)
