-- A schedule with nests that is within the limits can be written, within the same limits.
use Rattle.std.proofs.Common.{◌≡◌, ◌≢◌, ℕ, ◌<◌, ◌≤◌, List, [], ◌∷◌, ◌++◌, length, map, Option, Some, None, Contains}
use Rattle.std.proofs.Common.{refl, sym, ◌∙◌, ap, ap₂, subst, arith}
use Rattle.std.specs.List.{All, AllByRecursion}
use Rattle.std.specs.Option.{option_map}
use Rattle.std.proofs.lemmas.List.{length-map}
use Rattle.std.proofs.lemmas.List.Elements.{All-contains, All-map}
use Rattle.std.proofs.lemmas.Option.{none-some}
use Rattle.ftl_deps.specs.reads.Meant.{meant}
use Rattle.ftl_grammar.specs.declared.syntax.rules.Grammar.{Grammar}
use Rattle.ftl_grammar.proofs.printing.SpelledAttrs.{Said}
use Rattle.ftl_meaning.specs.faults.Checked.{CheckedGrammar}
use Rattle.ftl_meaning.specs.faults.Numbering.{class_at}
use Rattle.ftl_model.proofs.lists.Rising.{map_has}
use Rattle.ftl_tokens.specs.scanner.Tokenized.{name}
use Rattle.ftl_schedule.specs.declared.syntax.kind.PassKind.{PassKind}
use Rattle.ftl_schedule.specs.declared.syntax.kind.PassKind.TheVariants.{BottomUp, InOrder, TopDown}
use Rattle.ftl_schedule.specs.declared.syntax.types.WrittenStage.{WrittenStage}
use Rattle.ftl_schedule.specs.declared.stages.types.Stage.{Stage}
use Rattle.ftl_schedule.specs.printing.WrittenOf.{name_of, pass_by_name, stage_by_name}
use Rattle.ftl_schedule.specs.stages.PassLimits.{HasFewPasses}
use Rattle.ftl_schedule.specs.stages.Stages.{kind_of, pass_of, stages_of}
use Rattle.ftl_schedule.specs.text.ScheduleText.{HasNames}
use Rattle.ftl_schedule.proofs.printing.Known.{each_of, entry_of_pass}
use Rattle.ftl_schedule.proofs.printing.SpelledNames.{PassNames, StageNames}
use Rattle.ftl_nests.specs.Nests as nests
use Rattle.ftl_nests.specs.Nests.{inner_stages}
use Rattle.ftl_nest_check.specs.declared.stages.types.Nest.{Nest}
use Rattle.ftl_nest_check.specs.declared.stages.types.NestingPass.{NestingPass}
use Rattle.ftl_nest_check.specs.declared.stages.types.NestingStage.{NestingStage}
use Rattle.ftl_nest_check.specs.declared.stages.types.NestingSchedule.{NestingSchedule}
use Rattle.ftl_nest_check.specs.stages.Nested.{AreNestsKept, HasFewNestingPasses, IsWithinNestLimits, nest_of}
use Rattle.ftl_nest_check.specs.stages.Nested.{nesting_pass_of, nests_of}
use Rattle.ftl_nest_text.specs.declared.syntax.types.WrittenNestingStage.{WrittenNestingStage}
use Rattle.ftl_nest_text.specs.syntax.NestTrees.{MayNest}
use Rattle.ftl_nest_text.specs.text.NestText.{CanBeNestWritten, CanNestBeWritten}
use Rattle.ftl_nest_text.specs.printing.NestWritten.{nest_by_name, nest_written_of, nesting_pass_by_name}
use Rattle.ftl_nest_text.specs.printing.NestWritten.{nesting_stage_by_name}
use Rattle.ftl_nest_text.specs.reading.NestLimits.{inner_sizes, inner_stage_sizes, nest_limit_fault, nest_sizes}
use Rattle.ftl_nest_text.specs.reading.NestLimits.{pass_total, stage_sizes}
use Rattle.ftl_nest_text.proofs.printing.NestNamedAgain.{AreSaid, inner_part, kept_none, kept_sides, own_part}
use Rattle.ftl_nest_text.proofs.printing.NestSpelledNames.{NestSaid, OwnSaid, StageNests, StageOwn}
use Rattle.ftl_nest_text.proofs.reading.NestSizes.{IsSize, few_of, inner_in, sizes_by_limits, sizes_faultless, sizes_in}
use Rattle.ftl_nest_text.proofs.reading.NestSizes.{stages_in}

-- what is made of each entry
each_made : {X Y : Type 0} (Q : Y → Type 0) (f : X → Y) (xs : List X) → ((x : X) → Contains xs x → Q (f x))
    → All Q (map f xs)
each_made Q f xs holds = All-map Q f xs (each_of (λ x. Q (f x)) xs holds)

-- what is made of some entries is no empty list
some_made : {X Y Z : Type 0} (f : X → Y) (h : X → Z) (xs : List X) → 1 ≤ length (map f xs) → map h xs ≢ []
some_made f h [] some = absurd (let z : ⊥ = omega (arith, some) in z)
some_made f h (x ∷ xs) some = λ none. cc

-- ---- as many passes

module _ (g : Grammar) where
  stages_many : (ss : List Stage)
      → stages_in (map (λ (s : Stage). map pass_of s.passes) ss) ≡ inner_stage_sizes (map (stage_by_name g) ss)
  stages_many [] = refl
  stages_many (s ∷ ss) =
      ap₂ (λ (n : ℕ) (ns : List ℕ). n ∷ ns)
      (length-map s.passes pass_of ∙ sym (length-map s.passes (pass_by_name g))) (stages_many ss)

  nest_many : (o : Option Nest)
      → stages_in (inner_stages (option_map nest_of o)) ≡ nest_sizes (option_map (nest_by_name g) o)
  nest_many None = refl
  nest_many (Some m) = stages_many m.inner.stages

  passes_many : (ps : List NestingPass)
      → inner_in (map nesting_pass_of ps) ≡ inner_sizes (map (nesting_pass_by_name g) ps)
  passes_many [] = refl
  passes_many (p ∷ ps) = ap₂ (λ (ns ms : List ℕ). ns ++ ms) (nest_many p.nest) (passes_many ps)

  all_many : (ss : List NestingStage)
      → sizes_in (map (λ (t : NestingStage). map nesting_pass_of t.passes) ss)
      ≡ stage_sizes (map (nesting_stage_by_name g) ss)
  all_many [] = refl
  all_many (t ∷ ss) =
      ap₂ (λ (ns ms : List ℕ). ns ++ ms)
      (ap₂ (λ (n : ℕ) (ns : List ℕ). n ∷ ns)
      (length-map t.passes nesting_pass_of ∙ sym (length-map t.passes (nesting_pass_by_name g))) (passes_many t.passes))
      (all_many ss)

  -- no fault of the limits
  pub within_limits : (s : NestingSchedule) → IsWithinNestLimits (nests_of s)
      → nest_limit_fault (nest_written_of g s).stages ≡ None
  within_limits s limits =
      let sizes = sizes_by_limits (nests_of s) limits in
      let same = all_many s.stages in
      sizes_faultless (stage_sizes (nest_written_of g s).stages)
      (subst (λ (ns : List ℕ). pass_total ns ≤ 2048) same sizes.0)
      (few_of (stage_sizes (nest_written_of g s).stages)
      (subst (λ (ns : List ℕ). AllByRecursion IsSize ns) same sizes.1))

-- ---- what can be written

module _ (c : CheckedGrammar) (s : NestingSchedule) (limits : IsWithinNestLimits (nests_of s))
    (kept : AreNestsKept (meant c) (nests_of s)) (said : AreSaid c.grammar s)
    (class_said : (k : ℕ) → k < length c.grammar.classes → Said (name (class_at c.grammar k).name)) where
  abbrev g : Grammar
  g = c.grammar

  few : (t : NestingStage) → Contains s.stages t → HasFewNestingPasses (map nesting_pass_of t.passes)
  few t stage =
      All-contains HasFewNestingPasses (nests_of s) (map nesting_pass_of t.passes) limits.each
      (map_has (λ (u : NestingStage). map nesting_pass_of u.passes) s.stages t stage)

  module _ (t : NestingStage) (stage : Contains s.stages t) (p : NestingPass) (pass : Contains t.passes p) where
    abbrev HasFewInner : nests.NestingPass → Type 0
    HasFewInner q = All HasFewPasses (inner_stages q.nest)

    inner_few : HasFewInner (nesting_pass_of p)
    inner_few =
        All-contains HasFewInner (map nesting_pass_of t.passes) (nesting_pass_of p) (few t stage).inner
        (map_has nesting_pass_of t.passes p pass)

    module _ (m : Nest) (is : p.nest ≡ Some m) where
      may_nest : (k : PassKind) → p.kind ≡ k → MayNest k
      may_nest TopDown e = tt
      may_nest BottomUp e = tt
      may_nest InOrder e =
          let none = kept_none c s kept t stage p pass (ap kind_of e) in
          none-some (nest_of m) (sym none ∙ ap (λ (o : Option Nest). option_map nest_of o) is)

      stage_few : (u : Stage) → Contains m.inner.stages u → HasFewPasses (map pass_of u.passes)
      stage_few u inside =
          All-contains HasFewPasses (stages_of m.inner) (map pass_of u.passes)
          (subst (λ (o : Option Nest). All HasFewPasses (inner_stages (option_map nest_of o))) is inner_few)
          (map_has (λ (v : Stage). map pass_of v.passes) m.inner.stages u inside)

      nest_can : CanNestBeWritten p.kind (Some (nest_by_name g m))
      nest_can = (
        may_nest p.kind refl,
        class_said m.host (kept_sides c s kept t stage p pass m is).closed.known,
        record {
          passes = each_made (λ (x : WrittenStage). x.passes ≢ []) (stage_by_name g) m.inner.stages
              (λ u inside. some_made pass_of (pass_by_name g) u.passes (stage_few u inside).some);
          names = each_made StageNames (stage_by_name g) m.inner.stages (λ u inside.
              each_made PassNames (pass_by_name g) u.passes (λ q there.
              each_made HasNames (name_of g) q.attrs (λ a at.
              said t stage p pass a (inner_part p m is a (entry_of_pass m.inner u inside q there a at)))));
        },
      )

    pass_can : (o : Option Nest) → p.nest ≡ o → CanNestBeWritten p.kind (option_map (nest_by_name g) o)
    pass_can None is = tt
    pass_can (Some m) is = nest_can m is

  -- each stage and each inner stage has a pass, where all names can be said
  pub writable : CanBeNestWritten (nest_written_of g s)
  writable = record {
    passes = each_made (λ (x : WrittenNestingStage). x.passes ≢ []) (nesting_stage_by_name g) s.stages
        (λ t stage. some_made nesting_pass_of (nesting_pass_by_name g) t.passes (few t stage).some);
    names = each_made StageOwn (nesting_stage_by_name g) s.stages (λ t stage.
        each_made OwnSaid (nesting_pass_by_name g) t.passes (λ p pass.
        each_made HasNames (name_of g) p.attrs (λ a there. said t stage p pass a (own_part p a there))));
    nests = each_made StageNests (nesting_stage_by_name g) s.stages (λ t stage.
        each_made NestSaid (nesting_pass_by_name g) t.passes (λ p pass. pass_can t stage p pass p.nest refl));
  }
