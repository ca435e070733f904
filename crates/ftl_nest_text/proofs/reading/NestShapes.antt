-- Names go, and as many passes stay in each stage.
use Rattle.std.proofs.Common.{◌≡◌, ℕ, ◌≤◌, List, [], ◌∷◌, ◌++◌, length, map, flat_map, Option, Some, None, Result, Ok, refl, sym, ◌∙◌}
use Rattle.std.proofs.Common.{ap, ap₂, arith, subst}
use Rattle.std.specs.List.{AllByRecursion}
use Rattle.std.specs.Option.{option_map}
use Rattle.std.proofs.lemmas.List.{length-map}
use Rattle.std.proofs.lemmas.List.Folds.{flat_map-map}
use Rattle.ftl_grammar.specs.declared.syntax.rules.Grammar.{Grammar}
use Rattle.ftl_tokens.specs.reading.Reader.{Tokens}
use Rattle.ftl_schedule.specs.declared.syntax.types.AttributeName.{AttributeName}
use Rattle.ftl_schedule.specs.declared.syntax.types.WrittenStage.{WrittenStage}
use Rattle.ftl_schedule.specs.declared.stages.types.Stage.{Stage}
use Rattle.ftl_schedule.specs.declared.names.fault.ScheduleFault.{ScheduleFault}
use Rattle.ftl_schedule.specs.names.Named.{each}
use Rattle.ftl_schedule.specs.stages.Stages.{pass_of}
use Rattle.ftl_schedule.proofs.names.NamedParts.{made, parts, same_Ok}
use Rattle.ftl_schedule.proofs.reading.ReadLimits as flat
use Rattle.ftl_nests.specs.Nests as nests
use Rattle.ftl_nests.specs.Nests.{inner_stages}
use Rattle.ftl_nest_check.specs.declared.stages.types.Nest.{Nest}
use Rattle.ftl_nest_check.specs.declared.stages.types.NestingPass.{NestingPass}
use Rattle.ftl_nest_check.specs.declared.stages.types.NestingStage.{NestingStage}
use Rattle.ftl_nest_check.specs.declared.stages.types.NestingSchedule.{NestingSchedule}
use Rattle.ftl_nest_check.specs.stages.Nested.{nest_of, nesting_pass_of, nests_of}
use Rattle.ftl_nest_text.specs.declared.syntax.types.WrittenNest.{WrittenNest}
use Rattle.ftl_nest_text.specs.declared.syntax.types.WrittenNestingPass.{WrittenNestingPass}
use Rattle.ftl_nest_text.specs.declared.syntax.types.WrittenNestingStage.{WrittenNestingStage}
use Rattle.ftl_nest_text.specs.declared.syntax.types.WrittenNestingSchedule.{WrittenNestingSchedule}
use Rattle.ftl_nest_text.specs.syntax.NestSpelling.{SpellsInner, SpellsNest, SpellsNestingPass, SpellsNestingPasses}
use Rattle.ftl_nest_text.specs.syntax.NestSpelling.{SpellsNestingSchedule, SpellsNestingStage, SpellsNestingStages}
use Rattle.ftl_nest_text.specs.syntax.NestSpelling.{inner_of, more_nesting_passes, more_nesting_stages, nest_of as is_nest}
use Rattle.ftl_nest_text.specs.syntax.NestSpelling.{nesting_stage_of, nesting_stages_of, no_inner, no_nesting_stages}
use Rattle.ftl_nest_text.specs.syntax.NestSpelling.{one_nesting_pass, one_nesting_stage, with_nest, without_nest}
use Rattle.ftl_nest_text.specs.names.RegionTests.{RegionTests}
use Rattle.ftl_nest_text.specs.names.NestNamed.{inner_pass_named, inner_stage_named, named_by, nesting_pass_named, nesting_stage_named}
use Rattle.ftl_nest_text.specs.reading.NestLimits.{inner_sizes, inner_stage_sizes, nest_sizes, stage_sizes}
use Rattle.ftl_nest_text.proofs.names.NamedNests.{IsNested, pass_from}
use Rattle.ftl_nest_text.proofs.names.Sides.{each_as_many}
use Rattle.ftl_nest_text.proofs.reading.NestSizes.{from_parts, sizes_in, stages_in}

-- ---- what is spelled has no stage without a pass

abbrev pub IsSome : ℕ → Type 0
IsSome n = 1 ≤ n

inner_some : (ss : List WrittenStage) → AllByRecursion flat.HasSome ss → AllByRecursion IsSome (inner_stage_sizes ss)
inner_some [] some = tt
inner_some (s ∷ ss) some = (some.0, inner_some ss some.1)

spelled_inner : {ts : Tokens} {ss : List WrittenStage} → SpellsInner ts ss → AllByRecursion IsSome (inner_stage_sizes ss)
spelled_inner no_inner = tt
spelled_inner (inner_of {xs = xs} s) = inner_some xs (flat.stages_some s)

spelled_nest : {ts : Tokens} {n : WrittenNest} → SpellsNest ts n → AllByRecursion IsSome (inner_stage_sizes n.stages)
spelled_nest (is_nest s) = spelled_inner s

spelled_pass : {ts : Tokens} {p : WrittenNestingPass} → SpellsNestingPass ts p → AllByRecursion IsSome (nest_sizes p.nest)
spelled_pass (without_nest s) = tt
spelled_pass (with_nest may s n) = spelled_nest n

spelled_passes : {ts : Tokens} {ps : List WrittenNestingPass} → SpellsNestingPasses ts ps
    → AllByRecursion IsSome (length ps ∷ inner_sizes ps)
spelled_passes (one_nesting_pass {x = x} s) = (omega arith, from_parts IsSome (nest_sizes x.nest) [] (spelled_pass s) tt)
spelled_passes (more_nesting_passes {x = x} {xs = xs} s t) = (
  omega arith,
  from_parts IsSome (nest_sizes x.nest) (inner_sizes xs) (spelled_pass s) (spelled_passes t).1,
)

spelled_stage : {ts : Tokens} {s : WrittenNestingStage} → SpellsNestingStage ts s
    → AllByRecursion IsSome (length s.passes ∷ inner_sizes s.passes)
spelled_stage (nesting_stage_of s) = spelled_passes s

spelled_stages : {ts : Tokens} {ss : List WrittenNestingStage} → SpellsNestingStages ts ss
    → AllByRecursion IsSome (stage_sizes ss)
spelled_stages (one_nesting_stage {x = x} s) =
    from_parts IsSome (length x.passes ∷ inner_sizes x.passes) [] (spelled_stage s) tt
spelled_stages (more_nesting_stages {x = x} {xs = xs} s t) =
    from_parts IsSome (length x.passes ∷ inner_sizes x.passes) (stage_sizes xs) (spelled_stage s) (spelled_stages t)

pub spelled_some : {ts : Tokens} {s : WrittenNestingSchedule} → SpellsNestingSchedule ts s
    → AllByRecursion IsSome (stage_sizes s.stages)
spelled_some no_nesting_stages = tt
spelled_some (nesting_stages_of s) = spelled_stages s

-- ---- names go

-- what is read alike of each entry and of what it stands for
map_alike : {X Y Z : Type 0} (f : X → Result Y ScheduleFault) (h : X → Z) (k : Y → Z)
    → ((x : X) (y : Y) → f x ≡ Ok y → k y ≡ h x) → (xs : List X) (ys : List Y) → each f xs ≡ Ok ys
    → map k ys ≡ map h xs
map_alike f h k same [] ys e = ap (map k) (sym (same_Ok [] ys e))
map_alike f h k same (x ∷ xs) ys e =
    parts f x xs ys e
    (λ z zs is is_later whole.
    ap (map k) (sym whole) ∙ ap₂ (λ n ns. n ∷ ns) (same x z is) (map_alike f h k same xs zs is_later))

flat_alike : {X Y Z : Type 0} (f : X → Result Y ScheduleFault) (h : X → List Z) (k : Y → List Z)
    → ((x : X) (y : Y) → f x ≡ Ok y → k y ≡ h x) → (xs : List X) (ys : List Y) → each f xs ≡ Ok ys
    → flat_map k ys ≡ flat_map h xs
flat_alike f h k same [] ys e = ap (flat_map k) (sym (same_Ok [] ys e))
flat_alike f h k same (x ∷ xs) ys e =
    parts f x xs ys e
    (λ z zs is is_later whole.
    ap (flat_map k) (sym whole) ∙ ap₂ (λ ns ms. ns ++ ms) (same x z is) (flat_alike f h k same xs zs is_later))

module _ (tests : RegionTests) (g : Grammar) where
  inner_stage : (host : ℕ) (x : WrittenStage) (s : Stage) → inner_stage_named tests g host x ≡ Ok s
      → length s.passes ≡ length x.passes
  inner_stage host x s e =
      made (λ passes. record { passes = passes }) (each (inner_pass_named tests g host) x.passes) s e
      (λ passes is same.
      subst (λ (t : Stage). length t.passes ≡ length x.passes) same
      (each_as_many (inner_pass_named tests g host) x.passes passes is))

  inner_stages_alike : (host : ℕ) (xs : List WrittenStage) (ss : List Stage)
      → each (inner_stage_named tests g host) xs ≡ Ok ss
      → stages_in (map (λ (s : Stage). map pass_of s.passes) ss) ≡ inner_stage_sizes xs
  inner_stages_alike host xs ss e =
      counts ss ∙ map_alike (inner_stage_named tests g host) (λ (x : WrittenStage). length x.passes)
      (λ (s : Stage). length s.passes) (inner_stage host) xs ss e
    where
      counts : (ss : List Stage)
          → stages_in (map (λ (s : Stage). map pass_of s.passes) ss) ≡ map (λ (s : Stage). length s.passes) ss
      counts [] = refl
      counts (s ∷ ss) = ap₂ (λ n ns. n ∷ ns) (length-map s.passes pass_of) (counts ss)

  nest_alike : (own : List AttributeName) (n : Option WrittenNest) (m : Option Nest) → IsNested tests g own n m
      → stages_in (inner_stages (option_map nest_of m)) ≡ nest_sizes n
  nest_alike own None None is = refl
  nest_alike own None (Some m) is = absurd is
  nest_alike own (Some n) None is = absurd is
  nest_alike own (Some n) (Some m) is = inner_stages_alike m.host n.stages m.inner.stages is.stages

  stage_alike : (x : WrittenNestingStage) (t : NestingStage) → nesting_stage_named tests g x ≡ Ok t
      → length (map nesting_pass_of t.passes)
      ∷ flat_map (λ (p : nests.NestingPass). stages_in (inner_stages p.nest)) (map nesting_pass_of t.passes)
      ≡ length x.passes ∷ inner_sizes x.passes
  stage_alike x t e =
      made (λ passes. record { passes = passes }) (each (nesting_pass_named tests g) x.passes) t e
      (λ passes is same.
      subst
      (λ (u : NestingStage). length (map nesting_pass_of u.passes)
      ∷ flat_map (λ (p : nests.NestingPass). stages_in (inner_stages p.nest)) (map nesting_pass_of u.passes)
      ≡ length x.passes ∷ inner_sizes x.passes) same
      (ap₂ (λ n ns. n ∷ ns)
      (length-map passes nesting_pass_of ∙ each_as_many (nesting_pass_named tests g) x.passes passes is)
      (flat_map-map (λ (p : nests.NestingPass). stages_in (inner_stages p.nest)) nesting_pass_of passes
      ∙ flat_alike (nesting_pass_named tests g) (λ (p : WrittenNestingPass). nest_sizes p.nest)
      (λ (p : NestingPass). stages_in (inner_stages (option_map nest_of p.nest)))
      (λ y p is_pass. nest_alike y.attrs y.nest p.nest (pass_from tests g y p is_pass).nested) x.passes passes is)))

  pub sizes_alike : (w : WrittenNestingSchedule) (s : NestingSchedule) → named_by tests g w ≡ Ok s
      → sizes_in (nests_of s) ≡ stage_sizes w.stages
  sizes_alike w s e =
      made (λ stages. record { stages = stages }) (each (nesting_stage_named tests g) w.stages) s e
      (λ stages is same.
      subst (λ (u : NestingSchedule). sizes_in (nests_of u) ≡ stage_sizes w.stages) same
      (flat_map-map
      (λ (ps : List nests.NestingPass). length ps
      ∷ flat_map (λ (p : nests.NestingPass). stages_in (inner_stages p.nest)) ps)
      (λ (t : NestingStage). map nesting_pass_of t.passes) stages
      ∙ flat_alike (nesting_stage_named tests g)
      (λ (x : WrittenNestingStage). length x.passes ∷ inner_sizes x.passes)
      (λ (t : NestingStage). length (map nesting_pass_of t.passes)
      ∷ flat_map (λ (p : nests.NestingPass). stages_in (inner_stages p.nest)) (map nesting_pass_of t.passes))
      stage_alike w.stages stages is))
