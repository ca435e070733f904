-- The names that a schedule with nests by number was read from are its names.
use Rattle.std.proofs.Common.{◌≡◌, ℕ, List, [], ◌∷◌, map, Option, Some, None, Result, Ok, sym, ◌∙◌, ap, ap₂, refl}
use Rattle.std.specs.Option.{option_map}
use Rattle.ftl_grammar.specs.declared.syntax.rules.Grammar.{Grammar}
use Rattle.ftl_schedule.specs.declared.syntax.kind.PassKind.{PassKind}
use Rattle.ftl_schedule.specs.declared.syntax.types.AttributeName.{AttributeName}
use Rattle.ftl_schedule.specs.declared.syntax.types.WrittenPass.{WrittenPass}
use Rattle.ftl_schedule.specs.declared.syntax.types.WrittenStage.{WrittenStage}
use Rattle.ftl_schedule.specs.declared.stages.types.Pass.{Pass}
use Rattle.ftl_schedule.specs.declared.stages.types.Stage.{Stage}
use Rattle.ftl_schedule.specs.declared.names.fault.ScheduleFault.{ScheduleFault}
use Rattle.ftl_schedule.specs.names.Named.{attribute_number, each}
use Rattle.ftl_schedule.specs.printing.WrittenOf.{name_of, pass_by_name, stage_by_name}
use Rattle.ftl_schedule.specs.syntax.Trees.{written_pass, written_stage}
use Rattle.ftl_schedule.proofs.names.NamedParts.{made, parts, same_Ok}
use Rattle.ftl_nest_check.specs.declared.stages.types.Nest.{Nest}
use Rattle.ftl_nest_check.specs.declared.stages.types.NestingPass.{NestingPass}
use Rattle.ftl_nest_check.specs.declared.stages.types.NestingStage.{NestingStage}
use Rattle.ftl_nest_check.specs.declared.stages.types.NestingSchedule.{NestingSchedule}
use Rattle.ftl_nest_text.specs.declared.syntax.types.WrittenNest.{WrittenNest}
use Rattle.ftl_nest_text.specs.declared.syntax.types.WrittenNestingPass.{WrittenNestingPass}
use Rattle.ftl_nest_text.specs.declared.syntax.types.WrittenNestingStage.{WrittenNestingStage}
use Rattle.ftl_nest_text.specs.declared.syntax.types.WrittenNestingSchedule.{WrittenNestingSchedule}
use Rattle.ftl_nest_text.specs.syntax.NestTrees.{nesting_schedule, nesting_stage, written_nest}
use Rattle.ftl_nest_text.specs.names.RegionTests.{RegionTests}
use Rattle.ftl_nest_text.specs.names.NestNamed.{inner_number, inner_pass_named, inner_stage_named, named_by}
use Rattle.ftl_nest_text.specs.names.NestNamed.{nesting_pass_named, nesting_stage_named}
use Rattle.ftl_nest_text.specs.printing.NestWritten.{nest_by_name, nest_written_of, nesting_pass_by_name}
use Rattle.ftl_nest_text.specs.printing.NestWritten.{nesting_stage_by_name}
use Rattle.ftl_nest_text.proofs.names.NamedNests.{IsNestOf, IsNested, inner_from, pass_from}
use Rattle.ftl_nest_text.proofs.printing.OneNumber.{class_back, number_back}

-- what each entry stands for is named as it was
each_back : {X Y : Type 0} (f : X → Result Y ScheduleFault) (name : Y → X) → ((x : X) (y : Y) → f x ≡ Ok y → name y ≡ x)
    → (xs : List X) (ys : List Y) → each f xs ≡ Ok ys → map name ys ≡ xs
each_back f name back [] ys e = ap (map name) (sym (same_Ok [] ys e))
each_back f name back (x ∷ xs) ys e =
    parts f x xs ys e
    (λ z zs is is_later same.
    ap (map name) (sym same) ∙ ap₂ (λ first rest. first ∷ rest) (back x z is) (each_back f name back xs zs is_later))

module _ (tests : RegionTests) (g : Grammar) where
  -- ---- the stages of a nest

  module _ (host : ℕ) where
    inner_back : (x : AttributeName) (a : ℕ) → inner_number tests g host x ≡ Ok a → name_of g a ≡ x
    inner_back x a e = number_back g x a (inner_from tests g host x a e).0

    inner_pass_back : (x : WrittenPass) (p : Pass) → inner_pass_named tests g host x ≡ Ok p → pass_by_name g p ≡ x
    inner_pass_back x p e =
        made (λ attrs. record { kind = x.kind; attrs = attrs }) (each (inner_number tests g host) x.attrs) p e
        (λ attrs is same.
        ap (pass_by_name g) (sym same)
        ∙ ap (written_pass x.kind) (each_back (inner_number tests g host) (name_of g) inner_back x.attrs attrs is))

    inner_stage_back : (x : WrittenStage) (s : Stage) → inner_stage_named tests g host x ≡ Ok s → stage_by_name g s ≡ x
    inner_stage_back x s e =
        made (λ passes. record { passes = passes }) (each (inner_pass_named tests g host) x.passes) s e
        (λ passes is same.
        ap (stage_by_name g) (sym same)
        ∙ ap written_stage
        (each_back (inner_pass_named tests g host) (pass_by_name g) inner_pass_back x.passes passes is))

  -- ---- passes

  nest_back : (own : List AttributeName) (n : WrittenNest) (m : Nest) → IsNestOf tests g own n m → nest_by_name g m ≡ n
  nest_back own n m is =
      ap₂ written_nest (class_back g n.host m.host is.host.named)
      (each_back (inner_stage_named tests g m.host) (stage_by_name g) (inner_stage_back m.host) n.stages m.inner.stages
      is.stages)

  nested_back : (own : List AttributeName) (n : Option WrittenNest) (m : Option Nest) → IsNested tests g own n m
      → option_map (nest_by_name g) m ≡ n
  nested_back own None None is = refl
  nested_back own None (Some m) is = absurd is
  nested_back own (Some n) None is = absurd is
  nested_back own (Some n) (Some m) is = ap Some (nest_back own n m is)

  abbrev pass_of : PassKind → List AttributeName → Option WrittenNest → WrittenNestingPass
  pass_of kind attrs nest = record { kind = kind; attrs = attrs; nest = nest }

  pass_back : (x : WrittenNestingPass) (p : NestingPass) → nesting_pass_named tests g x ≡ Ok p
      → nesting_pass_by_name g p ≡ x
  pass_back x p e =
      let from = pass_from tests g x p e in
      ap (λ k. pass_of k (map (name_of g) p.attrs) (option_map (nest_by_name g) p.nest)) (sym from.kind)
      ∙ ap₂ (pass_of x.kind) (each_back (attribute_number g) (name_of g) (number_back g) x.attrs p.attrs from.own)
      (nested_back x.attrs x.nest p.nest from.nested)

  stage_back : (x : WrittenNestingStage) (s : NestingStage) → nesting_stage_named tests g x ≡ Ok s
      → nesting_stage_by_name g s ≡ x
  stage_back x s e =
      made (λ passes. record { passes = passes }) (each (nesting_pass_named tests g) x.passes) s e
      (λ passes is same.
      ap (nesting_stage_by_name g) (sym same)
      ∙ ap nesting_stage (each_back (nesting_pass_named tests g) (nesting_pass_by_name g) pass_back x.passes passes is))

  pub schedule_back : (x : WrittenNestingSchedule) (s : NestingSchedule) → named_by tests g x ≡ Ok s
      → nest_written_of g s ≡ x
  schedule_back x s e =
      made (λ stages. record { stages = stages }) (each (nesting_stage_named tests g) x.stages) s e
      (λ stages is same.
      ap (nest_written_of g) (sym same)
      ∙ ap nesting_schedule
      (each_back (nesting_stage_named tests g) (nesting_stage_by_name g) stage_back x.stages stages is))
