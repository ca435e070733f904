-- Any tests that tell of a grammar's regions give the same schedule, or the same first fault.
use Rattle.std.proofs.Common.{◌≡◌, ℕ, ◌<◌, not, refl, ◌∙◌, ap, ap₂, List, [], ◌∷◌, Option, Some, None, Result, Ok, Err}
use Rattle.ftl_deps.specs.reads.Meant.{meant}
use Rattle.ftl_grammar.specs.declared.syntax.rules.Grammar.{Grammar}
use Rattle.ftl_meaning.specs.faults.Checked.{CheckedGrammar, class_named}
use Rattle.ftl_order.specs.orders.Lawful.{IsLawful}
use Rattle.ftl_schedule.specs.declared.syntax.types.AttributeName.{AttributeName}
use Rattle.ftl_schedule.specs.declared.syntax.types.WrittenPass.{WrittenPass}
use Rattle.ftl_schedule.specs.declared.syntax.types.WrittenStage.{WrittenStage}
use Rattle.ftl_schedule.specs.declared.names.fault.ScheduleFault.{ScheduleFault}
use Rattle.ftl_schedule.specs.names.Named.{attribute_number, before, each, made_of}
use Rattle.ftl_nest_text.specs.declared.syntax.types.WrittenNest.{WrittenNest}
use Rattle.ftl_nest_text.specs.declared.syntax.types.WrittenNestingPass.{WrittenNestingPass}
use Rattle.ftl_nest_text.specs.declared.syntax.types.WrittenNestingStage.{WrittenNestingStage}
use Rattle.ftl_nest_text.specs.declared.syntax.types.WrittenNestingSchedule.{WrittenNestingSchedule}
use Rattle.ftl_nest_text.specs.names.RegionTests.{RegionTests, Tell, region_tests}
use Rattle.ftl_nest_text.specs.names.NestNamed.{behind, closed_host, host_named, inner_named, inner_number, inner_pass_named, inner_stage_named, named_by, nest_by, nest_named, nesting_pass_named, nesting_schedule_named, nesting_stage_named, on_side, outer_number, pass_by, with_number}
use Rattle.ftl_nest_text.proofs.names.CheckedTests.{class_known, number_known}
use Rattle.ftl_nest_text.proofs.names.HostLaws.{host_from}
use Rattle.ftl_nest_text.proofs.names.Sides.{same_told}
use Rattle.ftl_nest_text.proofs.names.TestLaws.{tests_tell}

-- entries that stand for the same one by one
each_alike : {X Y : Type 0} (f h : X → Result Y ScheduleFault) → ((x : X) → f x ≡ h x) → (xs : List X)
    → each f xs ≡ each h xs
each_alike f h same [] = refl
each_alike f h same (x ∷ xs) = ap₂ before (same x) (each_alike f h same xs)

-- what is found by a number, where the same is found by each that there may be
with_alike : {Y : Type 0} (f h : ℕ → Result Y ScheduleFault) (r : Result ℕ ScheduleFault)
    → ((a : ℕ) → r ≡ Ok a → f a ≡ h a) → with_number f r ≡ with_number h r
with_alike f h (Ok a) same = same a refl
with_alike f h (Err fault) same = refl

module _ (c : CheckedGrammar) (t u : RegionTests) (p : Tell (meant c) t) (q : Tell (meant c) u) where
  abbrev g : Grammar
  g = c.grammar

  has_alike : (host a : ℕ) → host < (meant c).class_count → a < (meant c).attribute_count → t.has host a ≡ u.has host a
  has_alike host a known within =
      same_told (t.has host a) (u.has host a) (p.region host a known within) (q.region host a known within)

  module _ (host : ℕ) (known : host < (meant c).class_count) where
    inner_alike : (x : AttributeName) → inner_number t g host x ≡ inner_number u g host x
    inner_alike x =
        with_alike (λ a. on_side (t.has host a) x a) (λ a. on_side (u.has host a) x a) (attribute_number g x)
        (λ a is. ap (λ b. on_side b x a) (has_alike host a known (number_known c x a is)))

    outer_alike : (x : AttributeName) → outer_number t g host x ≡ outer_number u g host x
    outer_alike x =
        with_alike (λ a. on_side (not (t.has host a)) x a) (λ a. on_side (not (u.has host a)) x a) (attribute_number g x)
        (λ a is. ap (λ b. on_side (not b) x a) (has_alike host a known (number_known c x a is)))

    pass_alike : (x : WrittenPass) → inner_pass_named t g host x ≡ inner_pass_named u g host x
    pass_alike x =
        ap (made_of (λ attrs. record { kind = x.kind; attrs = attrs }))
        (each_alike (inner_number t g host) (inner_number u g host) inner_alike x.attrs)

    stage_alike : (x : WrittenStage) → inner_stage_named t g host x ≡ inner_stage_named u g host x
    stage_alike x =
        ap (made_of (λ passes. record { passes = passes }))
        (each_alike (inner_pass_named t g host) (inner_pass_named u g host) pass_alike x.passes)

    stages_alike : (xs : List WrittenStage) → inner_named t g host xs ≡ inner_named u g host xs
    stages_alike xs =
        ap (made_of (λ stages. record { host = host; inner = record { stages = stages } }))
        (each_alike (inner_stage_named t g host) (inner_stage_named u g host) stage_alike xs)

  host_alike : (nest : WrittenNest) → host_named t g nest ≡ host_named u g nest
  host_alike nest = by_class (class_named g nest.host) refl
    where
      by_class : (o : Option ℕ) → class_named g nest.host ≡ o → closed_host t nest o ≡ closed_host u nest o
      by_class None is = refl
      by_class (Some host) is =
          let known = class_known c nest.host host is in
          ap (λ b. closed_host (record { is_closed = λ k. b; has = t.has }) nest (Some host))
          (same_told (t.is_closed host) (u.is_closed host) (p.closed host known) (q.closed host known))

  nest_alike : (own : List AttributeName) (nest : WrittenNest) → nest_by t g own nest ≡ nest_by u g own nest
  nest_alike own nest =
      with_alike (λ host. behind (each (outer_number t g host) own) (inner_named t g host nest.stages))
      (λ host. behind (each (outer_number u g host) own) (inner_named u g host nest.stages)) (host_named t g nest)
      (λ host is.
      let known = class_known c nest.host host (host_from t g nest host is).named in
      ap₂ behind (each_alike (outer_number t g host) (outer_number u g host) (outer_alike host known) own)
      (stages_alike host known nest.stages))
      ∙ ap (with_number (λ host. behind (each (outer_number u g host) own) (inner_named u g host nest.stages)))
      (host_alike nest)

  nested_alike : (own : List AttributeName) (o : Option WrittenNest) → nest_named t g own o ≡ nest_named u g own o
  nested_alike own None = refl
  nested_alike own (Some nest) = ap (made_of Some) (nest_alike own nest)

  nesting_pass_alike : (x : WrittenNestingPass) → nesting_pass_named t g x ≡ nesting_pass_named u g x
  nesting_pass_alike x =
      ap (pass_by x.kind (each (attribute_number g) x.attrs)) (nested_alike x.attrs x.nest)

  nesting_stage_alike : (x : WrittenNestingStage) → nesting_stage_named t g x ≡ nesting_stage_named u g x
  nesting_stage_alike x =
      ap (made_of (λ passes. record { passes = passes }))
      (each_alike (nesting_pass_named t g) (nesting_pass_named u g) nesting_pass_alike x.passes)

  schedule_alike : (s : WrittenNestingSchedule) → named_by t g s ≡ named_by u g s
  schedule_alike s =
      ap (made_of (λ stages. record { stages = stages }))
      (each_alike (nesting_stage_named t g) (nesting_stage_named u g) nesting_stage_alike s.stages)

pub one_naming : (c : CheckedGrammar) (tests : RegionTests) (s : WrittenNestingSchedule) → IsLawful (meant c)
    → Tell (meant c) tests → nesting_schedule_named c s ≡ named_by tests c.grammar s
one_naming c tests s law tell = schedule_alike c (region_tests (meant c)) tests (tests_tell (meant c) law) tell s
