-- The names of a schedule with nests stand for it again, in a grammar without a fault.
use Rattle.std.proofs.Common.{◌≡◌, ℕ, zero, suc, ◌<◌, refl, sym, ◌∙◌, ap, ap₂, subst, ⊎_elim, List, [], ◌∷◌, ◌++◌}
use Rattle.std.proofs.Common.{get_or, map, flat_map, Contains, Option, Some, None, Ok}
use Rattle.std.specs.Option.{option_map}
use Rattle.std.proofs.lemmas.List.Elements.{Contains-append_left, Contains-append_right}
use Rattle.ftl_base.specs.Widths.{greatest_of_width}
use Rattle.ftl_deps.specs.reads.Meant.{meant}
use Rattle.ftl_grammar.specs.declared.syntax.rules.Grammar.{Grammar}
use Rattle.ftl_meaning.specs.faults.Checked.{CheckedGrammar}
use Rattle.ftl_meaning.specs.lawful.Faultless.{IsFaultless}
use Rattle.ftl_model.proofs.lists.Elements.{flat_map_has, in_cases, nothing_in}
use Rattle.ftl_model.proofs.lists.Rising.{map_has}
use Rattle.ftl_order.specs.orders.Schedule as order
use Rattle.ftl_order.specs.orders.Schedule.{entries}
use Rattle.ftl_order.specs.faults.FaultLaws.{AreComputed}
use Rattle.ftl_schedule.specs.declared.stages.types.Pass.{Pass}
use Rattle.ftl_schedule.specs.declared.stages.types.Stage.{Stage}
use Rattle.ftl_schedule.specs.names.Named.{attribute_number, each, made_of}
use Rattle.ftl_schedule.specs.printing.WrittenOf.{name_of, pass_by_name, stage_by_name}
use Rattle.ftl_schedule.specs.stages.Stages.{kind_of, stages_of}
use Rattle.ftl_schedule.specs.text.ScheduleText.{HasNames}
use Rattle.ftl_schedule.proofs.printing.Known.{entry_of_pass}
use Rattle.ftl_schedule.proofs.printing.NamedAgain.{each_same}
use Rattle.ftl_nests.specs.Nests as nests
use Rattle.ftl_nests.specs.Nests.{KeepsSides, inner_stages, nesting_pass, no_pass, outer_schedule, whole_pass}
use Rattle.ftl_nests.specs.Nests.{whole_stage}
use Rattle.ftl_nest_check.specs.declared.stages.types.Nest.{Nest}
use Rattle.ftl_nest_check.specs.declared.stages.types.NestingPass.{NestingPass}
use Rattle.ftl_nest_check.specs.declared.stages.types.NestingStage.{NestingStage}
use Rattle.ftl_nest_check.specs.declared.stages.types.NestingSchedule.{NestingSchedule}
use Rattle.ftl_nest_check.specs.stages.Nested.{AreNestsKept, nest_of, nesting_pass_of, nests_of}
use Rattle.ftl_nest_text.specs.names.RegionTests.{RegionTests, Tell, region_tests}
use Rattle.ftl_nest_text.specs.names.NestNamed.{behind, closed_host, host_named, inner_named, inner_number}
use Rattle.ftl_nest_text.specs.names.NestNamed.{inner_pass_named, inner_stage_named, nest_by, nest_named}
use Rattle.ftl_nest_text.specs.names.NestNamed.{nesting_pass_named, nesting_schedule_named, nesting_stage_named}
use Rattle.ftl_nest_text.specs.names.NestNamed.{on_side, outer_number, pass_by, with_number}
use Rattle.ftl_nest_text.specs.printing.NestWritten.{nest_by_name, nest_written_of, nesting_pass_by_name}
use Rattle.ftl_nest_text.specs.printing.NestWritten.{nesting_stage_by_name}
use Rattle.ftl_nest_text.specs.printing.NestReadBack.{IsNestReadBack}
use Rattle.ftl_nest_text.specs.reading.NestLimits.{nest_limit_fault}
use Rattle.ftl_nest_text.specs.reading.NestReading.{unless}
use Rattle.ftl_nest_text.specs.text.NestText.{IsNestTextOf, nesting_schedule_text}
use Rattle.ftl_nest_text.proofs.names.CheckedTests.{own_outside, told}
use Rattle.ftl_nest_text.proofs.names.Sides.{on_told_side}
use Rattle.ftl_nest_text.proofs.printing.OneNumber.{class_again, number_again}
use Rattle.ftl_nest_text.proofs.reading.NestKept.{whole}

-- an entry of a list stands at some number
pub at_some : {X Y : Type 0} (f : X → Y) (xs : List X) (x : X) → Contains xs x → (e : Y)
    → (i : ℕ) × (get_or (map f xs) i e ≡ f x)
at_some f [] x there e = absurd (nothing_in x there)
at_some f (y ∷ ys) x there e =
    ⊎_elim (λ same. (zero, ap f same))
    (λ later. let r = at_some f ys x later e in (suc r.0, r.1)) (in_cases y x ys there)

-- an attribute of a pass or of its nest is an entry of the schedule
pub whole_entry : (s : NestingSchedule) (t : NestingStage) → Contains s.stages t → (p : NestingPass)
    → Contains t.passes p → (a : ℕ) → Contains (whole p) a → Contains (entries (outer_schedule (nests_of s))) a
whole_entry s t stage p pass a there =
    let passes_of : NestingStage → List nests.NestingPass = λ (u : NestingStage). map nesting_pass_of u.passes in
    flat_map_has (λ (ps : List order.Pass). flat_map (λ (q : order.Pass). q.attributes) ps)
    (outer_schedule (nests_of s)) (whole_stage (passes_of t)) a
    (map_has whole_stage (nests_of s) (passes_of t) (map_has passes_of s.stages t stage))
    (flat_map_has (λ (q : order.Pass). q.attributes) (whole_stage (passes_of t)) (whole_pass (nesting_pass_of p)) a
    (map_has whole_pass (passes_of t) (nesting_pass_of p) (map_has nesting_pass_of t.passes p pass)) there)

-- an attribute of its own list, or of its nest, is one of the whole pass
pub own_part : (p : NestingPass) (a : ℕ) → Contains p.attrs a → Contains (whole p) a
own_part p a there = Contains-append_left p.attrs (entries (inner_stages (option_map nest_of p.nest))) a there

pub inner_part : (p : NestingPass) (m : Nest) → p.nest ≡ Some m → (a : ℕ) → Contains (entries (stages_of m.inner)) a
    → Contains (whole p) a
inner_part p m is a there =
    subst (λ (o : Option Nest). Contains (p.attrs ++ entries (inner_stages (option_map nest_of o))) a) (sym is)
    (Contains-append_right p.attrs (entries (stages_of m.inner)) a there)

-- a pass of a stage has its numbers
pub pass_numbers : (s : NestingSchedule) (t : NestingStage) → Contains s.stages t → (p : NestingPass)
    → Contains t.passes p → (i : ℕ) × ((j : ℕ) × (nesting_pass (nests_of s) i j ≡ nesting_pass_of p))
pass_numbers s t stage p pass =
    let i = at_some (λ (u : NestingStage). map nesting_pass_of u.passes) s.stages t stage [] in
    let j = at_some nesting_pass_of t.passes p pass no_pass in
    (i.0, (j.0, ap (λ (ps : List nests.NestingPass). get_or ps j.0 no_pass) i.1 ∙ j.1))

-- the nest of a pass keeps its sides
pub kept_sides : (c : CheckedGrammar) (s : NestingSchedule) → AreNestsKept (meant c) (nests_of s) → (t : NestingStage)
    → Contains s.stages t → (p : NestingPass) → Contains t.passes p → (m : Nest) → p.nest ≡ Some m
    → KeepsSides (meant c) p.attrs (nest_of m)
kept_sides c s kept t stage p pass m is =
    let at = pass_numbers s t stage p pass in
    let same : nesting_pass (nests_of s) at.0 at.1.0 ≡ nesting_pass_of p = at.1.1 in
    subst (λ (q : nests.NestingPass). KeepsSides (meant c) q.attributes (nest_of m)) same
    (kept.sides at.0 at.1.0 (nest_of m)
    (ap (λ (q : nests.NestingPass). q.nest) same ∙ ap (λ (o : Option Nest). option_map nest_of o) is))

-- an inorder pass has none
pub kept_none : (c : CheckedGrammar) (s : NestingSchedule) → AreNestsKept (meant c) (nests_of s) → (t : NestingStage)
    → Contains s.stages t → (p : NestingPass) → Contains t.passes p → kind_of p.kind ≡ order.inorder
    → option_map nest_of p.nest ≡ None
kept_none c s kept t stage p pass is =
    let at = pass_numbers s t stage p pass in
    let same : nesting_pass (nests_of s) at.0 at.1.0 ≡ nesting_pass_of p = at.1.1 in
    sym (ap (λ (q : nests.NestingPass). q.nest) same)
    ∙ kept.inorder_has_none at.0 at.1.0 (ap (λ (q : nests.NestingPass). q.kind) same ∙ is)

-- the names of all its attributes can be said
abbrev pub AreSaid : Grammar → NestingSchedule → Type 0
AreSaid g s =
    (t : NestingStage) → Contains s.stages t → (p : NestingPass) → Contains t.passes p → (a : ℕ) → Contains (whole p) a
    → HasNames (name_of g a)

module _ (c : CheckedGrammar) (faultless : IsFaultless c.grammar) where
  abbrev g : Grammar
  g = c.grammar

  abbrev tests : RegionTests
  tests = region_tests (meant c)

  tell : Tell (meant c) tests
  tell = told c faultless.faults faultless.kinds

  -- ---- nests

  -- the numbers that a list's names stand for
  abbrev AreAgain : List ℕ → Type 0
  AreAgain attrs = (a : ℕ) → Contains attrs a → attribute_number g (name_of g a) ≡ Ok a

  own_again : (attrs : List ℕ) → AreAgain attrs → each (attribute_number g) (map (name_of g) attrs) ≡ Ok attrs
  own_again attrs again = each_same (attribute_number g) (name_of g) attrs again

  module _ (m : Nest) (own : List ℕ) (sides : KeepsSides (meant c) own (nest_of m)) where
    known : m.host < (meant c).class_count
    known = sides.closed.known

    host_again : host_named tests g (nest_by_name g m) ≡ Ok m.host
    host_again =
        ap (closed_host tests (nest_by_name g m)) (class_again g faultless.faults m.host known)
        ∙ ap (λ b. closed_host (record { is_closed = λ k. b; has = tests.has }) (nest_by_name g m) (Some m.host))
        ((tell.closed m.host known).1 sides.closed)

    outer_again : AreAgain own → each (outer_number tests g m.host) (map (name_of g) own) ≡ Ok own
    outer_again again =
        own_outside c tests tell m.host (map (name_of g) own) own known (own_again own again) sides.own

    inner_again : (a : ℕ) → a < (meant c).attribute_count → attribute_number g (name_of g a) ≡ Ok a
        → Contains (entries (stages_of m.inner)) a → inner_number tests g m.host (name_of g a) ≡ Ok a
    inner_again a within again there =
        ap (with_number (λ b. on_side (tests.has m.host b) (name_of g a) b)) again
        ∙ on_told_side (tests.has m.host a) (name_of g a) a
        ((tell.region m.host a known within).1 (sides.inner a there))

    module _ (within : (a : ℕ) → Contains (entries (stages_of m.inner)) a → a < (meant c).attribute_count)
        (again : AreAgain (entries (stages_of m.inner))) where
      inner_pass_again : (u : Stage) → Contains m.inner.stages u → (q : Pass) → Contains u.passes q
          → inner_pass_named tests g m.host (pass_by_name g q) ≡ Ok q
      inner_pass_again u stage q pass =
          ap (made_of (λ attrs. record { kind = q.kind; attrs = attrs }))
          (each_same (inner_number tests g m.host) (name_of g) q.attrs
          (λ a there.
          let entry = entry_of_pass m.inner u stage q pass a there in
          inner_again a (within a entry) (again a entry) entry))

      inner_stage_again : (u : Stage) → Contains m.inner.stages u
          → inner_stage_named tests g m.host (stage_by_name g u) ≡ Ok u
      inner_stage_again u stage =
          ap (made_of (λ passes. record { passes = passes }))
          (each_same (inner_pass_named tests g m.host) (pass_by_name g) u.passes
          (λ q pass. inner_pass_again u stage q pass))

      stages_again : inner_named tests g m.host (map (stage_by_name g) m.inner.stages) ≡ Ok m
      stages_again =
          ap (made_of (λ stages. record { host = m.host; inner = record { stages = stages } }))
          (each_same (inner_stage_named tests g m.host) (stage_by_name g) m.inner.stages inner_stage_again)

      nest_again : AreAgain own → nest_by tests g (map (name_of g) own) (nest_by_name g m) ≡ Ok m
      nest_again outside =
          ap (with_number (λ host. behind (each (outer_number tests g host) (map (name_of g) own))
          (inner_named tests g host (map (stage_by_name g) m.inner.stages)))) host_again
          ∙ ap₂ behind (outer_again outside) stages_again

  -- ---- passes and stages

  module _ (s : NestingSchedule) (computed : AreComputed (meant c) (outer_schedule (nests_of s)))
      (kept : AreNestsKept (meant c) (nests_of s)) (said : AreSaid g s) where
    module _ (t : NestingStage) (stage : Contains s.stages t) (p : NestingPass) (pass : Contains t.passes p) where
      whole_within : (a : ℕ) → Contains (whole p) a → a < (meant c).attribute_count
      whole_within a there = (computed a (whole_entry s t stage p pass a there)).0

      whole_again : AreAgain (whole p)
      whole_again a there =
          number_again g faultless.faults faultless.kinds (greatest_of_width c.width) a (whole_within a there)
          (computed a (whole_entry s t stage p pass a there)).1 (said t stage p pass a there)

      own_whole : AreAgain p.attrs
      own_whole a there = whole_again a (own_part p a there)

      nested_again : nest_named tests g (map (name_of g) p.attrs) (option_map (nest_by_name g) p.nest) ≡ Ok p.nest
      nested_again = by_nest p.nest refl
        where
          by_nest : (o : Option Nest) → p.nest ≡ o
              → nest_named tests g (map (name_of g) p.attrs) (option_map (nest_by_name g) o) ≡ Ok o
          by_nest None is = refl
          by_nest (Some m) is =
              ap (made_of Some)
              (nest_again m p.attrs (kept_sides c s kept t stage p pass m is)
              (λ a there. whole_within a (inner_part p m is a there))
              (λ a there. whole_again a (inner_part p m is a there)) own_whole)

      pass_again : nesting_pass_named tests g (nesting_pass_by_name g p) ≡ Ok p
      pass_again =
          ap₂ (pass_by p.kind) (own_again p.attrs own_whole) nested_again

    stage_again : (t : NestingStage) → Contains s.stages t
        → nesting_stage_named tests g (nesting_stage_by_name g t) ≡ Ok t
    stage_again t stage =
        ap (made_of (λ passes. record { passes = passes }))
        (each_same (nesting_pass_named tests g) (nesting_pass_by_name g) t.passes
        (λ p pass. pass_again t stage p pass))

    schedule_again : nesting_schedule_named c (nest_written_of g s) ≡ Ok s
    schedule_again =
        ap (made_of (λ stages. record { stages = stages }))
        (each_same (nesting_stage_named tests g) (nesting_stage_by_name g) s.stages stage_again)

    pub nests_back : IsNestTextOf (nesting_schedule_text (nest_written_of g s)) (nest_written_of g s)
        → nest_limit_fault (nest_written_of g s).stages ≡ None
        → IsNestReadBack c s (nesting_schedule_text (nest_written_of g s))
    nests_back spells limits = record {
      spells = spells;
      is = ap (λ o. unless o (nesting_schedule_named c (nest_written_of g s))) limits ∙ schedule_again;
    }
