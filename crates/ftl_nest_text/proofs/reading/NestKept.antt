-- The attributes and nests that the names of a schedule stand for: attributes are computed, nests keep their sides.
use Rattle.std.proofs.Common.{◌≡◌, ◌≢◌, ◌⊎◌, ℕ, ◌<◌, ◌≤◌, arith, refl, sym, ◌∙◌, ap, subst, inl, inr, ⊎_elim, List, [], ◌∷◌, ◌++◌}
use Rattle.std.proofs.Common.{length, get_or, map, flat_map, Contains, Option, Some, None, Ok}
use Rattle.std.specs.Option.{option_map}
use Rattle.std.proofs.lemmas.Bool.{both_ways, cases_lt}
use Rattle.std.proofs.lemmas.List.{get_or-map, get_or_past, length-map}
use Rattle.std.proofs.lemmas.List.Elements.{Contains-append_cases, Contains-get_or}
use Rattle.std.proofs.lemmas.List.Folds.{flat_map-map}
use Rattle.std.proofs.lemmas.Option.{none-some, same_Some}
use Rattle.ftl_base.specs.Widths.{greatest_of_width}
use Rattle.ftl_deps.specs.reads.Meant.{meant}
use Rattle.ftl_meaning.specs.faults.Checked.{CheckedGrammar}
use Rattle.ftl_model.proofs.lists.Elements.{in_flat_map, nothing_in}
use Rattle.ftl_model.specs.layout.AttributeGrammar as model
use Rattle.ftl_order.specs.orders.Schedule as order
use Rattle.ftl_order.specs.orders.Schedule.{entries}
use Rattle.ftl_order.specs.faults.FaultLaws.{AreComputed}
use Rattle.ftl_nests.specs.Nests as nests
use Rattle.ftl_nests.specs.Nests.{KeepsSides, inner_stages, nesting_pass, no_pass, outer_schedule, whole_pass, whole_stage}
use Rattle.ftl_nests.specs.Region.{OfRegion}
use Rattle.ftl_schedule.specs.declared.syntax.kind.PassKind.{PassKind}
use Rattle.ftl_schedule.specs.declared.syntax.kind.PassKind.TheVariants.{BottomUp, InOrder, TopDown}
use Rattle.ftl_schedule.specs.declared.syntax.types.AttributeName.{AttributeName}
use Rattle.ftl_schedule.specs.declared.stages.types.Pass.{Pass}
use Rattle.ftl_schedule.specs.declared.stages.types.Stage.{Stage}
use Rattle.ftl_schedule.specs.declared.stages.types.Schedule.{Schedule}
use Rattle.ftl_schedule.specs.names.Named.{attribute_number}
use Rattle.ftl_schedule.specs.stages.Stages.{kind_of, pass_of, stages_of}
use Rattle.ftl_schedule.proofs.reading.ReadComputed.{number_computed}
use Rattle.ftl_nest_check.specs.declared.stages.types.Nest.{Nest}
use Rattle.ftl_nest_check.specs.declared.stages.types.NestingPass.{NestingPass}
use Rattle.ftl_nest_check.specs.declared.stages.types.NestingStage.{NestingStage}
use Rattle.ftl_nest_check.specs.declared.stages.types.NestingSchedule.{NestingSchedule}
use Rattle.ftl_nest_check.specs.stages.Nested.{AreNestsKept, nest_of, nesting_pass_of, nests_of}
use Rattle.ftl_nest_text.specs.declared.syntax.types.WrittenNest.{WrittenNest}
use Rattle.ftl_nest_text.specs.declared.syntax.types.WrittenNestingPass.{WrittenNestingPass}
use Rattle.ftl_nest_text.specs.declared.syntax.types.WrittenNestingStage.{WrittenNestingStage}
use Rattle.ftl_nest_text.specs.declared.syntax.types.WrittenNestingSchedule.{WrittenNestingSchedule}
use Rattle.ftl_nest_text.specs.names.RegionTests.{RegionTests, Tell}
use Rattle.ftl_nest_text.specs.names.NestNamed.{named_by, outer_number}
use Rattle.ftl_nest_text.proofs.names.CheckedTests.{class_known, number_known}
use Rattle.ftl_nest_text.proofs.names.NamedNests.{IsNestOf, IsNested, IsPassFrom, each_from, inner_from, outer_from, schedule_from, stages_from}

-- ---- entries of a schedule without nests, and of one with nests

-- an entry stands in a pass of a stage
pub entry_in : (s : Schedule) (a : ℕ) → Contains (entries (stages_of s)) a
    → (t : Stage) × Contains s.stages t × ((p : Pass) × Contains t.passes p × Contains p.attrs a)
entry_in s a there =
    let in_stage =
    in_flat_map (λ (t : Stage). flat_map (λ (p : order.Pass). p.attributes) (map pass_of t.passes)) s.stages a
    (subst (λ ns. Contains ns a)
    (flat_map-map (λ (ps : List order.Pass). flat_map (λ (p : order.Pass). p.attributes) ps)
    (λ (t : Stage). map pass_of t.passes) s.stages) there) in
    let in_pass =
    in_flat_map (λ (p : Pass). p.attrs) in_stage.0.passes a
    (subst (λ ns. Contains ns a) (flat_map-map (λ (p : order.Pass). p.attributes) pass_of in_stage.0.passes) in_stage.2) in
    (in_stage.0, in_stage.1, (in_pass.0, in_pass.1, in_pass.2))

abbrev pub whole : NestingPass → List ℕ
whole p = p.attrs ++ entries (inner_stages (option_map nest_of p.nest))

pub nest_entry_in : (s : NestingSchedule) (a : ℕ) → Contains (entries (outer_schedule (nests_of s))) a
    → (t : NestingStage) × Contains s.stages t × ((p : NestingPass) × Contains t.passes p × Contains (whole p) a)
nest_entry_in s a there =
    let attributes : List order.Pass → List ℕ = flat_map (λ (p : order.Pass). p.attributes) in
    let passes_of : NestingStage → List nests.NestingPass = λ (t : NestingStage). map nesting_pass_of t.passes in
    let in_stage =
    in_flat_map (λ (t : NestingStage). attributes (whole_stage (passes_of t))) s.stages a
    (subst (λ ns. Contains ns a)
    (flat_map-map attributes whole_stage (nests_of s)
    ∙ flat_map-map (λ ps. attributes (whole_stage ps)) passes_of s.stages) there) in
    let in_pass =
    in_flat_map whole in_stage.0.passes a
    (subst (λ ns. Contains ns a)
    (flat_map-map (λ (p : order.Pass). p.attributes) whole_pass (passes_of in_stage.0)
    ∙ flat_map-map (λ (p : nests.NestingPass). (whole_pass p).attributes) nesting_pass_of in_stage.0.passes)
    in_stage.2) in
    (in_stage.0, in_stage.1, (in_pass.0, in_pass.1, in_pass.2))

-- ---- passes by their numbers

-- the entry at a number, or none
at_number : {X Y : Type 0} (f : X → Y) (xs : List X) (i : ℕ) (e : Y)
    → ((x : X) × Contains xs x × (get_or (map f xs) i e ≡ f x)) ⊎ (get_or (map f xs) i e ≡ e)
at_number f [] i e = inr (get_or_past [] i e (let z : 0 ≤ i = omega arith in z))
at_number f (x ∷ xs) i e = elim (cases_lt i (length (x ∷ xs))) [
  | inl below ↦ inl (
    get_or (x ∷ xs) i x,
    Contains-get_or (x ∷ xs) i x below,
    get_or-map f (x ∷ xs) i x e below,
  )
  | inr past ↦ inr (get_or_past (map f (x ∷ xs)) i e (omega (arith, past, length-map (x ∷ xs) f)))
]

-- a pass of the schedule, or the empty one
pub pass_at : (s : NestingSchedule) (m n : ℕ)
    → ((t : NestingStage) × Contains s.stages t
    × ((p : NestingPass) × Contains t.passes p × (nesting_pass (nests_of s) m n ≡ nesting_pass_of p)))
    ⊎ (nesting_pass (nests_of s) m n ≡ no_pass)
pass_at s m n =
    elim (at_number (λ (t : NestingStage). map nesting_pass_of t.passes) s.stages m []) [
      | inl stage ↦ elim (at_number nesting_pass_of stage.0.passes n no_pass) [
        | inl pass ↦
            inl (stage.0, stage.1, (pass.0, pass.1, ap (λ ps. get_or ps n no_pass) stage.2 ∙ pass.2))
        | inr none ↦ inr (ap (λ ps. get_or ps n no_pass) stage.2 ∙ none)
      ]
      | inr none ↦
          inr (ap (λ ps. get_or ps n no_pass) none ∙ get_or_past [] n no_pass (let z : 0 ≤ n = omega arith in z))
    ]

-- ---- what is named

-- a pass of a written schedule
abbrev pub IsIn : WrittenNestingSchedule → WrittenNestingPass → Type 0
IsIn w x = (stage : WrittenNestingStage) × Contains w.stages stage × Contains stage.passes x

module _ (c : CheckedGrammar) (tests : RegionTests) (tell : Tell (meant c) tests) (w : WrittenNestingSchedule)
    (s : NestingSchedule) (named : named_by tests c.grammar w ≡ Ok s) where
  abbrev IsComputed : ℕ → Type 0
  IsComputed a = (a < (meant c).attribute_count) × ((meant c).sort a ≢ model.input)

  number_is : (x : AttributeName) (a : ℕ) → attribute_number c.grammar x ≡ Ok a → IsComputed a
  number_is x a is = number_computed (greatest_of_width c.width) c.grammar x a is

  -- an attribute of a nest is a computed one of its region
  inner_is : (own : List AttributeName) (n : WrittenNest) (m : Nest) → IsNestOf tests c.grammar own n m → (a : ℕ)
      → Contains (entries (stages_of m.inner)) a → IsComputed a × OfRegion (meant c) m.host a
  inner_is own n m is a there =
      let at = entry_in m.inner a there in
      let x = stages_from tests c.grammar m.host n.stages m.inner.stages is.stages at.0 at.1 at.2.0 at.2.1 a at.2.2 in
      let from = inner_from tests c.grammar m.host x.0 a x.1 in
      let known = class_known c n.host m.host is.host.named in (
        number_is x.0 a from.0,
        (tell.region m.host a known (number_known c x.0 a from.0)).0 from.1,
      )

  -- so is each of the own list, and it is outside
  own_is : (x : WrittenNestingPass) (p : NestingPass) → IsPassFrom tests c.grammar x p → (a : ℕ) → Contains p.attrs a
      → IsComputed a
  own_is x p from a there =
      let r = each_from (attribute_number c.grammar) x.attrs p.attrs from.own a there in number_is r.x a r.is

  outside_is : (x : WrittenNestingPass) (p : NestingPass) → IsPassFrom tests c.grammar x p → (n : WrittenNest) (m : Nest)
      → IsNestOf tests c.grammar x.attrs n m → (a : ℕ) → Contains p.attrs a → OfRegion (meant c) m.host a → ⊥
  outside_is x p from n m is a there of =
      let r =
      each_from (outer_number tests c.grammar m.host) x.attrs p.attrs (is.outside p.attrs from.own) a there in
      let side = outer_from tests c.grammar m.host r.x a r.is in
      let known = class_known c n.host m.host is.host.named in
      both_ways (tests.has m.host a) side.1 ((tell.region m.host a known (number_known c r.x a side.0)).1 of)

  whole_is : (x : WrittenNestingPass) (p : NestingPass) → IsPassFrom tests c.grammar x p → (a : ℕ)
      → Contains (whole p) a → IsComputed a
  whole_is x p from a there =
      ⊎_elim (λ own. own_is x p from a own)
      (λ inner. by_nest x.nest p.nest from.nested inner)
      (Contains-append_cases p.attrs (entries (inner_stages (option_map nest_of p.nest))) a there)
    where
      by_nest : (n : Option WrittenNest) (m : Option Nest) → IsNested tests c.grammar x.attrs n m
          → Contains (entries (inner_stages (option_map nest_of m))) a → IsComputed a
      by_nest None None is inner = absurd (nothing_in a inner)
      by_nest None (Some m) is inner = absurd is
      by_nest (Some n) None is inner = absurd is
      by_nest (Some n) (Some m) is inner = (inner_is x.attrs n m is a inner).0

  pub named_computed : AreComputed (meant c) (outer_schedule (nests_of s))
  named_computed a there =
      let at = nest_entry_in s a there in
      let from = schedule_from tests c.grammar w s named at.0 at.1 at.2.0 at.2.1 in
      whole_is from.pass at.2.0 from.from a at.2.2

  -- the nest of a pass keeps its sides
  pass_sides : (x : WrittenNestingPass) (p : NestingPass) → IsPassFrom tests c.grammar x p → (nest : nests.Nest)
      → option_map nest_of p.nest ≡ Some nest → KeepsSides (meant c) p.attrs nest
  pass_sides x p from nest is = by_nest x.nest p.nest from.nested is
    where
      by_nest : (n : Option WrittenNest) (m : Option Nest) → IsNested tests c.grammar x.attrs n m
          → option_map nest_of m ≡ Some nest → KeepsSides (meant c) p.attrs nest
      by_nest None None of is = absurd (none-some nest is)
      by_nest None (Some m) of is = absurd of
      by_nest (Some n) None of is = absurd of
      by_nest (Some n) (Some m) of is =
          let known = class_known c n.host m.host of.host.named in
          subst (KeepsSides (meant c) p.attrs) (same_Some (nest_of m) nest is)
          (record {
            closed = (tell.closed m.host known).0 of.host.closed;
            own = outside_is x p from n m of;
            inner = λ a there. (inner_is x.attrs n m of a there).1;
          })

  pub named_sides : (m n : ℕ) (nest : nests.Nest) → (nesting_pass (nests_of s) m n).nest ≡ Some nest
      → KeepsSides (meant c) (nesting_pass (nests_of s) m n).attributes nest
  named_sides m n nest is = elim (pass_at s m n) [
    | inl at ↦
        let from = schedule_from tests c.grammar w s named at.0 at.1 at.2.0 at.2.1 in
        let same = at.2.2 in
        subst (λ (q : nests.NestingPass). KeepsSides (meant c) q.attributes nest) (sym same)
        (pass_sides from.pass at.2.0 from.from nest
        (ap (λ (q : nests.NestingPass). q.nest) (sym same) ∙ is))
    | inr none ↦ absurd (none-some nest (ap (λ (q : nests.NestingPass). q.nest) (sym none) ∙ is))
  ]

  -- ---- inorder passes

  is_inorder : (k : PassKind) → kind_of k ≡ order.inorder → k ≡ InOrder
  is_inorder TopDown e = absurd (let z : ⊥ = cc in z)
  is_inorder BottomUp e = absurd (let z : ⊥ = cc in z)
  is_inorder InOrder e = refl

  module _ (none : (x : WrittenNestingPass) → IsIn w x → x.kind ≡ InOrder → x.nest ≡ None) where
    pass_without : (x : WrittenNestingPass) (p : NestingPass) → IsPassFrom tests c.grammar x p → x.nest ≡ None
        → option_map nest_of p.nest ≡ None
    pass_without x p from is = by_nest x.nest p.nest from.nested is
      where
        by_nest : (n : Option WrittenNest) (m : Option Nest) → IsNested tests c.grammar x.attrs n m → n ≡ None
            → option_map nest_of m ≡ None
        by_nest None None of e = refl
        by_nest None (Some m) of e = absurd of
        by_nest (Some n) m of e = absurd (none-some n (sym e))

    pub named_inorder : (m n : ℕ) → (nesting_pass (nests_of s) m n).kind ≡ order.inorder
        → (nesting_pass (nests_of s) m n).nest ≡ None
    named_inorder m n is = elim (pass_at s m n) [
      | inl at ↦
          let from = schedule_from tests c.grammar w s named at.0 at.1 at.2.0 at.2.1 in
          let same = at.2.2 in
          let kind = is_inorder at.2.0.kind (ap (λ (q : nests.NestingPass). q.kind) (sym same) ∙ is) in
          let without = none from.pass (from.stage, from.stage_there, from.pass_there) (from.from.kind ∙ kind) in
          ap (λ (q : nests.NestingPass). q.nest) same ∙ pass_without from.pass at.2.0 from.from without
      | inr empty ↦ ap (λ (q : nests.NestingPass). q.nest) empty
    ]

    pub named_kept : AreNestsKept (meant c) (nests_of s)
    named_kept = record { sides = named_sides; inorder_has_none = named_inorder }
