-- What a schedule with nests by number comes from, pass by pass, where no name has a fault.
use Rattle.std.proofs.Common.{◌≡◌, ℕ, Bool, true, false, not, refl, sym, ◌∙◌, ap, subst, ⊎_elim, List, [], ◌∷◌, Contains}
use Rattle.std.proofs.Common.{Option, Some, None, Result, Ok, Err}
use Rattle.std.proofs.lemmas.Bool.{not-true}
use Rattle.ftl_model.proofs.lists.Elements.{here_in, in_cases, later_in, nothing_in}
use Rattle.ftl_grammar.specs.declared.syntax.rules.Grammar.{Grammar}
use Rattle.ftl_schedule.specs.declared.syntax.types.AttributeName.{AttributeName}
use Rattle.ftl_schedule.specs.declared.syntax.types.WrittenStage.{WrittenStage}
use Rattle.ftl_schedule.specs.declared.stages.types.Pass.{Pass}
use Rattle.ftl_schedule.specs.declared.stages.types.Stage.{Stage}
use Rattle.ftl_schedule.specs.declared.names.fault.ScheduleFault.{ScheduleFault}
use Rattle.ftl_schedule.specs.names.Named.{attribute_number, before, each}
use Rattle.ftl_schedule.proofs.names.NamedParts.{made, parts, same_Ok}
use Rattle.ftl_nest_check.specs.declared.stages.types.Nest.{Nest}
use Rattle.ftl_nest_check.specs.declared.stages.types.NestingPass.{NestingPass}
use Rattle.ftl_nest_check.specs.declared.stages.types.NestingStage.{NestingStage}
use Rattle.ftl_nest_check.specs.declared.stages.types.NestingSchedule.{NestingSchedule}
use Rattle.ftl_nest_text.specs.declared.syntax.types.WrittenNest.{WrittenNest}
use Rattle.ftl_nest_text.specs.declared.syntax.types.WrittenNestingPass.{WrittenNestingPass}
use Rattle.ftl_nest_text.specs.declared.syntax.types.WrittenNestingStage.{WrittenNestingStage}
use Rattle.ftl_nest_text.specs.declared.syntax.types.WrittenNestingSchedule.{WrittenNestingSchedule}
use Rattle.ftl_nest_text.specs.names.RegionTests.{RegionTests}
use Rattle.ftl_nest_text.specs.names.NestNamed.{behind, host_named, inner_named, inner_number, inner_pass_named, inner_stage_named, named_by, nest_by, nest_named, nesting_pass_named, nesting_stage_named, on_side, outer_number, pass_by, with_number}
use Rattle.ftl_nest_text.proofs.names.HostLaws.{IsHostOf, host_from}

-- ---- entries

-- an entry of what is made of a list comes from an entry of the list
pub record ComesFrom {X Y : Type 0} (f : X → Result Y ScheduleFault) (xs : List X) (y : Y) : Type 0 where
  pub x : X
  pub there : Contains xs x
  pub is : f x ≡ Ok y

pub each_from : {X Y : Type 0} (f : X → Result Y ScheduleFault) (xs : List X) (ys : List Y) → each f xs ≡ Ok ys → (y : Y)
    → Contains ys y → ComesFrom f xs y
each_from f [] ys e y there =
    absurd (nothing_in y (subst (λ zs. Contains zs y) (sym (same_Ok [] ys e)) there))
each_from f (x ∷ xs) ys e y there =
    parts f x xs ys e
    (λ z zs is is_later same.
    ⊎_elim (λ first. record { x = x; there = here_in x xs; is = is ∙ ap Ok first })
    (λ later.
    let r = each_from f xs zs is_later y later in
    record { x = r.x; there = later_in x r.x xs r.there; is = r.is })
    (in_cases z y zs (subst (λ vs. Contains vs y) (sym same) there)))

-- what stands for the same by one reading does so by another that gives no less
pub each_less : {X Y : Type 0} (f h : X → Result Y ScheduleFault) → ((x : X) (y : Y) → f x ≡ Ok y → h x ≡ Ok y)
    → (xs : List X) (ys : List Y) → each f xs ≡ Ok ys → each h xs ≡ Ok ys
each_less f h less [] ys e = e
each_less f h less (x ∷ xs) ys e =
    parts f x xs ys e
    (λ z zs is is_later same.
    ap (λ r. before r (each h xs)) (less x z is) ∙ ap (before (Ok z)) (each_less f h less xs zs is_later) ∙ ap Ok same)

-- ---- what is found by a number

pub number_from : {Y P : Type 0} (f : ℕ → Result Y ScheduleFault) (r : Result ℕ ScheduleFault) (y : Y)
    → with_number f r ≡ Ok y → ((a : ℕ) → r ≡ Ok a → f a ≡ Ok y → P) → P
number_from f (Ok a) y e next = next a refl e
number_from f (Err fault) y e next = absurd (cc e)

pub side_from : (right : Bool) (x : AttributeName) (a b : ℕ) → on_side right x a ≡ Ok b → (right ≡ true) × (a ≡ b)
side_from true x a b e = (refl, same_Ok a b e)
side_from false x a b e = absurd (cc e)

module _ (tests : RegionTests) (g : Grammar) (host : ℕ) where
  -- an attribute of an inner list is a computed one of the region
  pub inner_from : (x : AttributeName) (a : ℕ) → inner_number tests g host x ≡ Ok a
      → (attribute_number g x ≡ Ok a) × (tests.has host a ≡ true)
  inner_from x a e =
      number_from (λ b. on_side (tests.has host b) x b) (attribute_number g x) a e
      (λ b is side.
      let s = side_from (tests.has host b) x b a side in
      (is ∙ ap Ok s.1, subst (λ k. tests.has host k ≡ true) s.1 s.0))

  -- one of the own list is a computed one outside it
  pub outer_from : (x : AttributeName) (a : ℕ) → outer_number tests g host x ≡ Ok a
      → (attribute_number g x ≡ Ok a) × (tests.has host a ≡ false)
  outer_from x a e =
      number_from (λ b. on_side (not (tests.has host b)) x b) (attribute_number g x) a e
      (λ b is side.
      let s = side_from (not (tests.has host b)) x b a side in
      (is ∙ ap Ok s.1, subst (λ k. tests.has host k ≡ false) s.1 (not-true (tests.has host b) s.0)))

  -- an attribute of the stages of a nest
  pub stages_from : (xs : List WrittenStage) (ss : List Stage) → each (inner_stage_named tests g host) xs ≡ Ok ss
      → (s : Stage) → Contains ss s → (p : Pass) → Contains s.passes p → (a : ℕ) → Contains p.attrs a
      → (x : AttributeName) × (inner_number tests g host x ≡ Ok a)
  stages_from xs ss e s stage p pass a there =
      let from_stage = each_from (inner_stage_named tests g host) xs ss e s stage in
      made (λ passes. record { passes = passes }) (each (inner_pass_named tests g host) from_stage.x.passes) s
      from_stage.is
      (λ passes is same.
      let from_pass =
      each_from (inner_pass_named tests g host) from_stage.x.passes passes is p
      (subst (λ (t : Stage). Contains t.passes p) (sym same) pass) in
      made (λ attrs. record { kind = from_pass.x.kind; attrs = attrs })
      (each (inner_number tests g host) from_pass.x.attrs) p from_pass.is
      (λ attrs is_attrs same_pass.
      let from =
      each_from (inner_number tests g host) from_pass.x.attrs attrs is_attrs a
      (subst (λ (q : Pass). Contains q.attrs a) (sym same_pass) there) in
      (from.x, from.is)))

-- ---- nests and passes

-- the nest of a pass with this own list
pub record IsNestOf (tests : RegionTests) (g : Grammar) (own : List AttributeName) (n : WrittenNest) (m : Nest) : Type 0
  where
    pub host : IsHostOf tests g n m.host
    pub outside : (attrs : List ℕ) → each (attribute_number g) own ≡ Ok attrs → each (outer_number tests g m.host) own ≡ Ok attrs
    pub stages : each (inner_stage_named tests g m.host) n.stages ≡ Ok m.inner.stages

module _ (tests : RegionTests) (g : Grammar) where
  behind_from : {X Y P : Type 0} (r : Result X ScheduleFault) (later : Result Y ScheduleFault) (y : Y)
      → behind r later ≡ Ok y → ((x : X) → r ≡ Ok x → later ≡ Ok y → P) → P
  behind_from (Ok x) later y e next = next x refl e
  behind_from (Err fault) later y e next = absurd (cc e)

  pub nest_from : (own : List AttributeName) (n : WrittenNest) (m : Nest) → nest_by tests g own n ≡ Ok m
      → IsNestOf tests g own n m
  nest_from own n m e =
      number_from (λ host. behind (each (outer_number tests g host) own) (inner_named tests g host n.stages))
      (host_named tests g n) m e
      (λ host is later.
      behind_from (each (outer_number tests g host) own) (inner_named tests g host n.stages) m later
      (λ attrs out inner.
      made (λ stages. record { host = host; inner = record { stages = stages } })
      (each (inner_stage_named tests g host) n.stages) m inner
      (λ stages is_inner same.
      subst (IsNestOf tests g own n) same
      (record {
        host = host_from tests g n host is;
        outside = λ bs is_own.
            let less =
            each_less (outer_number tests g host) (attribute_number g)
            (λ x a f. (outer_from tests g host x a f).0) own attrs out in
            out ∙ sym less ∙ is_own;
        stages = is_inner;
      }))))

  -- what a pass nests
  abbrev pub IsNested : List AttributeName → Option WrittenNest → Option Nest → Type 0
  IsNested own None None = Unit {0}
  IsNested own None (Some m) = ⊥
  IsNested own (Some n) None = ⊥
  IsNested own (Some n) (Some m) = IsNestOf tests g own n m

  pub nested_from : (own : List AttributeName) (n : Option WrittenNest) (m : Option Nest)
      → nest_named tests g own n ≡ Ok m → IsNested own n m
  nested_from own None m e = subst (IsNested own None) (same_Ok None m e) tt
  nested_from own (Some n) m e =
      made Some (nest_by tests g own n) m e
      (λ k is same. subst (IsNested own (Some n)) same (nest_from own n k is))

  -- a pass of the schedule, and the written one that it comes from
  pub record IsPassFrom (x : WrittenNestingPass) (p : NestingPass) : Type 0 where
    pub kind : x.kind ≡ p.kind
    pub own : each (attribute_number g) x.attrs ≡ Ok p.attrs
    pub nested : IsNested x.attrs x.nest p.nest

  pub pass_from : (x : WrittenNestingPass) (p : NestingPass) → nesting_pass_named tests g x ≡ Ok p → IsPassFrom x p
  pass_from x p e = by_own (each (attribute_number g) x.attrs) refl e
    where
      by_own : (r : Result (List ℕ) ScheduleFault) → each (attribute_number g) x.attrs ≡ r
          → pass_by x.kind r (nest_named tests g x.attrs x.nest) ≡ Ok p → IsPassFrom x p
      by_own (Err fault) is e = absurd (cc e)
      by_own (Ok attrs) is e =
          made (λ n. record { kind = x.kind; attrs = attrs; nest = n }) (nest_named tests g x.attrs x.nest) p e
          (λ n is_nest same.
          subst (IsPassFrom x) same
          (record { kind = refl; own = is; nested = nested_from x.attrs x.nest n is_nest }))

  -- each pass comes from a written one
  pub record IsPassOf (w : WrittenNestingSchedule) (p : NestingPass) : Type 0 where
    pub stage : WrittenNestingStage
    pub pass : WrittenNestingPass
    pub stage_there : Contains w.stages stage
    pub pass_there : Contains stage.passes pass
    pub from : IsPassFrom pass p

  pub schedule_from : (w : WrittenNestingSchedule) (s : NestingSchedule) → named_by tests g w ≡ Ok s
      → (t : NestingStage) → Contains s.stages t → (p : NestingPass) → Contains t.passes p → IsPassOf w p
  schedule_from w s e t stage p pass =
      made (λ stages. record { stages = stages }) (each (nesting_stage_named tests g) w.stages) s e
      (λ stages is same.
      let from_stage =
      each_from (nesting_stage_named tests g) w.stages stages is t
      (subst (λ (u : NestingSchedule). Contains u.stages t) (sym same) stage) in
      made (λ passes. record { passes = passes }) (each (nesting_pass_named tests g) from_stage.x.passes) t from_stage.is
      (λ passes is_passes same_stage.
      let from_pass =
      each_from (nesting_pass_named tests g) from_stage.x.passes passes is_passes p
      (subst (λ (u : NestingStage). Contains u.passes p) (sym same_stage) pass) in
      record {
        stage = from_stage.x;
        pass = from_pass.x;
        stage_there = from_stage.there;
        pass_there = from_pass.there;
        from = pass_from from_pass.x p from_pass.is;
      }))
