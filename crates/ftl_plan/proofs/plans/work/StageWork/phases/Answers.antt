use Rattle.ftl_plan.specs.phases.StagePhases.{kinds_in}
use Rattle.std.proofs.Common.{◌≡◌, ℕ, Option, ap, sym, subst, ◌∙◌, arith, List, ◌++◌, ◌∷◌, ◌-◌, [], length}
use Rattle.std.specs.List.{All}
use Rattle.std.proofs.lemmas.List.{length-append}
use Rattle.ftl_deps.specs.reads.Meant.{meant}
use Rattle.ftl_order.specs.orders.Schedule as order
use Rattle.ftl_plan.specs.declared.plans.phases.KindPhases.{KindPhases}
use Rattle.ftl_plan.specs.laws.StageMeanings.{CanBePlanned}
use Rattle.ftl_plan.specs.plans.KindPhases.{AreOfKinds, FitKinds, hosts_at, kinds_at}
use Rattle.ftl_plan.specs.plans.StageParts.{StageView, schedule_of}
use Rattle.ftl_cursors.specs.items.StageItems.{passes_in}
use Rattle.ftl_nest_check.specs.stages.Nested.{nests_of}
use Rattle.ftl_plan.proofs.plans.KeptKinds.{for_stage_at, kinds_of_stage, one_more, stands_last}
use Rattle.ftl_plan.proofs.plans.work.StageWork.phases.Goals as goal

-- the stage has a plan
abbrev HasPlan : StageView → Type 0
HasPlan v = CanBePlanned (meant v.checked) (nests_of v.schedule) v.tree

pub returns-in-Some-clause-phases : goal.returns-in-Some-clause-phases
returns-in-Some-clause-phases c =
    let v = c.args.self.now in
    let kept = c.args.kept.now.items in
    let place = c.in-Some.place in
    let w = c.self.inside.parts in
    let kinds =
    kinds_of_stage w.item_tables (schedule_of w) w.stage c.self.invariant.passes ∙ ap kinds_at c.self.view_is in
    let hosts = c.self.invariant.passes.hosts ∙ ap hosts_at c.self.view_is in
    for_stage_at v kept place (subst HasPlan c.self.view_is c.self.invariant.can) c.requires.kept
    (subst (λ (xs : List KindPhases). AreOfKinds xs (kinds_at v) (hosts_at v) place) c.as_slice.ensures.value
    (subst (λ (ks : List order.PassKind). AreOfKinds c.as_slice.result.now ks (hosts_at v) place) kinds
    (subst
    (λ (hs : List (Option ℕ)). AreOfKinds c.as_slice.result.now (kinds_in (passes_in w.item_tables.own.items)) hs place)
    hosts c.in-Some.ensures.place)))

pub returns-clause-kept : goal.returns-clause-kept
returns-clause-kept c =
    let v = c.args.self.now in
    let made = c.in_ok-made.made in
    subst (All (FitKinds v))
    (sym (c.in_ok-push.ensures.items ∙ ap (λ (xs : List KindPhases). xs ++ made ∷ []) c.truncate.ensures.items))
    (one_more v 3 c.args.kept.now.items made c.requires.kept c.in_ok-made.ensures.fit)

pub returns-clause-phases : goal.returns-clause-phases
returns-clause-phases c =
    let v = c.args.self.now in
    let made = c.in_ok-made.made in
    let all = c.push.new.self.items in
    let before = c.truncate.new.self.items in
    let joined = c.in_ok-push.ensures.items in
    let fits =
    subst (All (FitKinds v))
    (sym (joined ∙ ap (λ (xs : List KindPhases). xs ++ made ∷ []) c.truncate.ensures.items))
    (one_more v 3 c.args.kept.now.items made c.requires.kept c.in_ok-made.ensures.fit) in
    let long = ap length joined ∙ length-append before (made ∷ []) in
    let counted = c.len.ensures in
    let whole = c.push.new.self.ok.0 in
    let last : length before ≡ c.len.result - 1 = omega (arith, long, counted, whole) in
    let there = stands_last before made (kinds_at v) (hosts_at v) c.in_ok-made.ensures.kinds c.in_ok-made.ensures.hosts in
    for_stage_at v all (c.len.result - 1) (subst HasPlan c.self.view_is c.self.invariant.can) fits
    (subst (λ (n : ℕ). AreOfKinds all (kinds_at v) (hosts_at v) n) last
    (subst (λ (xs : List KindPhases). AreOfKinds xs (kinds_at v) (hosts_at v) (length before)) (sym joined) there))
