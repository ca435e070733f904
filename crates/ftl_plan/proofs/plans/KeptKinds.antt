-- Phases that are kept, and the kinds and host classes of the passes of stages.
use Rattle.std.proofs.Common.{◌≡◌, ℕ, ap, sym, ◌∙◌, subst, arith, List, [], ◌∷◌, ◌++◌, Option, None, Some, get_or, length, map, take}
use Rattle.std.specs.List.{All, slice_get}
use Rattle.std.proofs.lemmas.List.{length-append, length-map}
use Rattle.std.proofs.lemmas.List.Elements.{All-append, All-cons, All-get_or, All-nil, All-take}
use Rattle.std.proofs.lemmas.Option.{get_or_from_slice_get, slice_get-get_or, slice_get_within}
use Rattle.std.proofs.lemmas.Simd.{map-map}
use Rattle.std.proofs.Math.ListN.{get_or-map}
use Rattle.std.proofs.Math.Seq.{get_or-append_seam}
use mathlib.Core.Path.{fun_ext}
use Rattle.ftl_deps.specs.reads.Meant.{meant}
use Rattle.ftl_host_cursors.specs.NestTables.{AreOfStage, nesting_passes, own_pass}
use Rattle.ftl_host_cursors.specs.declared.tables.NestTables.{NestTables}
use Rattle.ftl_cursors.specs.items.RowsCut.{cut_with}
use Rattle.ftl_cursors.specs.items.StageItems.{passes_in}
use Rattle.ftl_cursors.specs.items.WholeTrees.{is_whole_at}
use Rattle.ftl_model.specs.layout.Tree.{Forest}
use Rattle.ftl_nests.specs.Nests.{NestingSchedule}
use Rattle.ftl_nest_check.specs.stages.Nested.{nests_of}
use Rattle.ftl_order.specs.orders.Schedule as order
use Rattle.ftl_schedule.specs.declared.stages.types.Pass.{Pass}
use Rattle.ftl_schedule.specs.declared.syntax.kind.PassKind.{PassKind}
use Rattle.ftl_schedule.specs.stages.Stages.{kind_of, pass_of}
use Rattle.ftl_plan.specs.declared.plans.phases.ItemPhases.{ItemPhases}
use Rattle.ftl_plan.specs.declared.plans.phases.KindPhases.{KindPhases}
use Rattle.ftl_plan.specs.laws.StageMeanings.{CanBePlanned}
use Rattle.ftl_plan.specs.phases.StagePhases.{kinds_in, stage_kinds}
use Rattle.ftl_plan.specs.plans.KindPhases.{AreForStageAt, AreOfKinds, FitKinds, FitLots, HaveClasses, cut_by, hosts_at, kinds_at, kinds_told}
use Rattle.ftl_plan.specs.plans.StageParts.{StageView}

-- the kinds that were taken from passes are theirs
pub kinds_are : (kinds : List PassKind) (passes : List Pass) → kinds ≡ map (λ (p : Pass). p.kind) passes
    → map kind_of kinds ≡ kinds_in (map pass_of passes)
kinds_are kinds passes is =
    ap (map kind_of) is
    ∙ map-map kind_of (λ (p : Pass). p.kind) passes
    ∙ sym (map-map (λ (p : order.Pass). p.kind) pass_of passes)

-- tables of a stage have its kinds
pub kinds_of_stage : (x : NestTables) (s : NestingSchedule) (stage : ℕ) → AreOfStage x s stage
    → kinds_in (passes_in x.own.items) ≡ stage_kinds s stage
kinds_of_stage x s stage of =
    ap kinds_in of.passes ∙ map-map (λ (p : order.Pass). p.kind) own_pass (nesting_passes s stage)

-- what stands at a place of a list that each entry of fits
at_place : (P : KindPhases → Type 0) (xs : List KindPhases) (i : ℕ) (x : KindPhases) → All P xs → slice_get xs i ≡ Some x
    → P x
at_place P xs i x all at =
    subst P (get_or_from_slice_get xs i x x at) (All-get_or P xs i x (slice_get_within xs i x at) all)

-- what is kept for the kinds and the host classes of the passes of a stage is for the stage
pub for_stage_at : (v : StageView) (kept : List KindPhases) (place : ℕ)
    → CanBePlanned (meant v.checked) (nests_of v.schedule) v.tree → All (FitKinds v) kept
    → AreOfKinds kept (kinds_at v) (hosts_at v) place → AreForStageAt v kept place
for_stage_at v kept place can all are k l found is =
    let found_kinds = get_or_from_slice_get kept place k are.of found in
    let same = sym (get_or_from_slice_get kept place are.of are.of are.here) ∙ found_kinds in
    let kinds : kinds_told k ≡ kinds_at v = subst (λ (e : KindPhases). kinds_told e ≡ kinds_at v) same are.kinds_are in
    let hosts : k.hosts.items ≡ hosts_at v = subst (λ (e : KindPhases). e.hosts.items ≡ hosts_at v) same are.hosts_are in
    let fit = at_place (FitKinds v) kept place k all found l is in record {
      taken = fit.taken (nests_of v.schedule) v.stage v.max_stack can (sym kinds) (sym hosts);
      classes =
          subst (λ (ks : List order.PassKind). HaveClasses v ks (hosts_at v) l.classes.items) kinds
          (subst (λ (hs : List (Option ℕ)). HaveClasses v (kinds_told k) hs l.classes.items) hosts fit.classes);
    }

-- what fits the kinds and the host classes of a stage fits what is kept for these
pub fits_kinds : (v : StageView) (k : KindPhases) → kinds_told k ≡ kinds_at v → k.hosts.items ≡ hosts_at v
    → ((l : ItemPhases) → k.lots ≡ Some l → FitLots v (kinds_at v) (hosts_at v) l) → FitKinds v k
fits_kinds v k kinds hosts fit l is =
    subst (λ (ks : List order.PassKind). FitLots v ks k.hosts.items l) (sym kinds)
    (subst (λ (hs : List (Option ℕ)). FitLots v (kinds_at v) hs l) (sym hosts) (fit l is))

-- passes are cut by their kinds and host classes
pub cuts_tell : (t : Forest) (grain : ℕ) (passes : List order.Pass) (hosts : List (Option ℕ))
    → cut_with t grain passes hosts ≡ cut_by t grain (kinds_in passes) hosts
cuts_tell t grain passes hosts =
    fun_ext
    (λ m.
    ap (λ (k : order.PassKind). record { kind = k; is_whole = is_whole_at (get_or hosts m None) t grain })
    (sym (get_or-map (λ (p : order.Pass). p.kind) passes m order.empty_pass)))

-- as many as there are passes
pub count_tells : (passes : List order.Pass) → length (kinds_in passes) ≡ length passes
count_tells passes = length-map passes (λ (p : order.Pass). p.kind)

-- those that are kept and a new one
pub one_more : (v : StageView) (n : ℕ) (kept : List KindPhases) (made : KindPhases) → All (FitKinds v) kept → FitKinds v made
    → All (FitKinds v) (take n kept ++ made ∷ [])
one_more v n kept made all fits =
    All-append (FitKinds v) (take n kept) (made ∷ []) (All-take (FitKinds v) n kept all)
    (All-cons (FitKinds v) made [] fits (All-nil (FitKinds v)))

-- the new one stands last
pub stands_last : (xs : List KindPhases) (made : KindPhases) (kinds : List order.PassKind) (hosts : List (Option ℕ))
    → kinds_told made ≡ kinds → made.hosts.items ≡ hosts → AreOfKinds (xs ++ made ∷ []) kinds hosts (length xs)
stands_last xs made kinds hosts is are =
    let long = length-append xs (made ∷ []) in
    let here : get_or (xs ++ made ∷ []) (length xs) made ≡ made = get_or-append_seam xs made [] made in
    record {
      of = made;
      here = slice_get-get_or (xs ++ made ∷ []) (length xs) made (omega (arith, long)) ∙ ap Some here;
      kinds_are = is;
      hosts_are = are;
    }
