-- Schedules of code and those of the definitions are the same.
use Rattle.std.proofs.Common.{◌≡◌, refl, ap, ◌∙◌, List, [], ◌∷◌, map}
use Rattle.ftl_order.specs.orders.Schedule as order
use Rattle.ftl_schedule.specs.declared.syntax.kind.PassKind.{PassKind}
use Rattle.ftl_schedule.specs.declared.syntax.kind.PassKind.TheVariants.{TopDown, BottomUp, InOrder}
use Rattle.ftl_schedule.specs.stages.Stages.{kind_of, pass_of, stages_of}
use Rattle.ftl_schedule.specs.declared.stages.types.Pass.{Pass}
use Rattle.ftl_schedule.specs.declared.stages.types.Stage.{Stage}
use Rattle.ftl_schedule.specs.declared.stages.types.Schedule.{Schedule}

-- the kind of code that stands for one
abbrev pub kind_back : order.PassKind → PassKind
kind_back order.topdown = TopDown
kind_back order.bottomup = BottomUp
kind_back order.inorder = InOrder

abbrev pass_back : order.Pass → Pass
pass_back p = record { kind = kind_back p.kind; attrs = p.attributes }

abbrev stage_back : List order.Pass → Stage
stage_back passes = record { passes = map pass_back passes }

-- the schedule of code that stands for one
abbrev pub schedule_back : order.Schedule → Schedule
schedule_back s = record { stages = map stage_back s }

-- ---- there and back

pub same_kind : (k : order.PassKind) → kind_of (kind_back k) ≡ k
same_kind order.topdown = refl
same_kind order.bottomup = refl
same_kind order.inorder = refl

pub kind_same : (k : PassKind) → kind_back (kind_of k) ≡ k
kind_same TopDown = refl
kind_same BottomUp = refl
kind_same InOrder = refl

pub map_back : {X Y : Type 0} (f : X → Y) (b : Y → X) → ((y : Y) → f (b y) ≡ y) → (ys : List Y) → map f (map b ys) ≡ ys
map_back f b same [] = refl
map_back f b same (y ∷ ys) = ap (λ x. x ∷ map f (map b ys)) (same y) ∙ ap (λ zs. y ∷ zs) (map_back f b same ys)

same_pass : (p : order.Pass) → pass_of (pass_back p) ≡ p
same_pass p = ap (λ (k : order.PassKind). record { kind = k; attributes = p.attributes }) (same_kind p.kind)

pass_same : (p : Pass) → pass_back (pass_of p) ≡ p
pass_same p = ap (λ (k : PassKind). record { kind = k; attrs = p.attrs }) (kind_same p.kind)

same_passes : (passes : List order.Pass) → map pass_of (map pass_back passes) ≡ passes
same_passes passes = map_back pass_of pass_back same_pass passes

stage_same : (s : Stage) → stage_back (map pass_of s.passes) ≡ s
stage_same s = ap (λ (passes : List Pass). record { passes = passes }) (map_back pass_back pass_of pass_same s.passes)

-- it stands for that schedule
pub same_schedule : (s : order.Schedule) → stages_of (schedule_back s) ≡ s
same_schedule s = map_back (λ (stage : Stage). map pass_of stage.passes) stage_back same_passes s

pub schedule_same : (s : Schedule) → schedule_back (stages_of s) ≡ s
schedule_same s =
    ap (λ (stages : List Stage). record { stages = stages })
    (map_back stage_back (λ (stage : Stage). map pass_of stage.passes) stage_same s.stages)
