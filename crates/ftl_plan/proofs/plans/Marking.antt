-- Marks that are set one after the other.
use Rattle.std.proofs.Common.{◌≡◌, ℕ, zero, suc, ◌+◌, ◌<◌, Bool, true, false, refl, sym, ◌∙◌, ap, subst, arith, ⊎_elim, List, [], ◌∷◌, Contains, get_or, length, set, take}
use Rattle.std.proofs.lemmas.Bool.{cases_eq}
use Rattle.std.proofs.lemmas.List.{get_or-set_same, take_more}
use Rattle.std.proofs.lemmas.List.Elements.{Contains-append_cases}
use Rattle.ftl_model.proofs.lists.Elements.{in_cases, nothing_in}
use Rattle.ftl_model.specs.layout.Path.{class_at, node_at}
use Rattle.ftl_model.specs.layout.Tree.{Forest}
use Rattle.ftl_order.specs.orders.Schedule.{Schedule, stage_of}
use Rattle.ftl_plan.specs.plans.FilledStages.{AreClassesSet, AreStagesSet, IsSet, StaySet}

-- what was set is, when another mark is
pub stay_set : (marks : List Bool) (i : ℕ) → StaySet marks (set marks i true)
stay_set [] i n is = is
stay_set (b ∷ marks) zero zero is = refl
stay_set (b ∷ marks) zero (suc n) is = is
stay_set (b ∷ marks) (suc i) zero is = is
stay_set (b ∷ marks) (suc i) (suc n) is = stay_set marks i n is

-- and so is that mark
pub now_set : (marks : List Bool) (i : ℕ) → i < length marks → IsSet (set marks i true) i
now_set marks i known = get_or-set_same marks i true false known

-- the class of one node more
pub classes_next : (t : Forest) (node class : ℕ) (marks : List Bool) → AreClassesSet t node marks
    → class ≡ class_at t (node_at t node) → class < length marks → AreClassesSet t (node + 1) (set marks class true)
classes_next t node class marks before is known = λ n below.
    ⊎_elim
    (λ same.
    subst (IsSet (set marks class true)) (is ∙ ap (λ m. class_at t (node_at t m)) (sym same))
    (now_set marks class known))
    (λ other. stay_set marks class (class_at t (node_at t n)) (before n (omega (arith, below, other))))
    (cases_eq n node)

-- marks that are set for attributes stay so
pub stages_stay : (s : Schedule) (attrs : List ℕ) (old new : List Bool) → length new ≡ length old → StaySet old new
    → AreStagesSet s attrs old → AreStagesSet s attrs new
stages_stay s attrs old new long stay before = λ a h known.
    stay (stage_of s a) (before a h (omega (arith, known, long)))

-- the stage of one attribute more
pub stages_next : (s : Schedule) (attrs : List ℕ) (k : ℕ) (old new : List Bool) → k < length attrs
    → length new ≡ length old → StaySet old new → AreStagesSet s (take k attrs) old
    → (stage_of s (get_or attrs k 0) < length new → IsSet new (stage_of s (get_or attrs k 0)))
    → AreStagesSet s (take (k + 1) attrs) new
stages_next s attrs k old new known long stay before here = λ b h within.
    ⊎_elim (λ early. stages_stay s (take k attrs) old new long stay before b early within)
    (λ late.
    ⊎_elim
    (λ (same : get_or attrs k 0 ≡ b).
    subst (λ c. stage_of s c < length new → IsSet new (stage_of s c)) same here within)
    (λ none. absurd (nothing_in b none))
    (in_cases (get_or attrs k 0) b [] late))
    (Contains-append_cases (take k attrs) (get_or attrs k 0 ∷ []) b
    (subst (λ xs. Contains xs b) (take_more attrs k 0 known) h))
