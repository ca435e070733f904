-- A schedule in which no pass nests another is that of its outer stages.
use Rattle.std.proofs.Common.{◌≡◌, ℕ, Bool, true, false, if◌then◌else◌, refl, sym, ap, ap₂, List, [], ◌∷◌, Option, Some, None}
use Rattle.std.specs.List.{list_any}
use Rattle.std.specs.Option.{is_some}
use Rattle.std.proofs.lemmas.Bool.{or_parts}
use Rattle.std.proofs.lemmas.List.{append-nil}
use Rattle.ftl_order.specs.orders.Schedule.{PassKind, Schedule}
use Rattle.ftl_nests.specs.Flat.{flat_schedule, plain, plain_pass, plain_stage}
use Rattle.ftl_nests.specs.Nests.{Nest, NestingPass, NestingSchedule, outer_schedule, whole_pass, whole_stage}
use Rattle.ftl_nest_check.specs.check.WithoutNests.{has_nest, has_nests, without_nests}

pass_plain : (kind : PassKind) (own : List ℕ) (nest : Option Nest) → is_some nest ≡ false
    → (record { kind = kind; attributes = own; nest = nest })
    ≡ plain_pass (whole_pass (record { kind = kind; attributes = own; nest = nest }))
pass_plain kind own None none =
    ap (λ (xs : List ℕ). record { kind = kind; attributes = xs; nest = None }) (sym (append-nil own))
pass_plain kind own (Some nest) none = absurd cc

stage_plain : (passes : List NestingPass) → list_any has_nest passes ≡ false
    → passes ≡ plain_stage (whole_stage passes)
stage_plain [] none = refl
stage_plain (pass ∷ passes) none =
    let both = or_parts (has_nest pass) (list_any has_nest passes) none in
    ap₂ (λ (x : NestingPass) xs. x ∷ xs) (pass_plain pass.kind pass.attributes pass.nest both.0)
    (stage_plain passes both.1)

pub nothing_nested : (s : NestingSchedule) → has_nests s ≡ false → s ≡ plain (outer_schedule s)
nothing_nested [] none = refl
nothing_nested (passes ∷ s) none =
    let both = or_parts (list_any has_nest passes) (has_nests s) none in
    ap₂ (λ (x : List NestingPass) xs. x ∷ xs) (stage_plain passes both.0) (nothing_nested s both.1)

-- ---- so what holds of the schedule with each pass alone, and of one that nests nothing, holds without nests

by_test : (b : Bool) (P : Schedule → Type 0) (one other : Schedule) → P one → (b ≡ false → P other)
    → P (if b then one else other)
by_test true P one other first rest = first
by_test false P one other first rest = rest refl

pub without : (P : Schedule → Type 0) (s : NestingSchedule) → P (flat_schedule s)
    → (s ≡ plain (outer_schedule s) → P (outer_schedule s)) → P (without_nests s)
without P s flat outer =
    by_test (has_nests s) P (flat_schedule s) (outer_schedule s) flat (λ none. outer (nothing_nested s none))
