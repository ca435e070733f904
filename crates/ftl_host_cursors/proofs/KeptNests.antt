-- The nests of the passes of a schedule.
use Rattle.std.proofs.Common.{◌≡◌, ℕ, refl, arith, Option, None, Some}
use Rattle.ftl_model.specs.layout.AttributeGrammar.{AttributeGrammar}
use Rattle.ftl_order.specs.orders.Schedule.{EachStandsOnce, entries}
use Rattle.ftl_items.proofs.stage_items.Passes.{many-append}
use Rattle.ftl_nests.specs.Nests.{Nest, NestingSchedule, host_of, inner_stages, nesting_pass, outer_schedule}
use Rattle.ftl_nests.proofs.FlatCounts.{at_most_all}
use Rattle.ftl_host_cursors.specs.HostLaws.{StandsAtMostOnce}

-- a nest without a host class is none
pub no_nest : (nest : Option Nest) → None ≡ host_of nest → nest ≡ None
no_nest None e = refl
no_nest (Some nest) e = absurd (let z : ⊥ = grind (arith, e) in z)

-- a nest of a schedule has each computed attribute at most once
pub few_inner : (g : AttributeGrammar) (s : NestingSchedule) → EachStandsOnce g (outer_schedule s) → (m n : ℕ)
    → StandsAtMostOnce g (inner_stages (nesting_pass s m n).nest)
few_inner g s once m n a known computed =
    let pass = nesting_pass s m n in
    let all = at_most_all a s m n in
    let one = once a known computed in
    let parts = many-append a pass.attributes (entries (inner_stages pass.nest)) in
    omega (arith, all, one, parts)
