-- The attributes of a schedule are those of the grammar where its entries are computed.
use Rattle.std.proofs.Common.{ℕ, ◌<◌, sym, subst, List, map, flat_map, Contains}
use Rattle.std.specs.List.{All}
use Rattle.std.proofs.lemmas.List.Elements.{All-contains_itself}
use Rattle.ftl_model.proofs.lists.Elements.{flat_map_has}
use Rattle.ftl_model.proofs.lists.Rising.{map_has}
use Rattle.ftl_meaning.specs.faults.Checked.{CheckedGrammar}
use Rattle.ftl_checked.proofs.lookup.AttrInfos.{attribute_count_is}
use Rattle.ftl_deps.specs.reads.Meant.{meant}
use Rattle.ftl_order.specs.orders.Schedule as order
use Rattle.ftl_order.specs.orders.Schedule.{entries}
use Rattle.ftl_order.specs.faults.FaultLaws.{AreComputed}
use Rattle.ftl_schedule.specs.stages.Stages.{pass_of, stages_of}
use Rattle.ftl_schedule.specs.declared.stages.types.Pass.{Pass}
use Rattle.ftl_schedule.specs.declared.stages.types.Stage.{Stage}
use Rattle.ftl_schedule.specs.declared.stages.types.Schedule.{Schedule}
use Rattle.ftl_schedule.specs.printing.WrittenOf.{AreStagesKnown}

-- what holds of all that a list has
pub each_of : {X : Type 0} (P : X → Type 0) (xs : List X) → ((x : X) → Contains xs x → P x) → All P xs
each_of P xs holds k d within = holds _ (All-contains_itself xs k d within)

-- an attribute of a pass is an entry of its schedule
pub entry_of_pass : (s : Schedule) (t : Stage) → Contains s.stages t → (p : Pass) → Contains t.passes p
    → (a : ℕ) → Contains p.attrs a → Contains (entries (stages_of s)) a
entry_of_pass s t stage p pass a there =
    flat_map_has (λ (ps : List order.Pass). flat_map (λ (q : order.Pass). q.attributes) ps)
    (map (λ (u : Stage). map pass_of u.passes) s.stages) (map pass_of t.passes) a
    (map_has (λ (u : Stage). map pass_of u.passes) s.stages t stage)
    (flat_map_has (λ (q : order.Pass). q.attributes) (map pass_of t.passes) (pass_of p) a
    (map_has pass_of t.passes p pass) there)

-- computed attributes are attributes of the grammar
pub computed_known : (c : CheckedGrammar) (s : Schedule) → AreComputed (meant c) (stages_of s)
    → AreStagesKnown c.grammar s.stages
computed_known c s computed =
    each_of _ s.stages (λ t stage.
    each_of _ t.passes (λ p pass.
    each_of _ p.attrs (λ a there.
    subst (λ n. a < n) (sym (attribute_count_is c.grammar)) (computed a (entry_of_pass s t stage p pass a there)).0)))
