-- A schedule with nests that may be verified is one of the classes and attributes of its grammar.
use Rattle.std.proofs.Common.{◌≡◌, ℕ, ◌<◌, refl, sym, subst, ◌∙◌, ap, List, [], map, length, get_or, Option, Some, None, Contains}
use Rattle.std.specs.List.{All, flat_map}
use Rattle.std.specs.Option.{option_map}
use Rattle.std.specs.Prelude.{IfSome}
use Rattle.std.proofs.lemmas.List.{get_or-map}
use Rattle.std.proofs.lemmas.List.Elements.{All-contains_itself, Contains-append_left, Contains-append_right}
use Rattle.ftl_model.proofs.lists.Elements.{flat_map_has}
use Rattle.ftl_model.proofs.lists.Rising.{map_has}
use Rattle.ftl_meaning.specs.faults.Checked.{CheckedGrammar, all_attributes}
use Rattle.ftl_checked.proofs.lookup.AttrInfos.{attribute_count_is}
use Rattle.ftl_deps.specs.reads.Meant.{meant}
use Rattle.ftl_order.specs.orders.Schedule as order
use Rattle.ftl_order.specs.orders.Schedule.{entries}
use Rattle.ftl_schedule.specs.declared.stages.types.Pass.{Pass}
use Rattle.ftl_schedule.specs.declared.stages.types.Stage.{Stage}
use Rattle.ftl_schedule.specs.stages.Stages.{stages_of}
use Rattle.ftl_schedule.proofs.printing.Known.{each_of, entry_of_pass}
use Rattle.ftl_nests.specs.Nests as nests
use Rattle.ftl_nests.specs.Nests.{inner_stages, nesting_pass, no_pass, outer_schedule, whole_pass, whole_stage}
use Rattle.ftl_nest_check.specs.check.NestAccepted.{MayBeVerified}
use Rattle.ftl_nest_check.specs.stages.Known.{AreNestingStagesKnown, IsNestKnown, IsNestingPassKnown}
use Rattle.ftl_nest_check.specs.stages.Nested.{nest_of, nesting_pass_of, nests_of}
use Rattle.ftl_nest_check.specs.declared.stages.types.Nest.{Nest}
use Rattle.ftl_nest_check.specs.declared.stages.types.NestingPass.{NestingPass}
use Rattle.ftl_nest_check.specs.declared.stages.types.NestingStage.{NestingStage}
use Rattle.ftl_nest_check.specs.declared.stages.types.NestingSchedule.{NestingSchedule}

module _ (c : CheckedGrammar) (s : NestingSchedule) where
  abbrev stage_meant : NestingStage → List nests.NestingPass
  stage_meant t = map nesting_pass_of t.passes

  abbrev IsKnown : ℕ → Type 0
  IsKnown a = a < length (all_attributes c.grammar)

  -- an attribute of a pass with its nest is an entry of the outer schedule
  entry_of : (t : NestingStage) → Contains s.stages t → (p : NestingPass) → Contains t.passes p → (a : ℕ)
      → Contains (whole_pass (nesting_pass_of p)).attributes a → Contains (entries (outer_schedule (nests_of s))) a
  entry_of t stage p pass a there =
      flat_map_has (λ (ps : List order.Pass). flat_map (λ (q : order.Pass). q.attributes) ps)
      (outer_schedule (nests_of s)) (whole_stage (stage_meant t)) a
      (map_has whole_stage (nests_of s) (stage_meant t) (map_has stage_meant s.stages t stage))
      (flat_map_has (λ (q : order.Pass). q.attributes) (whole_stage (stage_meant t)) (whole_pass (nesting_pass_of p)) a
      (map_has whole_pass (stage_meant t) (nesting_pass_of p) (map_has nesting_pass_of t.passes p pass)) there)

  -- a nest whose attributes and host are known
  nest_known : (nest : Option Nest)
      → ((a : ℕ) → Contains (entries (inner_stages (option_map nest_of nest))) a → IsKnown a)
      → ((n : nests.Nest) → option_map nest_of nest ≡ Some n → n.host < (meant c).class_count)
      → IfSome nest (IsNestKnown c.grammar)
  nest_known None inner host = tt
  nest_known (Some nest) inner host = record {
    host = host (nest_of nest) refl;
    inner =
        each_of (λ (t : Stage). All (λ (q : Pass). All IsKnown q.attrs) t.passes) nest.inner.stages (λ t stage.
        each_of (λ (q : Pass). All IsKnown q.attrs) t.passes (λ q pass.
        each_of IsKnown q.attrs (λ a there. inner a (entry_of_pass nest.inner t stage q pass a there))));
  }

  -- the pass at a place
  pass_is : (m n : ℕ) (t : NestingStage) (p : NestingPass) → m < length s.stages
      → n < length (get_or s.stages m t).passes
      → nesting_pass (nests_of s) m n ≡ nesting_pass_of (get_or (get_or s.stages m t).passes n p)
  pass_is m n t p within there =
      ap (λ (ps : List nests.NestingPass). get_or ps n no_pass) (get_or-map stage_meant s.stages m t [] within)
      ∙ get_or-map nesting_pass_of (get_or s.stages m t).passes n p no_pass there

  pub stages_known : MayBeVerified (meant c) (nests_of s) → AreNestingStagesKnown c.grammar s.stages
  stages_known may m t within n p there =
      let stage = get_or s.stages m t in
      let pass = get_or stage.passes n p in
      let known : (a : ℕ) → Contains (whole_pass (nesting_pass_of pass)).attributes a → IsKnown a =
      λ a has.
      subst (λ k. a < k) (sym (attribute_count_is c.grammar))
      (may.computed a
      (entry_of stage (All-contains_itself s.stages m t within) pass (All-contains_itself stage.passes n p there) a
      has)).0 in
      let inner = entries (inner_stages (option_map nest_of pass.nest)) in
      record {
        attributes = each_of IsKnown pass.attrs (λ a has. known a (Contains-append_left pass.attrs inner a has));
        nest =
            nest_known pass.nest (λ a has. known a (Contains-append_right pass.attrs inner a has))
            (λ nest is.
            (may.kept.sides m n nest
            (ap (λ (q : nests.NestingPass). q.nest) (pass_is m n t p within there) ∙ is)).closed.known);
      }
