use Rattle.std.proofs.Common.{subst, sym}
use Rattle.std.proofs.lemmas.Result.{IfOk-weaker}
use Rattle.ftl_meaning.specs.faults.Checked.{CheckedGrammar}
use Rattle.ftl_deps.specs.reads.Meant.{meant}
use Rattle.ftl_step_value.specs.limits.reads.ReadTables.{AreTables, IsSound}
use Rattle.ftl_nest_check.specs.stages.Nested.{nests_of}
use Rattle.ftl_nests.specs.Nests.{outer_schedule}
use Rattle.ftl_plan.specs.plans.FilledStages.{AreSetForNodes, TellFilling}
use Rattle.ftl_plan.specs.plans.Planned.{PlanMeaning}
use Rattle.ftl_plan.proofs.plans.Leaving.{told}
use Rattle.ftl_plan.proofs.plans.plan.Plan.filling_stages.Goals as goal

pub marks_for_nodes-requires-clause-sound : goal.marks_for_nodes-requires-clause-sound
marks_for_nodes-requires-clause-sound c =
    subst (λ (x : CheckedGrammar). IsSound (meant x)) (sym c.self.invariant.tree) c.self.invariant.sound

pub marks_for_nodes-requires-clause-tables : goal.marks_for_nodes-requires-clause-tables
marks_for_nodes-requires-clause-tables c =
    subst (λ (x : CheckedGrammar). AreTables (meant x) c.self.inside.tables) (sym c.self.invariant.tree)
    c.self.invariant.tables

pub returns : goal.returns
returns c =
    let t = c.self.inside.tree.now in
    let s = outer_schedule (nests_of c.self.inside.accepted.now.schedule) in
    let n = c.stage_count-count.result in
    let p = c.args.self.now in
    record {
      told =
          IfOk-weaker c.marks_for_nodes.result (λ v. AreSetForNodes (meant t.checked) s t.tree n v.items)
          (λ v. TellFilling p v.items)
          (λ v set.
          told p n v.items c.stage_count-count.ensures.plan c.stage_count-count.ensures.count
          (subst
          (λ (q : PlanMeaning). AreSetForNodes (meant q.checked) (outer_schedule (nests_of q.schedule)) q.tree n v.items)
          c.self.view_is
          (subst (λ (x : CheckedGrammar). AreSetForNodes (meant x) s t.tree n v.items) c.self.invariant.tree set)))
          c.marks_for_nodes.ensures.marks;
    }
