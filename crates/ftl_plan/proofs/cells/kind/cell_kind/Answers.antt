use Rattle.std.proofs.Common.{◌≡◌, ℕ, true, false, ap, ◌∙◌, sym}
use Rattle.ftl_model.specs.layout.AttributeGrammar.{Sort, is_input}
use Rattle.ftl_meaning.specs.faults.Checked.{CheckedGrammar}
use Rattle.ftl_deps.specs.reads.Meant.{meant}
use Rattle.ftl_order.specs.orders.Schedule.{SchedulePlace, placing_of}
use Rattle.ftl_items.specs.stage_items.StageWork.{kind_by, kind_by_stage}
use Rattle.ftl_nests.specs.Nests.{outer_schedule}
use Rattle.ftl_nest_check.specs.stages.Nested.{nests_of}
use Rattle.ftl_nest_check.specs.declared.stages.types.NestingSchedule.{NestingSchedule}
use Rattle.ftl_plan.proofs.cells.CellPlaces.{input_sort, kind_computed}
use Rattle.ftl_plan.proofs.cells.kind.cell_kind.Goals as goal

pub returns-then-is_input : goal.returns-then-is_input
returns-then-is_input c =
    let t = c.args.tree.now in
    let g = meant t.checked in
    let s = outer_schedule (nests_of c.args.accepted.now.schedule) in
    let a = c.attr_of_cell-attr.result in
    let is : is_input (g.sort a) ≡ true =
    ap (λ (x : CheckedGrammar). is_input ((meant x).sort a)) (sym c.checked.ensures.grammar)
    ∙ sym c.is_input.ensures.input
    ∙ c.if-is_input.true in
    record {
      kind =
          sym
          (ap (λ (b : ℕ). kind_by (g.sort b) (placing_of s b).stage c.args.stage) (sym c.attr_of_cell-attr.ensures.attr)
          ∙ ap (λ (x : Sort). kind_by x (placing_of s a).stage c.args.stage) (input_sort (g.sort a) is));
    }

pub returns : goal.returns
returns c =
    let t = c.args.tree.now in
    let g = meant t.checked in
    let s = outer_schedule (nests_of c.args.accepted.now.schedule) in
    let a = c.attr_of_cell-attr.result in
    let is : is_input (g.sort a) ≡ false =
    ap (λ (x : CheckedGrammar). is_input ((meant x).sort a)) (sym c.checked.ensures.grammar)
    ∙ sym c.is_input.ensures.input
    ∙ c.if-is_input.false in
    record {
      kind =
          c.kind_by_stage.ensures.kind
          ∙ ap (λ (x : SchedulePlace). kind_by_stage x.stage c.args.stage) c.outer.ensures.place
          ∙ ap (λ (x : NestingSchedule). kind_by_stage (placing_of (outer_schedule (nests_of x)) a).stage c.args.stage)
          c.placed.ensures.schedule
          ∙ sym
          (ap (λ (b : ℕ). kind_by (g.sort b) (placing_of s b).stage c.args.stage) (sym c.attr_of_cell-attr.ensures.attr)
          ∙ kind_computed (g.sort a) (placing_of s a).stage c.args.stage is);
    }
