-- A stage is lawful work.
use Rattle.std.proofs.Common.{ℕ, List, length}
use Rattle.ftl_cells.specs.shared.Shape.{IsLawfulWorkShape}
use Rattle.ftl_model.specs.layout.AttributeGrammar.{AttributeGrammar}
use Rattle.ftl_model.specs.layout.Tree.{Forest}
use Rattle.ftl_model.specs.layout.TreeOf.{IsTreeOf}
use Rattle.ftl_model.specs.layout.Values.{Value}
use Rattle.ftl_order.specs.orders.Lawful.{IsLawful}
use Rattle.ftl_order.specs.orders.Ordered.{IsOrdered}
use Rattle.ftl_order.specs.orders.Schedule.{Schedule}
use Rattle.ftl_items.specs.stage_items.Items.{form_of, passes_of}
use Rattle.ftl_items.specs.stage_items.StageWork.{kind_of, stage_work}
use Rattle.ftl_items.specs.stage_items.WorkLaws.{IsWithinLimits}
use Rattle.ftl_items.proofs.stage_items.FormWork.{form_lawful_shape}
use Rattle.ftl_items.proofs.stage_items.StageForms.{place, stage_forms, step_of}

pub lawful_shape : (g : AttributeGrammar) (s : Schedule) (t : Forest) → IsLawful g → IsOrdered g s → IsTreeOf g t
    → (grain stage : ℕ) (solution : List Value) (max_reads max_stack : ℕ)
    → IsWithinLimits g s t grain stage solution max_reads
    → IsLawfulWorkShape (stage_work g s t grain stage solution max_reads max_stack)
lawful_shape g s t law ordered fits grain stage solution max_reads max_stack limits =
    form_lawful_shape g t law fits (length (passes_of s stage)) (form_of g s stage t grain) (kind_of g s stage) (place g)
    (stage_forms g s t law ordered fits grain stage) solution max_reads max_stack
    (record {
      values = limits.values;
      cells = limits.cells;
      items = limits.items;
      reads = λ m i of.
          let own = step_of g s t law ordered fits grain stage m i of in
          limits.reads i own.step own.pass.0;
      few = limits.few;
    })
