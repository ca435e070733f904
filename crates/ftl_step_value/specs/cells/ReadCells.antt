-- The cells that steps read and fill: the numbers of their instances.
use Rattle.std.specs.Prelude.{ℕ, List, map}
use Rattle.ftl_model.specs.layout.AttributeGrammar.{AttributeGrammar}
use Rattle.ftl_model.specs.layout.Table.{instance_number}
use Rattle.ftl_model.specs.layout.Tree.{Forest}
use Rattle.ftl_order.specs.orders.Reads.{reads_of}
use Rattle.ftl_order.specs.steps.Steps.{target_of}
use Rattle.ftl_order.specs.declared.steps.step.Step.{Step}

-- the cell that a step fills
abbrev pub filled_cell : AttributeGrammar → Forest → Step → ℕ
filled_cell g t x = instance_number g t (target_of g t x)

-- the cells that a step reads, in order, each as often as it is read
abbrev pub read_cells : AttributeGrammar → Forest → Step → List ℕ
read_cells g t x = map (instance_number g t) (reads_of g t (target_of g t x))
