-- Which cells are those of a node: so many from its first instance on as its class has attributes.
use Rattle.std.specs.Prelude.{ℕ, ◌+◌, ◌<◌, ◌≤◌}
use Rattle.ftl_model.specs.layout.AttributeGrammar.{AttributeGrammar}
use Rattle.ftl_model.specs.layout.Path.{node_at}
use Rattle.ftl_model.specs.layout.Table.{first_instance, width_at}
use Rattle.ftl_model.specs.layout.Tree.{Forest, size}

-- the cell is one of the node of this number
pub record IsCellOf (g : AttributeGrammar) (t : Forest) (node cell : ℕ) : Type 0 where
  pub known : node < size t
  pub from : first_instance g t (node_at t node) ≤ cell
  pub to : cell < first_instance g t (node_at t node) + width_at g t (node_at t node)
