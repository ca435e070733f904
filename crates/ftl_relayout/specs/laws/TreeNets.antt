-- The instances of a tree as cells that are computed from one another.
use Rattle.std.specs.Prelude.{ℕ, ◌+◌, ◌<◌, ◌≤◌, not, map, slice_index_or}
use Rattle.ftl_model.specs.layout.AttributeGrammar.{AttributeGrammar, Parts, first_then, fold_over, is_input, plain}
use Rattle.ftl_model.specs.layout.Path.{kids_at, top}
use Rattle.ftl_model.specs.layout.Solves.{Instance, equation_value, instance_of, rule_node, rule_of}
use Rattle.ftl_model.specs.layout.Table.{instance_count, instance_number, instances}
use Rattle.ftl_model.specs.layout.Tree.{Forest, size}
use Rattle.ftl_order.specs.orders.Reads.{reads_of}
use Rattle.ftl_order.specs.orders.Schedule.{Placing}
use Rattle.ftl_relayout.specs.queue.Nets.{Net}
use Rattle.ftl_relayout.specs.keys.Keys.{key_of}

-- the instance of this number
abbrev pub instance_at : AttributeGrammar → Forest → ℕ → Instance
instance_at g t k = slice_index_or (instances g t) k (instance_of top 0)

-- one, and for a fold one more for each kid
abbrev pub parts_cost : Parts → (ℕ → ℕ) → ℕ
parts_cost (plain reads) kids = 1
parts_cost (first_then first later) kids = 1
parts_cost (fold_over c start step) kids = 1 + kids c

-- what an instance costs
abbrev pub cost_at : AttributeGrammar → Forest → Instance → ℕ
cost_at g t i =
    parts_cost (rule_of g t (g.sort i.attribute) i.node i.attribute).parts
    (kids_at t (rule_node (g.sort i.attribute) i.node))

-- the instances as cells, by number
abbrev pub net_of : AttributeGrammar → Placing → Forest → Net
net_of g at t =
    record {
      cells = instance_count g t;
      is_step = λ k. not (is_input (g.sort (instance_at g t k).attribute));
      reads = λ k. map (instance_number g t) (reads_of g t (instance_at g t k));
      value = λ v k.
          equation_value g t (λ i. v (instance_number g t i)) (g.sort (instance_at g t k).attribute)
          (instance_at g t k).node (instance_at g t k).attribute;
      key = λ k. key_of g at t (instance_at g t k);
      cost = λ k. cost_at g t (instance_at g t k);
    }

-- digits of keys are below 2 ^ 21
pub record HasSmallKeys (g : AttributeGrammar) (at : Placing) (t : Forest) : Type 0 where
  pub nodes : size t ≤ 1048576
  pub attributes : g.attribute_count ≤ 2048
  pub stages : (a : ℕ) → (at a).stage < 2097152
  pub places : (a : ℕ) → (at a).index < 2097152
