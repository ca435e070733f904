-- The fields of a view of the values that a part's reads gave.
use Rattle.std.specs.Prelude.{◌≡◌, ◌<◌, List, length, map, Option}
use Rattle.ftl_model.specs.layout.AttributeGrammar.{seen_by}
use Rattle.ftl_model.specs.layout.Tree.{size}
use Rattle.ftl_model.specs.layout.Values.{Value}
use Rattle.ftl_order.specs.orders.Lawful.{EachMay}
use Rattle.ftl_deps.specs.parts.RuleParts.{read_meant}
use Rattle.ftl_visit.specs.step_reads.StepReads.{IsOfChildren, children_in, kids_in}
use Rattle.ftl_step_value.specs.value.Spread.{spread}
use Rattle.ftl_step_value.specs.declared.value.values.Sparse.TheInside.{Inside}

-- what each read gives
abbrev pub given_by : Inside → List (Option Value)
given_by s = spread (kids_in s.tree.now s.node) s.at_hand (map read_meant s.reads.now) s.values.now

-- the node is there, each read of the last kid is of one of its children, and there is a value for each read that is
-- of anything
pub record IsSparse (s : Inside) : Type 0 where
  pub node : s.node < size s.tree.now.tree
  pub children : EachMay (IsOfChildren (children_in s.tree.now s.node)) (map read_meant s.reads.now)
  pub long : length s.values.now
      ≡ length (seen_by (kids_in s.tree.now s.node) s.at_hand (map read_meant s.reads.now))
