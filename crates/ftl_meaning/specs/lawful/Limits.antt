-- How great the numbers of a grammar without a fault are at most.
use Rattle.std.specs.Prelude.{ℕ, ◌<◌, ◌≤◌, length}
use Rattle.ftl_model.specs.layout.Limits.{most_attributes, most_children, most_classes, most_interfaces, most_owner_attributes, most_part_reads}
use Rattle.ftl_model.specs.layout.AttributeGrammar.{AttributeGrammar, Part, RuleName, reads_in}
use Rattle.ftl_model.specs.layout.Solves.{rule_named}
use Rattle.ftl_order.specs.orders.Lawful.{IsRule}

-- it has no more of anything than a grammar may have
pub record IsWithinLimits (g : AttributeGrammar) : Type 0 where
  pub interfaces : g.interface_count ≤ most_interfaces
  pub classes : g.class_count ≤ most_classes
  pub attributes : g.attribute_count ≤ most_attributes
  pub shared : (i : ℕ) → i < g.interface_count → length (g.shared i) ≤ most_owner_attributes
  pub private : (k : ℕ) → k < g.class_count → length (g.private k) ≤ most_owner_attributes
  pub children : (k : ℕ) → k < g.class_count → g.child_count k ≤ most_children
  pub reads : (w : RuleName) (part : Part) → IsRule g w → length (reads_in (rule_named g w).parts part) ≤ most_part_reads
