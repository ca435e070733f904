-- Rules that stand class by class.
use Rattle.std.proofs.Common.{ℕ, ◌≤◌, List, Contains}
use Rattle.std.specs.List.{AllByRecursion}
use Rattle.ftl_model.proofs.lists.Elements.{each_in}
use Rattle.ftl_model.specs.layout.AttributeGrammar.{RuleName}
use Rattle.ftl_order.specs.orders.Lawful.{class_of_rule}

-- each of these rules is of this class or a later one
pub ordered_by_class : (k : ℕ) (ws : List RuleName) → AllByRecursion (λ w. k ≤ class_of_rule w) ws
    → (w : RuleName) → Contains ws w → k ≤ class_of_rule w
ordered_by_class k ws h = each_in (λ w. k ≤ class_of_rule w) ws h
