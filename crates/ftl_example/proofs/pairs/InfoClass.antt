-- The class of a rule by what is known of it.
use Rattle.std.proofs.Common.{◌≡◌, ℕ, Option, Some, None, refl}
use Rattle.ftl_order.specs.orders.Lawful.{class_of_rule}
use Rattle.ftl_meaning.specs.declared.faults.info.RuleInfo.{RuleInfo}
use Rattle.ftl_deps.specs.reads.Products.{name_of_child, name_of_info}

class_by : (k a : ℕ) (o : Option ℕ) → class_of_rule (name_of_child k a o) ≡ k
class_by k a None = refl
class_by k a (Some c) = refl

pub class_is : (i : RuleInfo) → class_of_rule (name_of_info i) ≡ i.class
class_is i = class_by i.class i.attr i.child
