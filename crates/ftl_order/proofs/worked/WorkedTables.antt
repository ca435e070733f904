-- The worked tables solve: each instance stands in the list of instances, and the equation of each holds.
use Rattle.std.proofs.Common.{◌≡◌}
use Rattle.std.specs.List.{AllByRecursion}
use Rattle.ftl_model.proofs.lists.Elements.{each_in}
use Rattle.ftl_model.specs.layout.AttributeGrammar.{AttributeGrammar}
use Rattle.ftl_model.specs.layout.Solves.{Instance, Solves, equation_value}
use Rattle.ftl_model.specs.layout.Table.{instances}
use Rattle.ftl_model.specs.layout.Tree.{Forest}
use Rattle.ftl_model.specs.layout.Values.{Value}
use Rattle.ftl_order.proofs.orders.Instances.{is_listed_instance}

pub solves_by_each : (g : AttributeGrammar) (t : Forest) (s : Instance → Value)
    → AllByRecursion (λ i. s i ≡ equation_value g t s (g.sort i.attribute) i.node i.attribute) (instances g t)
    → Solves g t s
solves_by_each g t s h i valid =
    each_in (λ i. s i ≡ equation_value g t s (g.sort i.attribute) i.node i.attribute) (instances g t) h i
    (is_listed_instance g t i valid)
