-- In a tree of a noncircular grammar chains of reads have fewer reads than there are instances.
use Rattle.ftl_model.specs.layout.AttributeGrammar.{AttributeGrammar}
use Rattle.ftl_model.specs.layout.Table.{instance_count}
use Rattle.ftl_model.specs.layout.Tree.{Forest}
use Rattle.ftl_model.specs.layout.TreeOf.{IsTreeOf}
use Rattle.ftl_order.specs.orders.Lawful.{IsLawful}
use Rattle.ftl_order.specs.orders.Reads.{ReadsEnd}
use Rattle.ftl_noncircular.specs.grammars.Noncircular.{Dependence, Family, HasNoCircle, IsClosed, IsNoncircular}
use Rattle.ftl_noncircular.proofs.grammars.Ending.{chains_are_short}
use Rattle.ftl_noncircular.proofs.grammars.Found.{dependence_is_closed}
use Rattle.ftl_noncircular.proofs.grammars.Within.{each_ends}

-- by any closed family without circular vertices
pub reads_end_by_family : (g : AttributeGrammar) (family : Family) → HasNoCircle g family → IsClosed g family
    → IsLawful g → (t : Forest) → IsTreeOf g t → ReadsEnd g t (λ i. instance_count g t)
reads_end_by_family g family no_circle closed law t fits i valid =
    chains_are_short g law t fits (each_ends g law t fits family no_circle closed) i valid

-- by the least one
pub reads_end : (g : AttributeGrammar) (t : Forest) → IsLawful g → IsNoncircular g → IsTreeOf g t
    → ReadsEnd g t (λ i. instance_count g t)
reads_end g t law noncircular fits =
    reads_end_by_family g (Dependence g) noncircular (dependence_is_closed g) law t fits
