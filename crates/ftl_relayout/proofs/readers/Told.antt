-- The node and the attribute that a key tells.
use Rattle.std.proofs.Common.{◌≡◌, ℕ, ◌<◌, sym, ap, ap₂, ◌∙◌, subst}
use Rattle.ftl_step_value.proofs.limits.reads.Entries.{attribute_in_range}
use Rattle.ftl_model.proofs.layout.Standing.{node_at-number_of}
use Rattle.ftl_model.specs.layout.Path.{class_at, node_at, number_of}
use Rattle.ftl_model.specs.layout.Solves.{Instance, instance_of}
use Rattle.ftl_model.specs.layout.Table.{instance_number}
use Rattle.ftl_model.specs.layout.Tree.{size}
use Rattle.ftl_model.specs.layout.TreeOf.{IsTreeOf}
use Rattle.ftl_order.specs.orders.Lawful.{OfClass}
use Rattle.ftl_relayout.specs.declared.readers.add.ReaderSite.{ReaderSite}
use Rattle.ftl_relayout.specs.laws.TreeNets.{instance_at}
use Rattle.ftl_relayout.specs.readers.Sites.{IsCellOfKey, IsReaderSite, IsTold, site_grammar, site_placing}
use Rattle.ftl_relayout.proofs.laws.Rising.{number_below}
use Rattle.ftl_relayout.proofs.laws.TreeNets.{cell_number, cell_valid}

pub told_here : (x : ReaderSite) → IsReaderSite x → IsTreeOf (site_grammar x) x.tree.now.tree → (cell key node a : ℕ)
    → IsCellOfKey x cell key → node ≡ number_of x.tree.now.tree (instance_at (site_grammar x) x.tree.now.tree cell).node
    → a ≡ (instance_at (site_grammar x) x.tree.now.tree cell).attribute → IsTold x cell node a
told_here x is fits cell key node a by node_is attribute_is =
    let g = site_grammar x in
    let t = x.tree.now.tree in
    let i = instance_at g t cell in
    let valid = cell_valid g is.law (site_placing x) t fits is.small cell by.below in
    let here : node_at t node ≡ i.node = ap (node_at t) node_is ∙ node_at-number_of t i.node valid.0 in
    let one : instance_of (node_at t node) a ≡ i = ap₂ instance_of here attribute_is in
    let known : node < size t =
    subst (λ n. n < size t) (sym node_is) (number_below g is.law (site_placing x) t fits i.node valid.0) in
    let of : OfClass g (class_at t (node_at t node)) a =
    subst (λ (j : Instance). OfClass g (class_at t j.node) j.attribute) (sym one) valid.1 in
    record {
      known = record {
        node_known = known;
        attribute_known = of;
        counted = attribute_in_range g is.law t fits node a known of;
      };
      instance = one;
      number = ap (instance_number g t) one ∙ cell_number g is.law (site_placing x) t fits is.small cell by.below;
    }
