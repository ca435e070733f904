use Rattle.std.proofs.Common.{◌≡◌, ap, arith, get_or, ◌∙◌}
use Rattle.ftl_model.specs.layout.Tree.{size}
use Rattle.ftl_deps.specs.reads.Meant.{meant}
use Rattle.ftl_tree.proofs.rows.Starts.{last_instance}
use Rattle.ftl_tree.proofs.trees.Known.{known, length_first_instances, length_rows}
use Rattle.ftl_tree.proofs.trees.tree.Tree.instance_count.Goals as goal

pub index-requires : goal.index-requires
index-requires c =
    let k = known c.self.inside c.args.self.now c.self.invariant c.self.view_is in
    omega (arith, length_first_instances c.self.inside c.args.self.now k, length_rows c.self.inside c.args.self.now k, c.len.ensures)

pub returns-clause-count : goal.returns-clause-count
returns-clause-count c =
    let i = c.self.inside in
    let t = c.args.self.now in
    let k = known i t c.self.invariant c.self.view_is in
    let nodes : c.len.result ≡ size t.tree = omega (arith, c.len.ensures, length_rows i t k) in
    c.index.ensures
    ∙ ap (λ n. get_or i.first_instances.items n c.index.result.now) nodes
    ∙ last_instance (meant t.checked) t.tree i.rows.items i.first_instances.items c.index.result.now k.rows.is_tree k.rows.rows_are k.first_instances

pub returns-clause-bound : goal.returns-clause-bound
returns-clause-bound c =
    let i = c.self.inside in
    let t = c.args.self.now in
    let k = known i t c.self.invariant c.self.view_is in
    let nodes : c.len.result ≡ size t.tree = omega (arith, c.len.ensures, length_rows i t k) in
    let is = c.index.ensures
    ∙ ap (λ n. get_or i.first_instances.items n c.index.result.now) nodes
    ∙ last_instance (meant t.checked) t.tree i.rows.items i.first_instances.items c.index.result.now k.rows.is_tree k.rows.rows_are k.first_instances in
    omega (arith, is, k.rows.few_instances)
