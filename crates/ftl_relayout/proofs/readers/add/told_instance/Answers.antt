use Rattle.std.proofs.Common.{ℕ, ◌+◌, ◌*◌, sym}
use Rattle.ftl_model.specs.layout.Path.{number_of}
use Rattle.ftl_relayout.specs.keys.Keys.{tie_of, time_of}
use Rattle.ftl_relayout.specs.laws.TreeNets.{instance_at}
use Rattle.ftl_relayout.specs.readers.Sites.{site_grammar, site_placing}
use Rattle.ftl_relayout.proofs.laws.TreeNets.{cell_valid, digits}
use Rattle.ftl_relayout.proofs.readers.Told.{told_here}
use Rattle.ftl_relayout.proofs.readers.add.told_instance.Goals as goal

pub returns-clause-told : goal.returns-clause-told
returns-clause-told c = λ cell by.
    let x = c.args.site.now in
    let g = site_grammar x in
    let at = site_placing x in
    let t = x.tree.now.tree in
    let is = c.requires.site in
    let fits = c.node_count-nodes.ensures.is_tree in
    let i = instance_at g t cell in
    let d = digits g is.law at t fits is.small i (cell_valid g is.law at t fits is.small cell by.below) in
    let high : ℕ =
    (((at i.attribute).stage * 2097152 + time_of (at i.attribute).kind t (g.sort i.attribute) i.node) * 2097152
    + tie_of (at i.attribute).kind t (g.sort i.attribute) i.node) * 2097152 + (at i.attribute).index in
    told_here x is fits cell c.args.key c.told.result.0 c.told.result.1 by
    (c.told.ensures.node high (number_of t i.node) i.attribute d.node d.attribute (sym by.key_is))
    (c.told.ensures.attribute high (number_of t i.node) i.attribute d.node d.attribute (sym by.key_is))
