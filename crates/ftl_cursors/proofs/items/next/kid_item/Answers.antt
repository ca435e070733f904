use Rattle.std.proofs.Common.{ap, ◌∙◌, arith, get_or}
use Rattle.std.proofs.lemmas.List.Elements.{Contains-get_or}
use Rattle.ftl_model.specs.layout.Path.{node_at}
use Rattle.ftl_deps.specs.reads.Meant.{meant}
use Rattle.ftl_items.specs.numbers.ItemNumbers.{items_before_by}
use Rattle.ftl_items.proofs.numbers.NextCounts.{kid_known}
use Rattle.ftl_tree.proofs.rows.Access.{size-one}
use Rattle.ftl_cursors.specs.items.RowsCut.{is_whole_in}
use Rattle.ftl_cursors.specs.items.StageItems.{kids_of}
use Rattle.ftl_cursors.proofs.items.RowFacts.{before_at, length-before}
use Rattle.ftl_cursors.proofs.items.next.kid_item.Goals as goal

pub index-requires : goal.index-requires
index-requires c =
    let s = c.args.rows.now in
    let t = s.tree.now in
    let g = meant t.checked in
    let fits = c.node_count-nodes.ensures.is_tree in
    let kid = c.kid_at.ensures.kid in
    let low =
    kid_known g t.tree fits (node_at t.tree c.args.node) (get_or (kids_of t c.args.node) c.args.place 0)
    (Contains-get_or (kids_of t c.args.node) c.args.place 0 c.requires.place) in
    let one = size-one g t.tree fits in
    let len = length-before (is_whole_in s) t.tree s.firsts.items s.before.items s.fit in
    omega (arith, kid, low, one, len)

pub returns : goal.returns
returns c =
    let s = c.args.rows.now in
    let t = s.tree.now in
    let g = meant t.checked in
    let fits = c.node_count-nodes.ensures.is_tree in
    let kid = c.kid_at.ensures.kid in
    let low =
    kid_known g t.tree fits (node_at t.tree c.args.node) (get_or (kids_of t c.args.node) c.args.place 0)
    (Contains-get_or (kids_of t c.args.node) c.args.place 0 c.requires.place) in
    let one = size-one g t.tree fits in
    record {
      item =
          c.index.ensures
          ∙ before_at (is_whole_in s) t.tree s.firsts.items s.before.items s.fit c.kid_at.result c.index.result.now
          (omega (arith, kid, low, one))
          ∙ ap (items_before_by (is_whole_in s) t.tree) kid;
    }
