use Rattle.std.proofs.Common.{◌<◌, ap, nat_eq, subst, sym, ◌∙◌}
use Rattle.ftl_building.specs.building.PartInside.{part_inside}
use Rattle.ftl_building.specs.building.RowChanges.{nodes_of_row}
use Rattle.ftl_building.proofs.building.Closing.{at_within, innermost_first, open_there, rest_of, row_there}
use Rattle.ftl_building.proofs.building.builder.DocumentBuilder.is_in_node.Goals as goal

pub index-requires : goal.index-requires
index-requires c =
    let i = c.self.inside in
    let q = c.args.self.now in
    let at = c.in-Some.at in
    let outer = rest_of i.places in
    subst (λ n. at < n) (sym i.rows.ok.0)
    (at_within q i.class at outer i.rows.items i.levels i.nodes
    (open_there (part_inside i) q i.class i.places i.rows.items i.levels i.nodes at outer c.self.view_is c.self.invariant
    (innermost_first i.places at c.in-Some.ensures.first)))

pub returns-in-Some : goal.returns-in-Some
returns-in-Some c =
    let i = c.self.inside in
    let q = c.args.self.now in
    let at = c.in-Some.at in
    let outer = rest_of i.places in
    let o = open_there (part_inside i) q i.class i.places i.rows.items i.levels i.nodes at outer c.self.view_is
    c.self.invariant (innermost_first i.places at c.in-Some.ensures.first) in
    let row = c.index.ensures ∙ row_there q i.class at outer i.rows.items i.levels i.nodes o c.index.result.now in
    record { node = ap (λ k. nat_eq k 1) (c.nodes_of_row.ensures.count ∙ ap nodes_of_row row) ∙ o.kind }
