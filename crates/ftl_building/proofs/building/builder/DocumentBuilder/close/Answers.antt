use Rattle.std.proofs.Common.{◌≡◌, ℕ, ◌-◌, ◌<◌, ◌≤◌, ap, refl, subst, sym, ◌∙◌}
use Rattle.std.proofs.Common.{length, ◌++◌, ◌∷◌}
use Rattle.ftl_building.specs.building.Calls.{closed}
use Rattle.ftl_building.specs.building.PartInside.{IsKept, part_inside}
use Rattle.ftl_building.specs.building.RowChanges.{nodes_of_row, with_below}
use Rattle.ftl_building.specs.building.RowsRead.{part_of_rows}
use Rattle.ftl_building.proofs.building.Closing.{at_within, open_there, row_closed, row_there}
use Rattle.ftl_building.proofs.building.Kept.{kept_at, view_at}
use Rattle.ftl_building.proofs.building.builder.DocumentBuilder.close.Goals as goal

pub index-requires : goal.index-requires
index-requires c =
    let i = c.self.inside in
    let q = c.args.self.now in
    let outer = c.pop.new.self in
    subst (λ n. c.in-Some.at < n) (sym i.rows.ok.0)
    (at_within q i.class c.in-Some.at outer i.rows.items i.levels i.nodes
    (open_there (part_inside i) q i.class i.places i.rows.items i.levels i.nodes c.in-Some.at outer c.self.view_is
    c.self.invariant c.in-Some.ensures.popped))

pub overflow_sub-self : goal.overflow_sub-self
overflow_sub-self c =
    let i = c.self.inside in
    let q = c.args.self.now in
    let at = c.in-Some.at in
    let outer = c.pop.new.self in
    let o = open_there (part_inside i) q i.class i.places i.rows.items i.levels i.nodes at outer c.self.view_is
    c.self.invariant c.in-Some.ensures.popped in
    let row = c.index.ensures ∙ row_there q i.class at outer i.rows.items i.levels i.nodes o c.index.result.now in
    subst (λ n. n ≤ i.levels) (sym (c.nodes_of_row.ensures.count ∙ ap nodes_of_row row)) o.levels

pub close_row-requires-clause-at : goal.close_row-requires-clause-at
close_row-requires-clause-at c =
    let i = c.self.inside in
    let q = c.args.self.now in
    let outer = c.pop.new.self in
    at_within q i.class c.in-Some.at outer i.rows.items i.levels i.nodes
    (open_there (part_inside i) q i.class i.places i.rows.items i.levels i.nodes c.in-Some.at outer c.self.view_is
    c.self.invariant c.in-Some.ensures.popped)

pub invariant_of-self : goal.invariant_of-self
invariant_of-self c =
    let i = c.self.inside in
    let q = c.args.self.now in
    let at = c.in-Some.at in
    let all = i.rows.items in
    let outer = c.pop.new.self in
    let new = c.close_row.new.rows.items in
    let o = open_there (part_inside i) q i.class i.places all i.levels i.nodes at outer c.self.view_is
    c.self.invariant c.in-Some.ensures.popped in
    let row = c.index.ensures ∙ row_there q i.class at outer all i.levels i.nodes o c.index.result.now in
    let rows = row_closed q i.class at outer all i.levels i.nodes o new c.close_row.ensures.closed in
    let count : c.nodes_of_row.result ≡ nodes_of_row o.row = c.nodes_of_row.ensures.count ∙ ap nodes_of_row row in
    subst (λ (n : ℕ). IsKept (part_of_rows i.class outer new) i.class outer new (i.levels - n) i.nodes) (sym count)
    (kept_at (closed q) i.class outer (o.before ++ (with_below (length o.inside) o.row ∷ o.inside))
    (i.levels - nodes_of_row o.row) i.nodes o.kept outer new refl rows)

pub returns-in-Some : goal.returns-in-Some
returns-in-Some c =
    let i = c.self.inside in
    let q = c.args.self.now in
    let at = c.in-Some.at in
    let all = i.rows.items in
    let outer = c.pop.new.self in
    let new = c.close_row.new.rows.items in
    let o = open_there (part_inside i) q i.class i.places all i.levels i.nodes at outer c.self.view_is
    c.self.invariant c.in-Some.ensures.popped in
    let rows = row_closed q i.class at outer all i.levels i.nodes o new c.close_row.ensures.closed in
    record {
      closed = view_at (closed q) i.class outer (o.before ++ (with_below (length o.inside) o.row ∷ o.inside))
          (i.levels - nodes_of_row o.row) i.nodes o.kept outer new refl rows;
    }
