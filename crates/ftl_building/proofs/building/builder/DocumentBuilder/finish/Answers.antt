use Rattle.std.proofs.Common.{ap₂, ◌∙◌}
use Rattle.ftl_document.specs.syntax.Rows.{document_rows}
use Rattle.ftl_building.specs.building.PartDocument.{document_so_far}
use Rattle.ftl_building.specs.building.PartInside.{part_inside}
use Rattle.ftl_building.proofs.building.Closing.{whole_rows}
use Rattle.ftl_building.proofs.building.Kept.{kept_of}
use Rattle.ftl_building.proofs.building.builder.DocumentBuilder.finish.Goals as goal

pub returns-clause-rows : goal.returns-clause-rows
returns-clause-rows c =
    let i = c.self.inside in
    let q = c.args.self in
    ap₂ document_rows c.new.ensures.class c.new.ensures.rows
    ∙ (whole_rows q i.class i.places i.rows.items i.levels i.nodes
    (kept_of (part_inside i) q i.class i.places i.rows.items i.levels i.nodes c.self.view_is c.self.invariant)
    c.requires.whole).0

pub returns-clause-written : goal.returns-clause-written
returns-clause-written c =
    let i = c.self.inside in
    let q = c.args.self in
    let both = whole_rows q i.class i.places i.rows.items i.levels i.nodes
    (kept_of (part_inside i) q i.class i.places i.rows.items i.levels i.nodes c.self.view_is c.self.invariant)
    c.requires.whole in
    record {
      node = document_so_far q;
      is = ap₂ document_rows c.new.ensures.class c.new.ensures.rows ∙ both.0;
      few = both.1;
    }
