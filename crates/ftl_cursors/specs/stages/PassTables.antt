-- What the tables of passes hold.
use Rattle.std.specs.Prelude.{◌≡◌, List, map}
use Rattle.ftl_model.specs.layout.AttributeGrammar.{AttributeGrammar}
use Rattle.ftl_cursors.specs.sequence.BlockPlaces.{places_of}
use Rattle.ftl_cursors.specs.declared.sequence.block_places.BlockPlaces.{BlockPlaces}
use Rattle.ftl_schedule.specs.declared.stages.types.Pass.{Pass}
use Rattle.ftl_visit.specs.declared.visits.visit_op.VisitOp.{VisitOp}
use Rattle.ftl_visit.specs.passes.VisitRows.{visits_of}
use Rattle.ftl_cursors.specs.declared.stages.tables.PassTables.{PassTables}

-- the visits of all classes in a pass
abbrev pub pass_visits : AttributeGrammar → Pass → List (List VisitOp)
pass_visits g pass = visits_of g pass.kind pass.attrs

-- where the blocks of children stand in them
abbrev pub pass_places : AttributeGrammar → Pass → List (List BlockPlaces)
pass_places g pass = places_of (pass_visits g pass)

-- of each pass the visits, and where the blocks of children stand in them
pub record ArePassTables (g : AttributeGrammar) (passes : List Pass) (tables : PassTables) : Type 0 where
  pub visits : tables.visits.items ≡ map (pass_visits g) passes
  pub places : tables.places.items ≡ map (pass_places g) passes
