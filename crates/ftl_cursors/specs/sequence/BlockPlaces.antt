-- Where the blocks of children stand in a visit.
use Rattle.std.specs.Prelude.{ℕ, suc, List, [], ◌∷◌, map}
use Rattle.ftl_visit.specs.declared.visits.visit_op.VisitOp.{VisitOp}
use Rattle.ftl_visit.specs.declared.visits.visit_op.VisitOp.TheVariants.{Begin, Rule, Visit}
use Rattle.ftl_cursors.specs.declared.sequence.block_places.BlockPlaces.{BlockPlaces}

-- the places of the blocks that end in these operations, which stand from this place on, where the last block begins
abbrev pub places_from : (place begin : ℕ) → List VisitOp → List BlockPlaces
places_from n b [] = []
places_from n b (Rule r ∷ ops) = places_from (suc n) b ops
places_from n b (Begin c ∷ ops) = places_from (suc n) n ops
places_from n b (Visit c ∷ ops) = record { begin = b; visit = n } ∷ places_from (suc n) b ops

-- those of a visit, one for each child
abbrev pub places_in : List VisitOp → List BlockPlaces
places_in ops = places_from 0 0 ops

-- those of each visit
abbrev pub places_of : (visits : List (List VisitOp)) → List (List BlockPlaces)
places_of visits = map places_in visits
