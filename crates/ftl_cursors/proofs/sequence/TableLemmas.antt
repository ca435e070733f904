-- What the tables have for a child of a node.
use Rattle.std.proofs.Common.{◌≡◌, ℕ, ◌+◌, ◌-◌, ◌<◌, List, [], get_or, length, sym, ◌∙◌, ap, ap₂, subst, arith}
use Rattle.std.proofs.lemmas.List.{get_or-map, length-map}
use Rattle.ftl_model.specs.layout.AttributeGrammar.{AttributeGrammar}
use Rattle.ftl_model.specs.layout.Path.{class_at}
use Rattle.ftl_model.specs.layout.Tree.{size}
use Rattle.ftl_model.specs.layout.TreeOf.{IsTreeOf}
use Rattle.ftl_schedule.specs.declared.syntax.kind.PassKind.TheVariants.{InOrder}
use Rattle.ftl_visit.specs.visits.Visits.{visit_of}
use Rattle.ftl_visit.specs.declared.visits.visit_op.VisitOp.{VisitOp}
use Rattle.ftl_cursors.specs.sequence.BlockPlaces.{places_in}
use Rattle.ftl_cursors.specs.sequence.Places.{AreTables, grammar_of, node_of, tree_of}
use Rattle.ftl_cursors.specs.declared.sequence.block_places.BlockPlaces.{BlockPlaces}
use Rattle.ftl_cursors.specs.declared.sequence.place.Tables.{Tables}
use Rattle.ftl_cursors.proofs.sequence.BlockLemmas.{HasBlock, block_placed}
use Rattle.ftl_cursors.proofs.sequence.CursorMoves.{class_within, visit_in, visits_count}

module _ (x : Tables) (are : AreTables x) (fits : IsTreeOf (grammar_of x) (tree_of x)) (node : ℕ)
    (within : node < size (tree_of x)) (n : ℕ) (is : n ≡ class_at (tree_of x) (node_of x node)) where
  abbrev g : AttributeGrammar
  g = grammar_of x

  abbrev class : ℕ
  class = class_at (tree_of x) (node_of x node)

  abbrev rule_visit : List VisitOp
  rule_visit = visit_of g InOrder x.attrs.now class

  -- the class has a visit, and places
  pub has_visit : n < length x.visits.now
  has_visit =
      let known = class_within g (tree_of x) fits node within in
      let count = ap length are.visits ∙ visits_count g x.attrs.now in
      omega arith

  pub has_places : n < length x.places.now
  has_places =
      let count = ap length are.places ∙ length-map x.visits.now places_in in
      let known = has_visit in
      omega arith

  -- which are these
  pub visit_there : get_or x.visits.now n [] ≡ rule_visit
  visit_there =
      ap₂ (λ (vs : List (List VisitOp)) m. get_or vs m []) are.visits is
      ∙ visit_in g x.attrs.now class (class_within g (tree_of x) fits node within)

  pub places_there : get_or x.places.now n [] ≡ places_in rule_visit
  places_there =
      ap (λ (ps : List (List BlockPlaces)). get_or ps n []) are.places
      ∙ get_or-map places_in x.visits.now n [] [] has_visit
      ∙ ap places_in visit_there

  -- so the block of a child is in them
  pub block_there : (visit : List VisitOp) (places : List BlockPlaces) → visit ≡ get_or x.visits.now n []
      → places ≡ get_or x.places.now n [] → (c : ℕ) → c < g.child_count class
      → HasBlock g class x.attrs.now visit c (g.child_count class - (c + 1)) c places
  block_there visit places visit_is places_are c declared =
      subst (λ vs. HasBlock g class x.attrs.now vs c (g.child_count class - (c + 1)) c places)
      (sym (visit_is ∙ visit_there))
      (subst (HasBlock g class x.attrs.now rule_visit c (g.child_count class - (c + 1)) c)
      (sym (places_are ∙ places_there)) (block_placed g class x.attrs.now c declared))
