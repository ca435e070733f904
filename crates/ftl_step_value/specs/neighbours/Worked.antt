-- What the rules of the grammar of notes read of neighbours, by hand.
use Rattle.std.specs.Prelude.{ℕ, List, [], ◌∷◌, Option}
use Rattle.ftl_model.specs.layout.AttributeGrammar.{Parts}
use Rattle.ftl_step_value.specs.declared.neighbours.parts.NeighbourParts.{NeighbourParts}
use Rattle.ftl_step_value.specs.declared.neighbours.parts.NeighbourParts.TheVariants.{Far, Fold, Kids, Own}
use Rattle.ftl_step_value.specs.declared.neighbours.reads.NeighbourRead.{NeighbourRead}
use Rattle.ftl_step_value.specs.declared.neighbours.reads.NeighbourSite.TheVariants as sites
use Rattle.ftl_step_value.specs.neighbours.NeighbourParts.{neighbour_parts_of}

-- the attribute at a place of the node, of the kid at hand, and of the kid before
abbrev pub here : (place : ℕ) → NeighbourRead
here place = record { site = sites.Own; place = place }

abbrev pub kid : (place : ℕ) → NeighbourRead
kid place = record { site = sites.Kid; place = place }

abbrev pub before : (place : ℕ) → NeighbourRead
before place = record { site = sites.Before; place = place }

-- the places of the attributes: total; x, w and gap; shift, size and foot; base, behind the attribute of a page; iw,
-- behind the three of a box; and height, behind the three of a note
abbrev pub notes_places : List ℕ
notes_places = 0 ∷ 0 ∷ 1 ∷ 2 ∷ 0 ∷ 1 ∷ 2 ∷ 1 ∷ 3 ∷ 3 ∷ []

-- base reads the head, and shift the last of the kids; x reads base, and then x and w of the kid before and gap; total
-- reads w of each kid, and base; w, size and foot read the node itself: iw, height, shift and size
abbrev pub notes_parts : List NeighbourParts
notes_parts =
    Far ∷ Far ∷ Kids 1 (here 1 ∷ []) (before 0 ∷ before 1 ∷ kid 2 ∷ []) ∷ Fold 1 [] (kid 1 ∷ here 1 ∷ [])
    ∷ Own (here 3 ∷ [])
    ∷ Own (here 3 ∷ [])
    ∷ Own (here 0 ∷ here 1 ∷ [])
    ∷ []

-- of the attributes 3 to 5 the places 7 to 9; 6 has none
abbrev pub three_places : List ℕ
three_places = 0 ∷ 0 ∷ 0 ∷ 7 ∷ 8 ∷ 9 ∷ []

-- what a rule with these parts reads by them
abbrev pub worked_parts : (child : Option ℕ) → Parts → NeighbourParts
worked_parts = neighbour_parts_of three_places
