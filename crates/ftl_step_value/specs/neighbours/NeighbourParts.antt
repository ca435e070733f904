-- What rules read of neighbours: the node at which a rule runs, the kid that the rule is for or that a fold has come
-- to, and the kid before that one.
use Rattle.std.specs.Prelude.{◌≡◌, ℕ, Bool, true, false, ◌==◌, ◌&&◌, if◌then◌else◌, List, [], ◌∷◌, map}
use Rattle.std.specs.Prelude.{◌<◌, Contains, Option, Some, None, slice_index_or}
use Rattle.std.specs.List.{slice_get}
use Rattle.std.specs.Option.{option_map}
use Rattle.ftl_deps.specs.reads.Meant.{meant}
use Rattle.ftl_meaning.specs.faults.Checked.{CheckedGrammar}
use Rattle.ftl_model.specs.layout.AttributeGrammar.{AttributeGrammar, Parts, Read, RuleName, each_read, first_then}
use Rattle.ftl_model.specs.lists.Lists.{place_in}
use Rattle.ftl_model.specs.layout.AttributeGrammar.{attributes_of, fold_over}
use Rattle.ftl_model.specs.layout.AttributeGrammar.{for_child, for_self, last_read, plain, prev_read, self_read}
use Rattle.ftl_model.specs.layout.AttributeGrammar.{single_read}
use Rattle.ftl_model.specs.layout.AttributeGrammar.{this_read}
use Rattle.ftl_deps.specs.parts.RuleParts.{parts_named}
use Rattle.ftl_tree.specs.rows.ClassRows.{AreAttributePlaces}
use Rattle.ftl_step_value.specs.declared.neighbours.parts.NeighbourParts.{NeighbourParts}
use Rattle.ftl_step_value.specs.declared.neighbours.parts.NeighbourParts.TheVariants.{Far, Fold, Kids, Own}
use Rattle.ftl_step_value.specs.declared.neighbours.reads.NeighbourRead.{NeighbourRead}
use Rattle.ftl_step_value.specs.declared.neighbours.reads.NeighbourSite.{NeighbourSite}
use Rattle.ftl_step_value.specs.declared.neighbours.reads.NeighbourSite.TheVariants as sites

-- this is the place of an attribute among those of each class that has it
abbrev pub IsPlaceOf : AttributeGrammar → (attribute place : ℕ) → Type 0
IsPlaceOf g a place =
    (class : ℕ) → class < g.class_count → Contains (attributes_of g class) a → place ≡ place_in (attributes_of g class) a

-- whether this is the child at whose kids a part stands, if it stands at kids
abbrev pub is_child : Option ℕ → (other : ℕ) → Bool
is_child None d = false
is_child (Some c) d = c == d

-- a read at a site, of the attribute that has this place
abbrev pub read_at : NeighbourSite → (place : ℕ) → NeighbourRead
read_at site place = record { site = site; place = place }

-- a read of a neighbour, if it is one and the attribute has one of these places
abbrev pub neighbour_if : (places : List ℕ) → (is_neighbour : Bool) → NeighbourSite → (attribute : ℕ)
    → Option NeighbourRead
neighbour_if places is_neighbour site a =
    if is_neighbour then option_map (read_at site) (slice_get places a) else None

-- what a read is of neighbours, in a part that stands at a kid of this child or at no kid, by the places of attributes;
-- the kid before that one is sure to be there where the part is that of later kids
abbrev pub neighbour_read : (places : List ℕ) → (child : Option ℕ) → (is_later : Bool) → Read → Option NeighbourRead
neighbour_read places child later (self_read a) = neighbour_if places true sites.Own a
neighbour_read places child later (single_read c a) = None
neighbour_read places child later (each_read c a) = neighbour_if places (is_child child c) sites.Kid a
neighbour_read places child later (this_read c a) = neighbour_if places (is_child child c) sites.Kid a
neighbour_read places child later (prev_read c a) = neighbour_if places (later && is_child child c) sites.Before a
neighbour_read places child later (last_read c a) = None

-- both, if there are both
abbrev pub with_first : Option NeighbourRead → Option (List NeighbourRead) → Option (List NeighbourRead)
with_first None rest = None
with_first (Some n) None = None
with_first (Some n) (Some rest) = Some (n ∷ rest)

-- what the reads of a part are of neighbours; none where one of them is of another
abbrev pub neighbour_list : (places : List ℕ) → (child : Option ℕ) → (is_later : Bool) → List Read
    → Option (List NeighbourRead)
neighbour_list places child later [] = Some []
neighbour_list places child later (r ∷ reads) =
    with_first (neighbour_read places child later r) (neighbour_list places child later reads)

-- a rule of one part for the node itself, if it reads of neighbours alone
abbrev pub own_parts : Option (List NeighbourRead) → NeighbourParts
own_parts None = Far
own_parts (Some reads) = Own reads

-- a rule for the kids of a child, if its parts read of neighbours alone
abbrev pub kids_parts : (child : ℕ) → (first later : Option (List NeighbourRead)) → NeighbourParts
kids_parts c None later = Far
kids_parts c (Some first) None = Far
kids_parts c (Some first) (Some later) = Kids c first later

-- a fold over the kids of a child, if its parts read of neighbours alone
abbrev pub fold_parts : (child : ℕ) → (start step : Option (List NeighbourRead)) → NeighbourParts
fold_parts c None step = Far
fold_parts c (Some start) None = Far
fold_parts c (Some start) (Some step) = Fold c start step

-- what a rule with these parts reads of neighbours, which is for the kids of this child or for the node itself
abbrev pub neighbour_parts_of : (places : List ℕ) → (child : Option ℕ) → Parts → NeighbourParts
neighbour_parts_of places None (plain reads) = own_parts (neighbour_list places None false reads)
neighbour_parts_of places (Some c) (plain reads) =
    kids_parts c (neighbour_list places (Some c) false reads) (neighbour_list places (Some c) false reads)
neighbour_parts_of places None (first_then first later) = Far
neighbour_parts_of places (Some c) (first_then first later) =
    kids_parts c (neighbour_list places (Some c) false first) (neighbour_list places (Some c) true later)
neighbour_parts_of places child (fold_over c start step) =
    fold_parts c (neighbour_list places None false start) (neighbour_list places (Some c) false step)

-- the child for whose kids a rule is; none where it is for the node itself
abbrev pub child_of : RuleName → Option ℕ
child_of (for_self class a) = None
child_of (for_child class c a) = Some c

-- what the rule of a name reads of neighbours
abbrev pub neighbour_parts_named : (places : List ℕ) → AttributeGrammar → RuleName → NeighbourParts
neighbour_parts_named places g w = neighbour_parts_of places (child_of w) (parts_named g w)

-- the same of all rules, by number
abbrev pub neighbour_table : (places : List ℕ) → AttributeGrammar → List NeighbourParts
neighbour_table places g = map (neighbour_parts_named places g) g.rules

-- the parts are those of the grammar's rules, by the places of its attributes
pub record AreNeighbourParts (c : CheckedGrammar) (parts : List NeighbourParts) : Type 0 where
  pub places : List ℕ
  pub places_are : AreAttributePlaces (meant c) places
  pub table : parts ≡ neighbour_table places (meant c)

-- the entry of a rule
abbrev pub neighbour_parts_at : List NeighbourParts → (rule : ℕ) → NeighbourParts
neighbour_parts_at parts r = slice_index_or parts r Far

-- whether a rule reads of neighbours alone
abbrev pub reads_neighbours : NeighbourParts → Bool
reads_neighbours (Own reads) = true
reads_neighbours (Kids c first later) = true
reads_neighbours (Fold c start step) = true
reads_neighbours Far = false
