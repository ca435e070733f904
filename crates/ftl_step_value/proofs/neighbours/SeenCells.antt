-- The cells of what is seen at neighbours.
use Rattle.std.proofs.Common.{◌≡◌, ℕ, ◌+◌, ◌-◌, ◌<◌, ◌≤◌, Bool, true, List, [], ◌∷◌, ◌++◌, flat_map, map, Option, Some, None, refl, sym, ◌∙◌, ap, ap₂, subst, arith, Contains, ⊎_elim, slice_index_or}
use Rattle.std.specs.Option.{unwrap_or}
use Rattle.std.proofs.lemmas.List.{map-append}
use Rattle.std.proofs.lemmas.Option.{get_or_from_slice_get}
use Rattle.ftl_deps.specs.reads.Meant.{meant}
use Rattle.ftl_model.proofs.lists.Elements.{here_in, in_cases, later_in, nothing_in}
use Rattle.ftl_model.specs.layout.AttributeGrammar.{AttributeGrammar, Occurrence}
use Rattle.ftl_model.specs.layout.Limits.{most_instances}
use Rattle.ftl_model.specs.layout.Path.{Path, class_at, down, node_at}
use Rattle.ftl_model.specs.layout.Solves.{IsInstance, instance_of}
use Rattle.ftl_model.specs.layout.Table.{first_instance, instance_count, instance_number}
use Rattle.ftl_model.specs.layout.TreeOf.{IsTreeOf}
use Rattle.ftl_order.proofs.orders.Instances.{number_within}
use Rattle.ftl_order.proofs.orders.Kids.{class_known}
use Rattle.ftl_step_value.specs.cells.Seen.{EachIsSeen, IsSeen, cell_seen}
use Rattle.ftl_tree.specs.rows.ClassRows.{AreAttributePlaces}
use Rattle.ftl_tree.specs.trees.CheckedTree.{CheckedTree}
use Rattle.ftl_step_value.specs.neighbours.NeighbourCells.{AreNeighbours, IsNeighbour, first_cell, neighbour_cells}
use Rattle.ftl_step_value.specs.neighbours.NeighbourParts.{IsPlaceOf}
use Rattle.ftl_step_value.specs.declared.neighbours.reads.NeighbourRead.{NeighbourRead}
use Rattle.ftl_step_value.specs.declared.neighbours.reads.NeighbourSite.{NeighbourSite}
use Rattle.ftl_step_value.specs.declared.neighbours.reads.NeighbourSite.TheVariants.{Before, Kid, Own}
use Rattle.ftl_step_value.proofs.neighbours.NeighbourSeen.{AreOf, IsOf, IsSite, site_occurrence}

-- the first cell of a node
abbrev pub first_of : CheckedTree → Path → ℕ
first_of t p = first_instance (meant t.checked) t.tree p

-- a tree of its grammar, with no more cells than there may be
pub record IsCounted (t : CheckedTree) : Type 0 where
  pub fits : IsTreeOf (meant t.checked) t.tree
  pub few : instance_count (meant t.checked) t.tree ≤ most_instances

-- so it is by what a tree says of itself
pub is_counted : (t : CheckedTree) → IsTreeOf (meant t.checked) t.tree → (n : ℕ)
    → n ≡ instance_count (meant t.checked) t.tree → n ≤ most_instances → IsCounted t
is_counted t fits n is below = record { fits = fits; few = subst (λ m. m ≤ most_instances) is below }

-- the cell at this place behind a first cell is that of what is seen
pub record IsCell (t : CheckedTree) (node first place : ℕ) (o : Occurrence) : Type 0 where
  pub cell : first + place ≡ cell_seen t node o
  pub room : first + place < most_instances

-- the cells of some reads are these, and what they read is there
pub record AreCells (own kid before : ℕ) (ns : List NeighbourRead) (cells : List ℕ) : Type 0 where
  pub cells_are : neighbour_cells own kid before ns ≡ cells
  pub neighbours : AreNeighbours own kid before ns

-- these are the first cells of the kid at hand and of the kid before that one
pub record AreKids (t : CheckedTree) (node k : ℕ) (child : Option ℕ) (later : Bool) (kid before : ℕ) : Type 0 where
  pub kid_is : (c : ℕ) → child ≡ Some c → kid ≡ first_of t (down c k (node_at t.tree node))
  pub before_is :
      (c : ℕ) → child ≡ Some c → later ≡ true → before ≡ first_of t (down c (k - 1) (node_at t.tree node))

-- an instance that is there has the cell at the place of its attribute behind the first cell of its node
pub record IsPlaced (t : CheckedTree) (p : Path) (a first place : ℕ) : Type 0 where
  pub cell : first + place ≡ instance_number (meant t.checked) t.tree (instance_of p a)
  pub room : first + place < most_instances

pub placed : (t : CheckedTree) → IsCounted t → (p : Path) (a first place : ℕ)
    → IsInstance (meant t.checked) t.tree (instance_of p a) → first ≡ first_of t p
    → IsPlaceOf (meant t.checked) a place → IsPlaced t p a first place
placed t counted p a first place there first_is place_is =
    let g = meant t.checked in
    let class = class_known g t.tree counted.fits p there.0 in
    let cell : first + place ≡ instance_number g t.tree (instance_of p a) =
    ap₂ (λ m n. m + n) first_is (place_is (class_at t.tree p) class there.1) in
    let within = number_within g t.tree p a there.0 there.1 in
    let few = counted.few in
    record { cell = cell; room = omega (arith, cell, within, few) }

-- it is that in the list
pub listed_place : (g : AttributeGrammar) (places : List ℕ) → AreAttributePlaces g places → (a place : ℕ)
    → place ≡ slice_index_or places a 0 → IsPlaceOf g a place
listed_place g places are a place is class known of = is ∙ are.each class a known of

module _ (t : CheckedTree) (counted : IsCounted t) (places : List ℕ) (are : AreAttributePlaces (meant t.checked) places)
    (node k : ℕ) (later : Bool) (kid before : ℕ) where
  abbrev own : ℕ
  own = first_of t (node_at t.tree node)

  -- the cell of an attribute at a site
  site_cell : (child : Option ℕ) (a place : ℕ) → AreKids t node k child later kid before → (site : NeighbourSite)
      → IsSite child later site → IsSeen t node (site_occurrence (unwrap_or child 0) k site a)
      → IsPlaceOf (meant t.checked) a place
      → IsCell t node (first_cell own kid before site) place (site_occurrence (unwrap_or child 0) k site a)
  site_cell child a place kids Own is seen at =
      let it = placed t counted (node_at t.tree node) a own place seen refl at in
      record { cell = it.cell; room = it.room }
  site_cell None a place kids Kid is seen at = absurd (let z : ⊥ = grind (arith, is) in z)
  site_cell (Some c) a place kids Kid is seen at =
      let it = placed t counted (down c k (node_at t.tree node)) a kid place seen (kids.kid_is c refl) at in
      record { cell = it.cell; room = it.room }
  site_cell None a place kids Before is seen at =
      let f = is.0 in absurd (let z : ⊥ = grind (arith, f) in z)
  site_cell (Some c) a place kids Before is seen at =
      let it = placed t counted (down c (k - 1) (node_at t.tree node)) a before place seen
      (kids.before_is c refl is.1) at in
      record { cell = it.cell; room = it.room }

  -- that of what is seen
  one_cell : (child : Option ℕ) (o : Occurrence) (n : NeighbourRead) → AreKids t node k child later kid before
      → IsOf places k child later o n → IsSeen t node o
      → IsCell t node (first_cell own kid before n.site) n.place o
  one_cell child o n kids of seen =
      subst (IsCell t node (first_cell own kid before n.site) n.place) (sym of.sees)
      (site_cell child of.attribute n.place kids n.site of.site (subst (IsSeen t node) of.sees seen)
      (listed_place (meant t.checked) places are of.attribute n.place
      (sym (get_or_from_slice_get places of.attribute n.place 0 of.place))))

  -- those of all
  pub seen_cells : (child : Option ℕ) (os : List Occurrence) (ns : List NeighbourRead)
      → AreKids t node k child later kid before → AreOf places k child later os ns → EachIsSeen t node os
      → AreCells own kid before ns (map (cell_seen t node) os)
  seen_cells child [] [] kids of all =
      record { cells_are = refl; neighbours = λ n h. absurd (nothing_in n h) }
  seen_cells child [] (n ∷ ns) kids of all = absurd of
  seen_cells child (o ∷ os) [] kids of all = absurd of
  seen_cells child (o ∷ os) (n ∷ ns) kids of all =
      let one = one_cell child o n kids of.0 (all o (here_in o os)) in
      let rest = seen_cells child os ns kids of.1 (λ p h. all p (later_in o p os h)) in
      record {
        cells_are = ap₂ (λ c cs. c ∷ cs) one.cell rest.cells_are;
        neighbours = λ m h.
            ⊎_elim (λ same. subst (IsNeighbour own kid before) same one.room) (rest.neighbours m)
            (in_cases n m ns h);
      }

-- those of a step of a fold, at each of some kids
pub fold_cells : (f : Occurrence → ℕ) (at : ℕ → List ℕ) (seen : ℕ → List Occurrence) (js : List ℕ)
    → ((j : ℕ) → Contains js j → at j ≡ map f (seen j)) → flat_map at js ≡ map f (flat_map seen js)
fold_cells f at seen [] same = refl
fold_cells f at seen (j ∷ js) same =
    ap₂ (λ (a b : List ℕ). a ++ b) (same j (here_in j js))
    (fold_cells f at seen js (λ i h. same i (later_in j i js h)))
    ∙ sym (map-append f (seen j) (flat_map seen js))

pub flat_map-map : {X Y Z : Type 0} (f : Y → List Z) (h : X → Y) (xs : List X)
    → flat_map f (map h xs) ≡ flat_map (λ x. f (h x)) xs
flat_map-map f h [] = refl
flat_map-map f h (x ∷ xs) = ap (λ rest. f (h x) ++ rest) (flat_map-map f h xs)
