-- The cells of a step, by what its rule reads of neighbours.
use Rattle.std.proofs.Common.{◌≡◌, ℕ, ◌-◌, ◌<◌, true, false, List, ◌++◌, flat_map, map, Option, Some, None, refl, sym, ◌∙◌, ap, ap₂, subst, arith, Contains}
use Rattle.std.specs.List.{range_with_len}
use Rattle.std.proofs.lemmas.List.{map-append}
use Rattle.std.proofs.lemmas.List.Elements.{Contains-append_left, Contains-append_right}
use Rattle.std.proofs.lemmas.Option.{same_Some}
use Rattle.ftl_deps.specs.reads.Meant.{meant}
use Rattle.ftl_step_value.specs.limits.reads.ReadTables.{IsSound}
use Rattle.ftl_step_value.proofs.limits.reads.RuleReads.{rule_may_stand}
use Rattle.ftl_model.proofs.lists.Elements.{flat_map_has}
use Rattle.ftl_model.proofs.lists.Rising.{in_map}
use Rattle.ftl_model.specs.layout.AttributeGrammar.{Occurrence, Parts, Read, RuleName, first_then, fold_over, for_child, for_self, plain, seen_by}
use Rattle.ftl_model.specs.layout.Path.{class_at, down, kids_at, node_at}
use Rattle.ftl_model.specs.layout.Solves.{IsInstance}
use Rattle.ftl_model.specs.layout.TreeOf.{IsTreeOf}
use Rattle.ftl_deps.specs.parts.RuleParts.{parts_named}
use Rattle.ftl_step_value.specs.cells.ReadCells.{read_cells}
use Rattle.ftl_step_value.specs.cells.Seen.{EachIsSeen, cell_seen}
use Rattle.ftl_step_value.proofs.cells.KidCells.{first_seen, kid_there, later_seen}
use Rattle.ftl_step_value.proofs.cells.StepCells.{StepCells, step_cells}
use Rattle.ftl_step_value.proofs.cells.StepRules.{target_there}
use Rattle.ftl_visit.specs.step_reads.StepReads.{AreOfChildren, children_in, kids_in}
use Rattle.ftl_order.specs.steps.Steps.{IsStepOf, rule_at, target_of_rule}
use Rattle.ftl_order.specs.declared.steps.step.Step.{Step}
use Rattle.ftl_tree.specs.trees.CheckedTree.{CheckedTree}
use Rattle.ftl_tree.specs.rows.ClassRows.{AreAttributePlaces}
use Rattle.ftl_tree.specs.rows.KidRuns.{IsChildOf, kid_first_instances}
use Rattle.ftl_step_value.specs.neighbours.NeighbourCells.{AreNeighbours, AreNeighboursFromHere, cells_from_here}
use Rattle.ftl_step_value.specs.neighbours.NeighbourCells.{neighbour_cells}
use Rattle.ftl_step_value.specs.neighbours.NeighbourParts.{child_of, fold_parts, kids_parts, neighbour_list, neighbour_parts_named, neighbour_parts_of, own_parts}
use Rattle.ftl_step_value.specs.declared.neighbours.parts.NeighbourParts.{NeighbourParts}
use Rattle.ftl_step_value.specs.declared.neighbours.parts.NeighbourParts.TheVariants.{Far, Fold, Kids, Own}
use Rattle.ftl_step_value.specs.declared.neighbours.reads.NeighbourRead.{NeighbourRead}
use Rattle.ftl_step_value.proofs.neighbours.NeighbourSeen.{reads_of}
use Rattle.ftl_step_value.proofs.neighbours.SeenCells.{AreCells, AreKids, IsCounted, first_of, flat_map-map, fold_cells, seen_cells}

-- the first cells of the step's node, and of a kid of it
abbrev pub own_first : CheckedTree → Step → ℕ
own_first t x = first_of t (node_at t.tree x.node)

abbrev pub kid_first : CheckedTree → Step → (child number : ℕ) → ℕ
kid_first t x c k = first_of t (down c k (node_at t.tree x.node))

-- those of the kids of a child
abbrev pub kids_first : CheckedTree → Step → (child : ℕ) → List ℕ
kids_first t x c = kid_first_instances (meant t.checked) t.tree (node_at t.tree x.node) c

-- the cells that the step reads
abbrev pub its_cells : CheckedTree → Step → List ℕ
its_cells t x = read_cells (meant t.checked) t.tree x

-- a rule for the kids of a child: the step's kid is there, and these are its cells
pub record AreKidCells (t : CheckedTree) (x : Step) (c : ℕ) (first later : List NeighbourRead) : Type 0 where
  pub at_child : IsChildOf (meant t.checked) t.tree x.node c
  pub counted : x.kid < kids_at t.tree (node_at t.tree x.node) c
  pub at_first : x.kid ≡ 0 → AreCells (own_first t x) (kid_first t x c x.kid) 0 first (its_cells t x)
  pub at_later : 0 < x.kid
      → AreCells (own_first t x) (kid_first t x c x.kid) (kid_first t x c (x.kid - 1)) later (its_cells t x)

-- a fold over the kids of a child
pub record AreFoldCells (t : CheckedTree) (x : Step) (c : ℕ) (start step : List NeighbourRead) : Type 0 where
  pub at_child : IsChildOf (meant t.checked) t.tree x.node c
  pub cells_are : cells_from_here (own_first t x) 0 0 start step (kids_first t x c) ≡ its_cells t x
  pub neighbours : AreNeighboursFromHere (own_first t x) 0 0 start step (kids_first t x c)

-- what a cursor needs of the step's rule
abbrev pub AreStepCells : CheckedTree → Step → NeighbourParts → Type 0
AreStepCells t x Far = Unit {0}
AreStepCells t x (Own reads) = AreCells (own_first t x) 0 0 reads (its_cells t x)
AreStepCells t x (Kids c first later) = AreKidCells t x c first later
AreStepCells t x (Fold c start step) = AreFoldCells t x c start step

-- a kid that a rule is for
record IsKid (t : CheckedTree) (x : Step) (c : ℕ) : Type 0 where
  at_child : IsChildOf (meant t.checked) t.tree x.node c
  counted : x.kid < kids_at t.tree (node_at t.tree x.node) c

-- at no kid
no_kids : (t : CheckedTree) (node k : ℕ) → AreKids t node k None false 0 0
no_kids t node k =
    record {
      kid_is = λ c is. absurd (let z : ⊥ = grind (arith, is) in z);
      before_is = λ c is. absurd (let z : ⊥ = grind (arith, is) in z);
    }

-- at a kid that may be the first
one_kid : (t : CheckedTree) (node k c before : ℕ)
    → AreKids t node k (Some c) false (first_of t (down c k (node_at t.tree node))) before
one_kid t node k c before =
    record {
      kid_is = λ d is.
          ap (λ e. first_of t (down e k (node_at t.tree node))) (same_Some c d is);
      before_is = λ d is later. absurd (let z : ⊥ = grind (arith, later) in z);
    }

-- at a later kid
two_kids : (t : CheckedTree) (node k c : ℕ)
    → AreKids t node k (Some c) true (first_of t (down c k (node_at t.tree node)))
    (first_of t (down c (k - 1) (node_at t.tree node)))
two_kids t node k c =
    record {
      kid_is = λ d is.
          ap (λ e. first_of t (down e k (node_at t.tree node))) (same_Some c d is);
      before_is = λ d is later.
          ap (λ e. first_of t (down e (k - 1) (node_at t.tree node))) (same_Some c d is);
    }

-- no kid comes before where a part isn't that of later kids
not_later : (k : ℕ) → false ≡ true → 0 < k
not_later k is = absurd (let z : ⊥ = grind (arith, is) in z)

module _ (t : CheckedTree) (counted : IsCounted t) (places : List ℕ)
    (places_are : AreAttributePlaces (meant t.checked) places) (x : Step) (is : IsStepOf (meant t.checked) t.tree x) where
  abbrev fits : IsTreeOf (meant t.checked) t.tree
  fits = counted.fits

  abbrev kids : ℕ → ℕ
  kids = kids_in t x.node

  abbrev seen : List Occurrence → List ℕ
  seen = map (cell_seen t x.node)

  -- the cells of a part that is read once
  own_cells : (reads : List Read) (ns : List NeighbourRead) → neighbour_list places None false reads ≡ Some ns
      → EachIsSeen t x.node (seen_by kids x.kid reads) → AreCells (own_first t x) 0 0 ns (seen (seen_by kids x.kid reads))
  own_cells reads ns neighbours all =
      seen_cells t counted places places_are x.node x.kid false 0 0 None (seen_by kids x.kid reads) ns
      (no_kids t x.node x.kid) (reads_of places kids x.kid false (not_later x.kid) None reads ns neighbours) all

  kid_cells : (k c before : ℕ) (reads : List Read) (ns : List NeighbourRead) → neighbour_list places (Some c) false reads ≡ Some ns
      → EachIsSeen t x.node (seen_by kids k reads)
      → AreCells (own_first t x) (kid_first t x c k) before ns (seen (seen_by kids k reads))
  kid_cells k c before reads ns neighbours all =
      seen_cells t counted places places_are x.node k false (kid_first t x c k) before (Some c) (seen_by kids k reads) ns
      (one_kid t x.node k c before) (reads_of places kids k false (not_later k) (Some c) reads ns neighbours) all

  later_cells : (c : ℕ) (reads : List Read) (ns : List NeighbourRead) → 0 < x.kid
      → neighbour_list places (Some c) true reads ≡ Some ns → EachIsSeen t x.node (seen_by kids x.kid reads)
      → AreCells (own_first t x) (kid_first t x c x.kid) (kid_first t x c (x.kid - 1)) ns (seen (seen_by kids x.kid reads))
  later_cells c reads ns some neighbours all =
      seen_cells t counted places places_are x.node x.kid true (kid_first t x c x.kid) (kid_first t x c (x.kid - 1))
      (Some c) (seen_by kids x.kid reads) ns (two_kids t x.node x.kid c)
      (reads_of places kids x.kid true (λ e. some) (Some c) reads ns neighbours) all

  -- a part for the node itself
  own_case : (reads : List Read) (neighbours : Option (List NeighbourRead)) → neighbour_list places None false reads ≡ neighbours
      → StepCells t x (plain reads) → AreStepCells t x (own_parts neighbours)
  own_case reads None neighbours cells = tt
  own_case reads (Some ns) neighbours cells =
      subst (AreCells (own_first t x) 0 0 ns) cells.cells (own_cells reads ns neighbours cells.all)

  -- a part for all kids of a child
  plain_case : (c : ℕ) → IsKid t x c → (reads : List Read) (neighbours : Option (List NeighbourRead))
      → neighbour_list places (Some c) false reads ≡ neighbours → StepCells t x (plain reads) → AreStepCells t x (kids_parts c neighbours neighbours)
  plain_case c kid reads None neighbours cells = tt
  plain_case c kid reads (Some ns) neighbours cells =
      record {
        at_child = kid.at_child;
        counted = kid.counted;
        at_first = λ zero.
            subst (AreCells (own_first t x) (kid_first t x c x.kid) 0 ns) cells.cells
            (kid_cells x.kid c 0 reads ns neighbours cells.all);
        at_later = λ some.
            subst (AreCells (own_first t x) (kid_first t x c x.kid) (kid_first t x c (x.kid - 1)) ns) cells.cells
            (kid_cells x.kid c (kid_first t x c (x.kid - 1)) reads ns neighbours cells.all);
      }

  -- one for its first kid, and one for later ones
  two_case : (c : ℕ) → IsKid t x c → (first later : List Read) (f l : Option (List NeighbourRead))
      → neighbour_list places (Some c) false first ≡ f → neighbour_list places (Some c) true later ≡ l
      → StepCells t x (first_then first later) → AreStepCells t x (kids_parts c f l)
  two_case c kid first later None l f_is l_is cells = tt
  two_case c kid first later (Some f) None f_is l_is cells = tt
  two_case c kid first later (Some f) (Some l) f_is l_is cells =
      record {
        at_child = kid.at_child;
        counted = kid.counted;
        at_first = λ zero.
            let same = first_seen kids x.kid first later zero in
            subst (AreCells (own_first t x) (kid_first t x c x.kid) 0 f) (ap seen (sym same) ∙ cells.cells)
            (kid_cells x.kid c 0 first f f_is (subst (EachIsSeen t x.node) same cells.all));
        at_later = λ some.
            let same = later_seen kids x.kid first later some in
            subst (AreCells (own_first t x) (kid_first t x c x.kid) (kid_first t x c (x.kid - 1)) l)
            (ap seen (sym same) ∙ cells.cells)
            (later_cells c later l some l_is (subst (EachIsSeen t x.node) same cells.all));
      }

  abbrev range : (child : ℕ) → List ℕ
  range c = range_with_len 0 (kids c)

  abbrev steps : (child : ℕ) → List Read → List Occurrence
  steps c step = flat_map (λ j. seen_by kids j step) (range c)

  -- a fold
  fold_case : (c : ℕ) → IsChildOf (meant t.checked) t.tree x.node c → (start step : List Read)
      → (s m : Option (List NeighbourRead)) → neighbour_list places None false start ≡ s → neighbour_list places (Some c) false step ≡ m
      → StepCells t x (fold_over c start step) → AreStepCells t x (fold_parts c s m)
  fold_case c at_child start step None m s_is m_is cells = tt
  fold_case c at_child start step (Some s) None s_is m_is cells = tt
  fold_case c at_child start step (Some s) (Some m) s_is m_is cells =
      record {
        at_child = at_child;
        cells_are =
            ap₂ (λ (a b : List ℕ). a ++ b) begin.cells_are
            (flat_map-map (λ k. neighbour_cells (own_first t x) k 0 m) (kid_first t x c) (range c)
            ∙ fold_cells (cell_seen t x.node) (λ j. neighbour_cells (own_first t x) (kid_first t x c j) 0 m)
            (λ j. seen_by kids j step) (range c) (λ j h. (each j h).cells_are))
            ∙ sym (map-append (cell_seen t x.node) (seen_by kids x.kid start) (steps c step))
            ∙ cells.cells;
        neighbours = record {
          here = begin.neighbours;
          later = λ k h.
              let from = in_map (kid_first t x c) (range c) k h in
              subst (λ n. AreNeighbours (own_first t x) n 0 m) from.is (each from.from from.there).neighbours;
        };
      }
    where
      begin : AreCells (own_first t x) 0 0 s (seen (seen_by kids x.kid start))
      begin =
          own_cells start s s_is
          (λ o i. cells.all o (Contains-append_left (seen_by kids x.kid start) (steps c step) o i))

      each : (j : ℕ) → Contains (range c) j → AreCells (own_first t x) (kid_first t x c j) 0 m (seen (seen_by kids j step))
      each j h =
          kid_cells j c 0 step m m_is
          (λ o i.
          cells.all o
          (Contains-append_right (seen_by kids x.kid start) (steps c step) o
          (flat_map_has (λ n. seen_by kids n step) (range c) j o h i)))

  -- each of these
  by_parts : (child : Option ℕ) → ((c : ℕ) → child ≡ Some c → IsKid t x c) → (parts : Parts)
      → AreOfChildren (children_in t x.node) parts → StepCells t x parts → AreStepCells t x (neighbour_parts_of places child parts)
  by_parts None kid (plain reads) may cells = own_case reads (neighbour_list places None false reads) refl cells
  by_parts (Some c) kid (plain reads) may cells =
      plain_case c (kid c refl) reads (neighbour_list places (Some c) false reads) refl cells
  by_parts None kid (first_then first later) may cells = tt
  by_parts (Some c) kid (first_then first later) may cells =
      two_case c (kid c refl) first later (neighbour_list places (Some c) false first) (neighbour_list places (Some c) true later) refl refl
      cells
  by_parts None kid (fold_over c start step) may cells =
      fold_case c (record { known = is.node; declared = may.0 }) start step (neighbour_list places None false start)
      (neighbour_list places (Some c) false step) refl refl cells
  by_parts (Some d) kid (fold_over c start step) may cells =
      fold_case c (record { known = is.node; declared = may.0 }) start step (neighbour_list places None false start)
      (neighbour_list places (Some c) false step) refl refl cells

  -- the kid that a rule is for
  kid_is : (w : RuleName) → IsInstance (meant t.checked) t.tree (target_of_rule (node_at t.tree x.node) w x.kid)
      → (c : ℕ) → child_of w ≡ Some c → IsKid t x c
  kid_is (for_self class a) there c e = absurd (let z : ⊥ = grind (arith, e) in z)
  kid_is (for_child class d a) there c e =
      let kid = kid_there (meant t.checked) t.tree fits x.node d x.kid is.node there.0 in
      subst (IsKid t x) (same_Some d c e) (record { at_child = kid.at_child; counted = kid.counted })

  -- what a step's rule reads of neighbours has the cells of the step
  pub neighbour_step : IsSound (meant t.checked)
      → AreStepCells t x (neighbour_parts_named places (meant t.checked) (rule_at (meant t.checked) x.rule))
  neighbour_step sound =
      let g = meant t.checked in
      let w = rule_at g x.rule in
      by_parts (child_of w) (kid_is w (target_there g sound.law t.tree fits x is)) (parts_named g w)
      (rule_may_stand g sound (class_at t.tree (node_at t.tree x.node)) x.rule is.rule is.class).children
      (step_cells t sound.law fits x is (parts_named g w) refl)
