-- The table of what rules read of neighbours, entry by entry.
use Rattle.std.proofs.Common.{◌≡◌, ℕ, ◌+◌, ◌<◌, List, get_or, length, Option, Some, None, refl, sym, ◌∙◌, ap, subst, arith}
use Rattle.std.proofs.lemmas.List.{get_or-map, length-map}
use Rattle.std.proofs.lemmas.List.FromFn.{get_or-map-range_with_len, length-map-range_with_len}
use Rattle.ftl_deps.specs.reads.Meant.{meant}
use Rattle.ftl_deps.specs.reads.Products.{name_of_child}
use Rattle.ftl_step_value.specs.limits.reads.ReadTables.{IsSound}
use Rattle.ftl_model.specs.layout.AttributeGrammar.{AttributeGrammar, for_self}
use Rattle.ftl_model.specs.layout.Path.{Path, down, kids_at}
use Rattle.ftl_model.specs.layout.Table.{first_instance}
use Rattle.ftl_model.specs.layout.Tree.{Forest}
use Rattle.ftl_order.specs.steps.Steps.{IsStepOf, rule_at}
use Rattle.ftl_order.specs.declared.steps.step.Step.{Step}
use Rattle.ftl_tree.specs.trees.CheckedTree.{CheckedTree}
use Rattle.ftl_tree.specs.rows.KidRuns.{kid_first_instances}
use Rattle.ftl_step_value.specs.neighbours.NeighbourParts.{AreNeighbourParts, child_of, neighbour_parts_named}
use Rattle.ftl_step_value.specs.neighbours.NeighbourParts.{neighbour_table}
use Rattle.ftl_step_value.specs.declared.neighbours.parts.NeighbourParts.{NeighbourParts}
use Rattle.ftl_step_value.proofs.neighbours.NeighbourSteps.{AreStepCells, neighbour_step}
use Rattle.ftl_step_value.proofs.neighbours.SeenCells.{IsCounted}

-- the child of what is known of a rule
pub name_entry : (k a : ℕ) (child : Option ℕ) → child_of (name_of_child k a child) ≡ child
name_entry k a None = refl
name_entry k a (Some c) = refl

-- the entry of a rule
pub table_at : (places : List ℕ) (g : AttributeGrammar) (parts : List NeighbourParts) → parts ≡ neighbour_table places g
    → (r : ℕ) (d : NeighbourParts) → r < length g.rules
    → (r < length parts) × (get_or parts r d ≡ neighbour_parts_named places g (rule_at g r))
table_at places g parts are r d within = (
  (let long : length parts ≡ length g.rules = ap length are ∙ length-map g.rules (neighbour_parts_named places g) in
      let z : r < length parts = omega (arith, long, within) in
      z),
  ap (λ (xs : List NeighbourParts). get_or xs r d) are ∙ get_or-map (neighbour_parts_named places g) g.rules r (for_self 0 0) d within,
)

-- that of a step's rule has the cells of the step
pub entry_cells : (t : CheckedTree) → IsCounted t → (x : Step)
    → IsStepOf (meant t.checked) t.tree x
    → IsSound (meant t.checked) → (parts : List NeighbourParts) → AreNeighbourParts t.checked parts → (found : NeighbourParts)
    → found ≡ get_or parts x.rule found → (entry : NeighbourParts) → found ≡ entry → AreStepCells t x entry
entry_cells t counted x is sound parts are found at entry same =
    subst (AreStepCells t x)
    (sym (at ∙ (table_at are.places (meant t.checked) parts are.table x.rule found is.rule).1) ∙ same)
    (neighbour_step t counted are.places are.places_are x is sound)

-- the first cell of a kid stands at its place
pub first_at : (g : AttributeGrammar) (t : Forest) (p : Path) (c k : ℕ) (firsts : List ℕ)
    → firsts ≡ kid_first_instances g t p c → k < kids_at t p c
    → (k < length firsts) × (get_or firsts k 0 ≡ first_instance g t (down c k p))
first_at g t p c k firsts are within =
    let long : length firsts ≡ kids_at t p c =
    ap length are ∙ length-map-range_with_len (λ j. first_instance g t (down c j p)) 0 (kids_at t p c) in (
      (let z : k < length firsts = omega (arith, long, within) in z),
      ap (λ ns. get_or ns k 0) are
          ∙ get_or-map-range_with_len (λ j. first_instance g t (down c j p)) 0 (kids_at t p c) k k 0 within
          (let z : 0 + k ≡ k = omega arith in z),
    )
