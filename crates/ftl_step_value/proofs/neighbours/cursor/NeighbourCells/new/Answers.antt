-- The entry of the step's rule has the cells of the step.
use Rattle.std.proofs.Common.{◌≡◌, ℕ, ◌-◌, ◌<◌, List, ap, ap₂, arith, get_or, length, subst, sym, ◌∙◌}
use Rattle.std.proofs.lemmas.Grind.{common_steps}
use Rattle.ftl_deps.specs.reads.Meant.{meant}
use Rattle.ftl_model.specs.layout.Path.{node_at}
use Rattle.ftl_order.specs.declared.steps.step.Step.{Step}
use Rattle.ftl_tree.specs.trees.CheckedTree.{CheckedTree}
use Rattle.ftl_step_value.specs.neighbours.NeighbourCells.{AreNeighbours, AreNeighboursFromHere, cells_from_here, neighbour_cells}
use Rattle.ftl_step_value.specs.declared.neighbours.parts.NeighbourParts.TheVariants.{Fold, Kids, Own}
use Rattle.ftl_step_value.specs.declared.neighbours.reads.NeighbourRead.{NeighbourRead}
use Rattle.ftl_step_value.proofs.neighbours.NeighbourSteps.{AreFoldCells, AreKidCells, its_cells, kid_first, kids_first, own_first}
use Rattle.ftl_step_value.proofs.neighbours.NeighbourTable.{entry_cells, first_at}
use Rattle.ftl_step_value.proofs.neighbours.SeenCells.{AreCells, is_counted}
use Rattle.ftl_step_value.proofs.neighbours.cursor.NeighbourCells.new.Goals as goal

-- the first cells of the step's kid, and of the one before it
module _ {t : CheckedTree} {x : Step} {child : ℕ} {first later : List NeighbourRead} (here : AreKidCells t x child first later)
    (kids : List ℕ) (are : kids ≡ kids_first t x child) where
  kid_at_hand : (x.kid < length kids) × (get_or kids x.kid 0 ≡ kid_first t x child x.kid)
  kid_at_hand = first_at (meant t.checked) t.tree (node_at t.tree x.node) child x.kid kids are here.counted

  kid_before : 0 < x.kid
      → (x.kid - 1 < length kids) × (get_or kids (x.kid - 1) 0 ≡ kid_first t x child (x.kid - 1))
  kid_before some =
      let counted = here.counted in
      first_at (meant t.checked) t.tree (node_at t.tree x.node) child (x.kid - 1) kids are (omega (arith, counted, some))

pub of_part-requires : goal.of_part-requires
of_part-requires c =
    let t = c.args.tree.now in
    let x = c.args.step in
    let counted = is_counted t c.node_count-nodes.ensures.is_tree c.instance_count-cells.result
    c.instance_count-cells.ensures.count c.instance_count-cells.ensures.bound in
    let same : c.index-parts-step.result ≡ Own c.as_slice.result.now =
    grind (arith, common_steps) in
    let here : AreCells (own_first t x) 0 0 c.as_slice.result.now (its_cells t x) =
    entry_cells t counted x c.requires.step c.requires.sound c.args.parts.now
    c.requires.parts c.index-parts-step.result c.index-parts-step.is _ same in
    record {
      neighbours =
          subst (λ n. AreNeighbours n 0 0 c.as_slice.result.now) (sym c.first_instance-own.ensures.first)
          here.neighbours;
    }

pub returns-in-Own-clause-cells : goal.returns-in-Own-clause-cells
returns-in-Own-clause-cells c =
    let t = c.args.tree.now in
    let x = c.args.step in
    let counted = is_counted t c.node_count-nodes.ensures.is_tree c.instance_count-cells.result
    c.instance_count-cells.ensures.count c.instance_count-cells.ensures.bound in
    let same : c.index-parts-step.result ≡ Own c.as_slice.result.now =
    grind (arith, common_steps) in
    let here : AreCells (own_first t x) 0 0 c.as_slice.result.now (its_cells t x) =
    entry_cells t counted x c.requires.step c.requires.sound c.args.parts.now
    c.requires.parts c.index-parts-step.result c.index-parts-step.is _ same in
    c.of_part.ensures.cells
    ∙ ap (λ n. neighbour_cells n 0 0 c.as_slice.result.now) c.first_instance-own.ensures.first
    ∙ here.cells_are

pub kids_first_instances-kids-requires : goal.kids_first_instances-kids-requires
kids_first_instances-kids-requires c =
    let t = c.args.tree.now in
    let x = c.args.step in
    let counted = is_counted t c.node_count-nodes.ensures.is_tree c.instance_count-cells.result
    c.instance_count-cells.ensures.count c.instance_count-cells.ensures.bound in
    let same : c.index-parts-step.result ≡ Kids c.in-Kids.child c.in-Kids.first c.in-Kids.later =
    grind (arith, common_steps) in
    let here : AreKidCells t x c.in-Kids.child c.in-Kids.first c.in-Kids.later =
    entry_cells t counted x c.requires.step c.requires.sound c.args.parts.now
    c.requires.parts c.index-parts-step.result c.index-parts-step.is _ same in
    record { at = here.at_child }

pub bounds-kids-step : goal.bounds-kids-step
bounds-kids-step c =
    let t = c.args.tree.now in
    let x = c.args.step in
    let counted = is_counted t c.node_count-nodes.ensures.is_tree c.instance_count-cells.result
    c.instance_count-cells.ensures.count c.instance_count-cells.ensures.bound in
    let same : c.index-parts-step.result ≡ Kids c.in-Kids.child c.in-Kids.first c.in-Kids.later =
    grind (arith, common_steps) in
    let here : AreKidCells t x c.in-Kids.child c.in-Kids.first c.in-Kids.later =
    entry_cells t counted x c.requires.step c.requires.sound c.args.parts.now
    c.requires.parts c.index-parts-step.result c.index-parts-step.is _ same in
    (kid_at_hand here c.kids_first_instances-kids.result.now c.kids_first_instances-kids.ensures.firsts).0

pub of_part-requires-then-step-eq0 : goal.of_part-requires-then-step-eq0
of_part-requires-then-step-eq0 c =
    let t = c.args.tree.now in
    let x = c.args.step in
    let counted = is_counted t c.node_count-nodes.ensures.is_tree c.instance_count-cells.result
    c.instance_count-cells.ensures.count c.instance_count-cells.ensures.bound in
    let same : c.index-parts-step.result ≡ Kids c.in-Kids.child c.as_slice-then-step-eq0.result.now c.in-Kids.later =
    grind (arith, common_steps) in
    let here : AreKidCells t x c.in-Kids.child c.as_slice-then-step-eq0.result.now c.in-Kids.later =
    entry_cells t counted x c.requires.step c.requires.sound c.args.parts.now
    c.requires.parts c.index-parts-step.result c.index-parts-step.is _ same in
    record {
      neighbours =
          subst (λ n. AreNeighbours n (get_or c.kids_first_instances-kids.result.now x.kid 0) 0 c.as_slice-then-step-eq0.result.now)
          (sym c.first_instance-own.ensures.first)
          (subst (λ n. AreNeighbours (own_first t x) n 0 c.as_slice-then-step-eq0.result.now)
          (sym (kid_at_hand here c.kids_first_instances-kids.result.now c.kids_first_instances-kids.ensures.firsts).1)
          (here.at_first c.if-step-eq0.true).neighbours);
    }

pub returns-then-step-eq0-clause-cells : goal.returns-then-step-eq0-clause-cells
returns-then-step-eq0-clause-cells c =
    let t = c.args.tree.now in
    let x = c.args.step in
    let counted = is_counted t c.node_count-nodes.ensures.is_tree c.instance_count-cells.result
    c.instance_count-cells.ensures.count c.instance_count-cells.ensures.bound in
    let same : c.index-parts-step.result ≡ Kids c.in-Kids.child c.as_slice-then-step-eq0.result.now c.in-Kids.later =
    grind (arith, common_steps) in
    let here : AreKidCells t x c.in-Kids.child c.as_slice-then-step-eq0.result.now c.in-Kids.later =
    entry_cells t counted x c.requires.step c.requires.sound c.args.parts.now
    c.requires.parts c.index-parts-step.result c.index-parts-step.is _ same in
    c.of_part-then-step-eq0.ensures.cells
    ∙ ap₂ (λ m n. neighbour_cells m n 0 c.as_slice-then-step-eq0.result.now) c.first_instance-own.ensures.first
    (kid_at_hand here c.kids_first_instances-kids.result.now c.kids_first_instances-kids.ensures.firsts).1
    ∙ (here.at_first c.if-step-eq0.true).cells_are

pub bounds-kids-step-in-Kids : goal.bounds-kids-step-in-Kids
bounds-kids-step-in-Kids c =
    let t = c.args.tree.now in
    let x = c.args.step in
    let counted = is_counted t c.node_count-nodes.ensures.is_tree c.instance_count-cells.result
    c.instance_count-cells.ensures.count c.instance_count-cells.ensures.bound in
    let same : c.index-parts-step.result ≡ Kids c.in-Kids.child c.in-Kids.first c.in-Kids.later =
    grind (arith, common_steps) in
    let here : AreKidCells t x c.in-Kids.child c.in-Kids.first c.in-Kids.later =
    entry_cells t counted x c.requires.step c.requires.sound c.args.parts.now
    c.requires.parts c.index-parts-step.result c.index-parts-step.is _ same in
    let not_first = c.if-step-eq0.false in
    let some : 0 < x.kid = grind (arith, not_first) in
    let one = kid_before here c.kids_first_instances-kids.result.now c.kids_first_instances-kids.ensures.firsts some in
    one.0

pub of_part-requires-in-Kids : goal.of_part-requires-in-Kids
of_part-requires-in-Kids c =
    let t = c.args.tree.now in
    let x = c.args.step in
    let counted = is_counted t c.node_count-nodes.ensures.is_tree c.instance_count-cells.result
    c.instance_count-cells.ensures.count c.instance_count-cells.ensures.bound in
    let same : c.index-parts-step.result ≡ Kids c.in-Kids.child c.in-Kids.first c.as_slice-in-Kids.result.now =
    grind (arith, common_steps) in
    let here : AreKidCells t x c.in-Kids.child c.in-Kids.first c.as_slice-in-Kids.result.now =
    entry_cells t counted x c.requires.step c.requires.sound c.args.parts.now
    c.requires.parts c.index-parts-step.result c.index-parts-step.is _ same in
    let firsts = c.kids_first_instances-kids.result.now in
    let not_first = c.if-step-eq0.false in
    let some : 0 < x.kid = grind (arith, not_first) in
    let one = kid_before here c.kids_first_instances-kids.result.now c.kids_first_instances-kids.ensures.firsts some in
    record {
      neighbours =
          subst
          (λ n. AreNeighbours n (get_or firsts x.kid 0) (get_or firsts (x.kid - 1) 0) c.as_slice-in-Kids.result.now)
          (sym c.first_instance-own.ensures.first)
          (subst (λ n. AreNeighbours (own_first t x) n (get_or firsts (x.kid - 1) 0) c.as_slice-in-Kids.result.now)
          (sym (kid_at_hand here firsts c.kids_first_instances-kids.ensures.firsts).1)
          (subst
          (λ n. AreNeighbours (own_first t x) (kid_first t x c.in-Kids.child x.kid) n c.as_slice-in-Kids.result.now)
          (sym one.1) (here.at_later some).neighbours));
    }

pub returns-else-step-eq0-clause-cells : goal.returns-else-step-eq0-clause-cells
returns-else-step-eq0-clause-cells c =
    let t = c.args.tree.now in
    let x = c.args.step in
    let counted = is_counted t c.node_count-nodes.ensures.is_tree c.instance_count-cells.result
    c.instance_count-cells.ensures.count c.instance_count-cells.ensures.bound in
    let same : c.index-parts-step.result ≡ Kids c.in-Kids.child c.in-Kids.first c.as_slice-in-Kids.result.now =
    grind (arith, common_steps) in
    let here : AreKidCells t x c.in-Kids.child c.in-Kids.first c.as_slice-in-Kids.result.now =
    entry_cells t counted x c.requires.step c.requires.sound c.args.parts.now
    c.requires.parts c.index-parts-step.result c.index-parts-step.is _ same in
    let firsts = c.kids_first_instances-kids.result.now in
    let not_first = c.if-step-eq0.false in
    let some : 0 < x.kid = grind (arith, not_first) in
    let one = kid_before here c.kids_first_instances-kids.result.now c.kids_first_instances-kids.ensures.firsts some in
    c.of_part-in-Kids.ensures.cells
    ∙ ap
    (λ n. neighbour_cells n (get_or firsts x.kid 0) (get_or firsts (x.kid - 1) 0) c.as_slice-in-Kids.result.now)
    c.first_instance-own.ensures.first
    ∙ ap₂ (λ n m. neighbour_cells (own_first t x) n m c.as_slice-in-Kids.result.now)
    (kid_at_hand here firsts c.kids_first_instances-kids.ensures.firsts).1 one.1
    ∙ (here.at_later some).cells_are

pub kids_first_instances-requires : goal.kids_first_instances-requires
kids_first_instances-requires c =
    let t = c.args.tree.now in
    let x = c.args.step in
    let counted = is_counted t c.node_count-nodes.ensures.is_tree c.instance_count-cells.result
    c.instance_count-cells.ensures.count c.instance_count-cells.ensures.bound in
    let same : c.index-parts-step.result
    ≡ Fold c.in-Fold.child c.as_slice-in-Fold.result.now c.as_slice-in-Fold-2.result.now =
    grind (arith, common_steps) in
    let here : AreFoldCells t x c.in-Fold.child c.as_slice-in-Fold.result.now c.as_slice-in-Fold-2.result.now =
    entry_cells t counted x c.requires.step c.requires.sound c.args.parts.now
    c.requires.parts c.index-parts-step.result c.index-parts-step.is _ same in
    record { at = here.at_child }

pub invariant_of-result : goal.invariant_of-result
invariant_of-result c =
    let t = c.args.tree.now in
    let x = c.args.step in
    let counted = is_counted t c.node_count-nodes.ensures.is_tree c.instance_count-cells.result
    c.instance_count-cells.ensures.count c.instance_count-cells.ensures.bound in
    let same : c.index-parts-step.result
    ≡ Fold c.in-Fold.child c.as_slice-in-Fold.result.now c.as_slice-in-Fold-2.result.now =
    grind (arith, common_steps) in
    let here : AreFoldCells t x c.in-Fold.child c.as_slice-in-Fold.result.now c.as_slice-in-Fold-2.result.now =
    entry_cells t counted x c.requires.step c.requires.sound c.args.parts.now
    c.requires.parts c.index-parts-step.result c.index-parts-step.is _ same in
    subst
    (λ n. AreNeighboursFromHere n 0 0 c.as_slice-in-Fold.result.now c.as_slice-in-Fold-2.result.now
    c.kids_first_instances.result.now)
    (sym c.first_instance-own.ensures.first)
    (subst
    (AreNeighboursFromHere (own_first t x) 0 0 c.as_slice-in-Fold.result.now c.as_slice-in-Fold-2.result.now)
    (sym c.kids_first_instances.ensures.firsts) here.neighbours)

pub returns-in-Fold-clause-cells : goal.returns-in-Fold-clause-cells
returns-in-Fold-clause-cells c =
    let t = c.args.tree.now in
    let x = c.args.step in
    let counted = is_counted t c.node_count-nodes.ensures.is_tree c.instance_count-cells.result
    c.instance_count-cells.ensures.count c.instance_count-cells.ensures.bound in
    let same : c.index-parts-step.result
    ≡ Fold c.in-Fold.child c.as_slice-in-Fold.result.now c.as_slice-in-Fold-2.result.now =
    grind (arith, common_steps) in
    let here : AreFoldCells t x c.in-Fold.child c.as_slice-in-Fold.result.now c.as_slice-in-Fold-2.result.now =
    entry_cells t counted x c.requires.step c.requires.sound c.args.parts.now
    c.requires.parts c.index-parts-step.result c.index-parts-step.is _ same in
    ap₂
    (λ n ks. cells_from_here n 0 0 c.as_slice-in-Fold.result.now c.as_slice-in-Fold-2.result.now ks)
    c.first_instance-own.ensures.first c.kids_first_instances.ensures.firsts
    ∙ here.cells_are
