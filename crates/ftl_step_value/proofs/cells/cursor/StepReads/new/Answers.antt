-- The parts of the step's rule read what is there.
use Rattle.std.proofs.Common.{◌≡◌, ◌+◌, ◌<◌, ap, arith, map, subst, sym, ◌∙◌}
use Rattle.std.proofs.lemmas.Grind.{common_steps}
use Rattle.ftl_model.specs.layout.AttributeGrammar.{Parts, first_then, fold_over, plain}
use Rattle.ftl_deps.specs.parts.RuleParts.{parts_meant, read_meant}
use Rattle.ftl_deps.specs.declared.parts.rule_parts.RuleParts.TheVariants.{FirstThen, FoldOver, Plain}
use Rattle.ftl_visit.specs.step_reads.StepReads.{AreOfChildren, children_in, kids_in}
use Rattle.ftl_step_value.specs.cells.Cursor.{seen_from_here}
use Rattle.ftl_step_value.specs.cells.Seen.{EachIsSeen, cell_seen}
use Rattle.ftl_step_value.proofs.cells.KidCells.{first_seen, later_seen}
use Rattle.ftl_step_value.proofs.cells.SeenReads.{part_there, start_there, step_there}
use Rattle.ftl_step_value.proofs.cells.StepCells.{StepCells, step_cells}
use Rattle.ftl_step_value.proofs.cells.cursor.StepReads.new.Goals as goal

pub of_part-requires-clause-reads : goal.of_part-requires-clause-reads
of_part-requires-clause-reads c =
    let t = c.args.tree.now in
    let x = c.args.step in
    let reads = map read_meant c.as_slice.result.now in
    let same : c.step_parts-parts.result.now ≡ Plain c.as_slice.result.now = grind (arith, common_steps) in
    let is : parts_meant c.step_parts-parts.result.now ≡ plain reads = ap parts_meant same in
    let here : StepCells t x (plain reads) =
    step_cells t c.requires.sound.law c.node_count-nodes.ensures.is_tree x c.requires.step (plain reads)
    (sym is ∙ c.step_parts-parts.ensures.parts) in
    part_there t x.node x.kid reads
    (subst (λ (p : Parts). AreOfChildren (children_in t x.node) p) is c.step_parts-parts.ensures.may.children) here.all

pub returns-in-Plain : goal.returns-in-Plain
returns-in-Plain c =
    let t = c.args.tree.now in
    let x = c.args.step in
    let reads = map read_meant c.as_slice.result.now in
    let same : c.step_parts-parts.result.now ≡ Plain c.as_slice.result.now = grind (arith, common_steps) in
    let is : parts_meant c.step_parts-parts.result.now ≡ plain reads = ap parts_meant same in
    let here : StepCells t x (plain reads) =
    step_cells t c.requires.sound.law c.node_count-nodes.ensures.is_tree x c.requires.step (plain reads)
    (sym is ∙ c.step_parts-parts.ensures.parts) in
    record { cells = c.of_part.ensures.cells ∙ here.cells }

pub of_part-requires-then-step-eq0-clause-reads : goal.of_part-requires-then-step-eq0-clause-reads
of_part-requires-then-step-eq0-clause-reads c =
    let t = c.args.tree.now in
    let x = c.args.step in
    let first = map read_meant c.as_slice-then-step-eq0.result.now in
    let later = map read_meant c.in-FirstThen.later in
    let same : c.step_parts-parts.result.now ≡ FirstThen c.as_slice-then-step-eq0.result.now c.in-FirstThen.later =
    grind (arith, common_steps) in
    let is : parts_meant c.step_parts-parts.result.now ≡ first_then first later = ap parts_meant same in
    let here : StepCells t x (first_then first later) =
    step_cells t c.requires.sound.law c.node_count-nodes.ensures.is_tree x c.requires.step (first_then first later)
    (sym is ∙ c.step_parts-parts.ensures.parts) in
    part_there t x.node x.kid first
    (subst (λ (p : Parts). AreOfChildren (children_in t x.node) p) is c.step_parts-parts.ensures.may.children).0
    (subst (EachIsSeen t x.node) (first_seen (kids_in t x.node) x.kid first later c.if-step-eq0.true) here.all)

pub returns-then-step-eq0 : goal.returns-then-step-eq0
returns-then-step-eq0 c =
    let t = c.args.tree.now in
    let x = c.args.step in
    let first = map read_meant c.as_slice-then-step-eq0.result.now in
    let later = map read_meant c.in-FirstThen.later in
    let same : c.step_parts-parts.result.now ≡ FirstThen c.as_slice-then-step-eq0.result.now c.in-FirstThen.later =
    grind (arith, common_steps) in
    let is : parts_meant c.step_parts-parts.result.now ≡ first_then first later = ap parts_meant same in
    let here : StepCells t x (first_then first later) =
    step_cells t c.requires.sound.law c.node_count-nodes.ensures.is_tree x c.requires.step (first_then first later)
    (sym is ∙ c.step_parts-parts.ensures.parts) in
    record {
      cells =
          c.of_part-then-step-eq0.ensures.cells
          ∙ ap (map (cell_seen t x.node)) (sym (first_seen (kids_in t x.node) x.kid first later c.if-step-eq0.true))
          ∙ here.cells;
    }

pub of_part-requires-in-FirstThen-clause-reads : goal.of_part-requires-in-FirstThen-clause-reads
of_part-requires-in-FirstThen-clause-reads c =
    let t = c.args.tree.now in
    let x = c.args.step in
    let first = map read_meant c.in-FirstThen.first in
    let later = map read_meant c.as_slice-in-FirstThen.result.now in
    let same : c.step_parts-parts.result.now ≡ FirstThen c.in-FirstThen.first c.as_slice-in-FirstThen.result.now =
    grind (arith, common_steps) in
    let is : parts_meant c.step_parts-parts.result.now ≡ first_then first later = ap parts_meant same in
    let here : StepCells t x (first_then first later) =
    step_cells t c.requires.sound.law c.node_count-nodes.ensures.is_tree x c.requires.step (first_then first later)
    (sym is ∙ c.step_parts-parts.ensures.parts) in
    let not_first = c.if-step-eq0.false in
    let some : 0 < x.kid = grind (arith, not_first) in
    part_there t x.node x.kid later
    (subst (λ (p : Parts). AreOfChildren (children_in t x.node) p) is c.step_parts-parts.ensures.may.children).1
    (subst (EachIsSeen t x.node) (later_seen (kids_in t x.node) x.kid first later some) here.all)

pub returns-else-step-eq0 : goal.returns-else-step-eq0
returns-else-step-eq0 c =
    let t = c.args.tree.now in
    let x = c.args.step in
    let first = map read_meant c.in-FirstThen.first in
    let later = map read_meant c.as_slice-in-FirstThen.result.now in
    let same : c.step_parts-parts.result.now ≡ FirstThen c.in-FirstThen.first c.as_slice-in-FirstThen.result.now =
    grind (arith, common_steps) in
    let is : parts_meant c.step_parts-parts.result.now ≡ first_then first later = ap parts_meant same in
    let here : StepCells t x (first_then first later) =
    step_cells t c.requires.sound.law c.node_count-nodes.ensures.is_tree x c.requires.step (first_then first later)
    (sym is ∙ c.step_parts-parts.ensures.parts) in
    let not_first = c.if-step-eq0.false in
    let some : 0 < x.kid = grind (arith, not_first) in
    record {
      cells =
          c.of_part-in-FirstThen.ensures.cells
          ∙ ap (map (cell_seen t x.node)) (sym (later_seen (kids_in t x.node) x.kid first later some))
          ∙ here.cells;
    }

pub invariant_of-result : goal.invariant_of-result
invariant_of-result c =
    let t = c.args.tree.now in
    let x = c.args.step in
    let child = c.in-FoldOver.child in
    let start = map read_meant c.as_slice-in-FoldOver.result.now in
    let step = map read_meant c.as_slice-in-FoldOver-2.result.now in
    let same : c.step_parts-parts.result.now
    ≡ FoldOver child c.as_slice-in-FoldOver.result.now c.as_slice-in-FoldOver-2.result.now =
    grind (arith, common_steps) in
    let is : parts_meant c.step_parts-parts.result.now ≡ fold_over child start step = ap parts_meant same in
    let here : StepCells t x (fold_over child start step) =
    step_cells t c.requires.sound.law c.node_count-nodes.ensures.is_tree x c.requires.step (fold_over child start step)
    (sym is ∙ c.step_parts-parts.ensures.parts) in
    let may = subst (λ (p : Parts). AreOfChildren (children_in t x.node) p) is c.step_parts-parts.ensures.may.children in
    let m = kids_in t x.node child in
    let few = c.kid_count.type_inv in
    let count = c.kid_count.ensures.count in
    record {
      node_known = c.requires.step.node;
      here = start_there t x.node x.kid start step m may.1 here.all;
      later = λ kid from below.
          step_there t x.node x.kid start step m may.2 here.all kid from (let z : kid < 0 + m = omega (arith, below, count) in z);
      few = omega (arith, few);
    }

pub returns-in-FoldOver : goal.returns-in-FoldOver
returns-in-FoldOver c =
    let t = c.args.tree.now in
    let x = c.args.step in
    let child = c.in-FoldOver.child in
    let start = map read_meant c.as_slice-in-FoldOver.result.now in
    let step = map read_meant c.as_slice-in-FoldOver-2.result.now in
    let same : c.step_parts-parts.result.now
    ≡ FoldOver child c.as_slice-in-FoldOver.result.now c.as_slice-in-FoldOver-2.result.now =
    grind (arith, common_steps) in
    let is : parts_meant c.step_parts-parts.result.now ≡ fold_over child start step = ap parts_meant same in
    let here : StepCells t x (fold_over child start step) =
    step_cells t c.requires.sound.law c.node_count-nodes.ensures.is_tree x c.requires.step (fold_over child start step)
    (sym is ∙ c.step_parts-parts.ensures.parts) in
    record {
      cells =
          ap (λ n. map (cell_seen t x.node) (seen_from_here t x.node x.kid start step 0 n)) c.kid_count.ensures.count
          ∙ here.cells;
    }
