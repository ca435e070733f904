-- The cursor goes on by a read, or to the next kid.
use Rattle.std.proofs.Common.{◌≡◌, [], ◌∷◌, ◌+◌, ◌<◌, ap, subst, sym, ◌∙◌, arith, List, drop, get_or, map, None}
use Rattle.std.proofs.lemmas.Grind.{common_steps}
use Rattle.std.specs.List.{cons_option}
use Rattle.ftl_model.specs.layout.AttributeGrammar.{Read}
use Rattle.ftl_deps.specs.parts.RuleParts.{read_meant}
use Rattle.ftl_deps.specs.declared.parts.part_read.PartRead.TheVariants.{Own}
use Rattle.ftl_step_value.specs.cells.Cursor.{IsThereFromHere, reads_left, seen_from_here}
use Rattle.ftl_step_value.specs.cells.Seen.{cell_seen}
use Rattle.ftl_step_value.proofs.cells.CursorSteps.{cells_first, next_there, read_there, reads_end, reads_first, rest_there, seen_next}
use Rattle.ftl_step_value.proofs.cells.cursor.StepReads.next.Goals as goal

pub read_cell-cell-requires-clause-there : goal.read_cell-cell-requires-clause-there
read_cell-cell-requires-clause-there c =
    let i = c.loop-self.self-inside in
    let t = i.tree.now in
    let step = map read_meant i.step.now in
    let r = read_meant (get_or i.reads.now i.place (Own 0)) in
    let rest = map read_meant (drop (i.place + 1) i.reads.now) in
    let first : reads_left i ≡ r ∷ rest = reads_first i.reads.now i.place (Own 0) c.if-self.true in
    read_there t i.node i.at_hand step i.next_kid i.kids_left r rest
    (subst (λ (rs : List Read). IsThereFromHere t i.node i.at_hand rs step i.next_kid i.kids_left) first
    c.loop-self.invariant.cursor)

pub invariant_of-self : goal.invariant_of-self
invariant_of-self c =
    let i = c.loop-self.self-inside in
    let t = i.tree.now in
    let step = map read_meant i.step.now in
    let r = read_meant (get_or i.reads.now i.place (Own 0)) in
    let rest = map read_meant (drop (i.place + 1) i.reads.now) in
    let first : reads_left i ≡ r ∷ rest = reads_first i.reads.now i.place (Own 0) c.if-self.true in
    rest_there t i.node i.at_hand step i.next_kid i.kids_left r rest
    (subst (λ (rs : List Read). IsThereFromHere t i.node i.at_hand rs step i.next_kid i.kids_left) first
    c.loop-self.invariant.cursor)

pub loop-self-preserved-else-is_some : goal.loop-self-preserved-else-is_some
loop-self-preserved-else-is_some c =
    let i = c.loop-self.self-inside in
    let t = i.tree.now in
    let step = map read_meant i.step.now in
    let r = read_meant (get_or i.reads.now i.place (Own 0)) in
    let rest = map read_meant (drop (i.place + 1) i.reads.now) in
    let first : reads_left i ≡ r ∷ rest = reads_first i.reads.now i.place (Own 0) c.if-self.true in
    let cell = c.read_cell-cell.result in
    let none : cell ≡ None = grind (arith, common_steps) in
    let others = map (cell_seen t i.node) (seen_from_here t i.node i.at_hand rest step i.next_kid i.kids_left) in
    record {
      cursor =
          rest_there t i.node i.at_hand step i.next_kid i.kids_left r rest
          (subst (λ (rs : List Read). IsThereFromHere t i.node i.at_hand rs step i.next_kid i.kids_left) first
          c.loop-self.invariant.cursor);
      left =
          sym (ap (λ o. cons_option o others) none)
          ∙ sym
          (cells_first t i.node i.at_hand step i.next_kid i.kids_left r rest cell c.read_cell-cell.ensures.cell)
          ∙ sym
          (ap (λ (rs : List Read). map (cell_seen t i.node) (seen_from_here t i.node i.at_hand rs step i.next_kid
          i.kids_left)) first)
          ∙ c.loop-self.invariant.left;
    }

pub loop-self-preserved : goal.loop-self-preserved
loop-self-preserved c =
    let i = c.loop-self.self-inside in
    let t = i.tree.now in
    let step = map read_meant i.step.now in
    let not_all = c.if-self-eq0.false in
    let some : 0 < i.kids_left = grind (arith, not_all) in
    let none : reads_left i ≡ [] = reads_end i.reads.now i.place c.if-self.false in
    record {
      cursor =
          next_there t i.node i.at_hand step i.next_kid i.kids_left (reads_left i) some c.loop-self.invariant.cursor;
      left =
          ap (map (cell_seen t i.node)) (sym (seen_next t i.node i.at_hand step i.next_kid i.kids_left some))
          ∙ sym
          (ap (λ (rs : List Read). map (cell_seen t i.node) (seen_from_here t i.node i.at_hand rs step i.next_kid
          i.kids_left)) none)
          ∙ c.loop-self.invariant.left;
    }
