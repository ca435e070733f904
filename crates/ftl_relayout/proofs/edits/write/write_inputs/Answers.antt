use Rattle.std.proofs.Common.{ap, sym, ◌∙◌, get_or, set, pos}
use Rattle.ftl_deps.specs.reads.Meant.{meant}
use Rattle.ftl_model.specs.layout.Values.{number}
use Rattle.ftl_edits.specs.declared.meaning.types.Edit.{Edit}
use Rattle.ftl_relayout.specs.laws.Edits.{edited_cell}
use Rattle.ftl_relayout.proofs.edits.Writing.{edit_at, written_more}
use Rattle.ftl_relayout.proofs.edits.write.write_inputs.Goals as goal

pub write_input-requires-clause-edit : goal.write_input-requires-clause-edit
write_input-requires-clause-edit c =
    let t = c.args.tree.now in
    let d : Edit = record { node = 0; attr = 0; value = pos 0 } in
    edit_at (meant t.checked) t.tree c.args.edits.now c.loop-edit.edit-index d c.requires.edits c.loop-edit-test.true

pub loop-edit-preserved : goal.loop-edit-preserved
loop-edit-preserved c =
    let t = c.args.tree.now in
    let g = meant t.checked in
    let d : Edit = record { node = 0; attr = 0; value = pos 0 } in
    let e = get_or c.args.edits.now c.loop-edit.edit-index d in
    record {
      written_are =
          c.in_ok-write_input.ensures.written
          ∙ ap (λ vs. set vs (edited_cell g t.tree e) (number e.value)) c.loop-edit.invariant.written_are
          ∙ sym (written_more g t.tree c.args.edits.now c.loop-edit.edit-index d c.args.values.now c.loop-edit-test.true);
      undone_are = c.write_input.ensures.undone ∙ c.loop-edit.invariant.undone_are;
      within = c.write_input.ensures.within;
    }
