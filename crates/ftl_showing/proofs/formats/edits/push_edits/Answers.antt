use Rattle.ftl_showing.proofs.formats.edits.push_edits.Goals as goal

pub push_edit-requires : goal.push_edit-requires
push_edit-requires c = record {
  editable = c.requires.editable c.loop-edit.edit-index _ c.loop-edit-test.true;
}
