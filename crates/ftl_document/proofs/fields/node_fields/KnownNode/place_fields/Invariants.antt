use Rattle.std.proofs.Common.{◌≡◌, [], map, take, drop}
use Rattle.ftl_document.specs.faults.FirstFault.{field_faults, first_there}
use Rattle.ftl_document.specs.fields.OwnFields.{head_in}
use Rattle.ftl_document.specs.fields.Placed.{ArePlaced}
use Rattle.ftl_document.proofs.fields.node_fields.KnownNode.place_fields.Given as goal

abbrev pub invariant-loop-field : goal.invariant-loop-field
invariant-loop-field l = record {
  placed : ArePlaced l.self.checked.now.grammar l.self.class (take l.field-index l.fields) l.slots;
  left : first_there (field_faults l.self.checked.now.grammar l.self.number l.self.class [] (map head_in l.fields))
      ≡ first_there (field_faults l.self.checked.now.grammar l.self.number l.self.class (map head_in (take l.field-index l.fields)) (map head_in (drop l.field-index l.fields)));
}
