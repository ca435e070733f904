use Rattle.std.proofs.Common.{◌++◌, ◌∙◌, refl, ap, length, take, replicate, None}
use Rattle.std.proofs.lemmas.List.{length-map}
use Rattle.ftl_document.specs.faults.FirstFault.{needed_names}
use Rattle.ftl_document.specs.fields.OwnFields.{slot_of}
use Rattle.ftl_document.proofs.fields.FieldSteps.{placed_none, fields_step, placed_more}
use Rattle.ftl_document.proofs.fields.node_fields.KnownNode.place_fields.Goals as goal

pub place-requires-clause-room : goal.place-requires-clause-room
place-requires-clause-room c =
    ap length c.loop-field.invariant.placed.values
    ∙ length-map (needed_names c.args.self.now.checked.now.grammar c.args.self.now.class) (slot_of (take c.loop-field.field-index c.args.fields.now))

pub loop-field-init : goal.loop-field-init
loop-field-init c =
    record {
      placed = placed_none c.args.self.now.checked.now.grammar c.args.self.now.class (length c.names.result.now) _ refl
          (ap length (c.names.ensures.names ∙ c.requires.known.names))
          (c.in_ok-add_empty.ensures.added ∙ ap (λ xs. xs ++ replicate (length c.names.result.now) None) c.clear.ensures.items);
      left = refl;
    }

pub loop-field-preserved : goal.loop-field-preserved
loop-field-preserved c =
    let g = c.args.self.now.checked.now.grammar in
    let n = c.args.self.now.number in
    let k = c.args.self.now.class in
    let i = c.loop-field.field-index in
    let xs = c.args.fields.now in
    let held = c.loop-field.invariant in
    record {
      placed = placed_more g n k xs i c.field-item.result c.loop-field-test.true c.field-item.is c.place.new.slots
          (c.in_ok-place.ensures.placed (take i xs) held.placed);
      left = held.left
          ∙ fields_step g n k xs i c.field-item.result c.loop-field-test.true c.field-item.is
          (c.in_ok-place.ensures.exact (take i xs) held.placed);
    }
