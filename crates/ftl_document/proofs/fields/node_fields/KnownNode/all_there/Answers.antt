use Rattle.std.proofs.Common.{◌≡◌, ◌∙◌, ap, sym, length, get_or, [], Some, arith, ◌<◌}
use Rattle.std.specs.List.{position}
use Rattle.std.specs.Option.{is_none}
use Rattle.ftl_document.specs.faults.FirstFault.{needed_names}
use Rattle.ftl_document.specs.declared.faults.fault.DocFault.TheVariants as fault
use Rattle.ftl_document.proofs.fields.FieldSteps.{missing_found, missing_none}
use Rattle.ftl_document.proofs.fields.PlaceFaults.{same_at}
use Rattle.ftl_document.proofs.fields.node_fields.KnownNode.all_there.Goals as goal

pub returns-in-None : goal.returns-in-None
returns-in-None c =
    record {
      exact = λ fields values.
          missing_none c.args.self.now.checked.now.grammar c.args.self.now.number c.args.self.now.class fields
          (ap (position is_none) (sym values ∙ sym c.deref.ensures.value) ∙ sym c.first_empty.ensures.place ∙ c.in-None.is);
    }

pub returns-in_ok-name-in-Some : goal.returns-in_ok-name-in-Some
returns-in_ok-name-in-Some c =
    record {
      exact = λ fields values memory.
          let g = c.args.self.now.checked.now.grammar in
          let n = c.args.self.now.number in
          let k = c.args.self.now.class in
          let names : c.names.result.now ≡ needed_names g k = c.names.ensures.names ∙ c.requires.known.names in
          let within = c.in-Some.ensures.within in
          let room = c.requires.room in
          let value = ap length c.deref.ensures.value in
          let below : c.in-Some.place < length (needed_names g k) = omega (arith, within, room, value) in
          missing_found g n k fields c.in-Some.place
          (ap (position is_none) (sym values ∙ sym c.deref.ensures.value) ∙ sym c.first_empty.ensures.place ∙ c.in-Some.is)
          ∙ ap (λ name. Some (fault.FieldMissing n name))
          (same_at (needed_names g k) c.in-Some.place [] c.index-names-place.result below
          ∙ ap (λ ns. get_or ns c.in-Some.place c.index-names-place.result) (sym names)
          ∙ sym c.index-names-place.is ∙ sym c.in_ok-name-in-Some.ensures.text);
    }
