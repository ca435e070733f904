use Rattle.std.proofs.Common.{◌∙◌, ap, sym}
use Rattle.ftl_meaning.specs.faults.Checked.{class_named}
use Rattle.ftl_document.proofs.fields.NodeFaults.{class_within}
use Rattle.ftl_document.proofs.fields.class_check.known_class.Goals as goal

pub interface_of-interface-requires : goal.interface_of-interface-requires
interface_of-interface-requires c =
    let g = c.args.checked.now.grammar in
    record {
      within = class_within g c.args.class.now c.in-Some.found
          (ap (class_named g) (sym c.text.ensures.text) ∙ sym c.in-Some.ensures.class);
    }
