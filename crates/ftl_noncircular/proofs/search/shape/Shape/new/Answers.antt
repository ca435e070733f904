use Rattle.ftl_noncircular.specs.declared.search.shape.Shape.{Shape}
use Rattle.ftl_noncircular.proofs.search.ShapeLaws.{attributes_are, classes_are, ports_are}
use Rattle.ftl_noncircular.proofs.search.shape.Shape.new.Goals as goal

pub returns : goal.returns
returns c =
    let s : Shape = record {
      places = c.in_ok-places_of.field-0;
      owners = c.in_ok-owners_of.field-0;
      inherited = c.in_ok-all_ports.field-0;
      synthesized = c.in_ok-all_ports-2.field-0;
      interfaces = c.in_ok-interfaces_of.field-0;
      kids = c.in_ok-all_kids.field-0;
    } in
    record {
      shape = record {
        attributes =
            attributes_are c.args.checked.now c.grammar-lawful.ensures.lawful c.grammar-lawful.ensures.kinds s
            c.in_ok-places_of.ensures.places c.in_ok-owners_of.ensures.owners;
        ports = ports_are c.args.checked.now s c.in_ok-all_ports.ensures.ports c.in_ok-all_ports-2.ensures.ports;
        classes =
            classes_are c.args.checked.now c.grammar-lawful.ensures.lawful s c.in_ok-interfaces_of.ensures.interfaces
            c.in_ok-all_kids.ensures.kids;
      };
    }
