use Rattle.std.proofs.Common.{◌+◌, arith, sym, subst}
use Rattle.std.proofs.lemmas.Bool.{both_ways}
use Rattle.ftl_deps.specs.reads.Meant.{meant}
use Rattle.ftl_noncircular.specs.search.Tables.{port_sort}
use Rattle.ftl_noncircular.proofs.search.OwnerLaws.{attribute_count_is, shared_known}
use Rattle.ftl_noncircular.proofs.search.ReadLaws.{lawful_meant}
use Rattle.ftl_noncircular.proofs.search.TableLaws.{ArePortsBelow, ports_more, ports_same}
use Rattle.ftl_noncircular.proofs.search.tables.ports_of.Goals as goal
use Rattle.ftl_noncircular.proofs.search.tables.ports_of.Goals.{then-is_port_of+in_ok-push, else-is_port_of}
use Rattle.std.proofs.Common.{refl}

pub loop-attr-preserved : goal.loop-attr-preserved
loop-attr-preserved c =
    let g = meant c.args.checked.now in
    let sort = port_sort c.args.from_above in
    elim c.if-is_port_of.branch [
      | then-is_port_of+in_ok-push w ↦
          subst (ArePortsBelow g c.args.interface sort (c.loop-attr.attr + 1)) (sym w.ports-is)
          (ports_more g c.args.interface sort c.loop-attr.attr c.loop-attr.ports w.push.new.self c.loop-attr.invariant
          w.in_ok-push.ensures.ok (c.is_port_of.ensures.port.0 w.if-is_port_of.true))
      | else-is_port_of w ↦
          subst (ArePortsBelow g c.args.interface sort (c.loop-attr.attr + 1)) (sym w.ports-is)
          (ports_same g c.args.interface sort c.loop-attr.attr c.loop-attr.ports c.loop-attr.invariant
          (λ h. both_ways c.is_port_of.result w.if-is_port_of.false (c.is_port_of.ensures.port.1 h)))
    ]

pub returns : goal.returns
returns c = record {
  ports = record {
    are = c.loop-attr.invariant.are;
    have = λ a there is_sort. c.loop-attr.invariant.have a
        (omega (
          arith,
          shared_known (meant c.args.checked.now)
              (lawful_meant (meant c.args.checked.now) c.args.checked.now refl c.grammar-lawful.ensures.lawful
              c.grammar-lawful.ensures.kinds)
              c.args.interface a c.requires.interface there,
          attribute_count_is c.args.checked.now,
          c.attr_count-attr-end.ensures.count,
          c.loop-attr-test.false,
        )) there is_sort;
  };
}
