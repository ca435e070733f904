use Rattle.std.proofs.Common.{◌∙◌, sym, ap}
use Rattle.std.proofs.lemmas.Bool.{both_ways}
use Rattle.ftl_meaning.specs.declared.faults.info.AttrInfo.{AttrInfo}
use Rattle.ftl_noncircular.specs.search.Tables.{is_port}
use Rattle.ftl_noncircular.proofs.search.OwnerLaws.{no_port, port_tells}
use Rattle.ftl_noncircular.proofs.search.tables.is_port_of.Goals as goal

pub returns-then-info : goal.returns-then-info
returns-then-info c = record {
  port =
      no_port c.args.checked.now c.grammar-lawful.ensures.lawful c.grammar-lawful.ensures.kinds c.args.attr
      c.args.interface
      c.requires.attr c.requires.interface c.args.from_above
      (λ shared owner. both_ways c.attr-info.result.of_class
      (ap (λ (x : AttrInfo). x.of_class) c.attr-info.ensures.info ∙ shared) c.if-info.true);
}

pub returns-then-info-interface : goal.returns-then-info-interface
returns-then-info-interface c = record {
  port =
      no_port c.args.checked.now c.grammar-lawful.ensures.lawful c.grammar-lawful.ensures.kinds c.args.attr
      c.args.interface
      c.requires.attr c.requires.interface c.args.from_above
      (λ shared owner. c.if-info-interface.true
      (ap (λ (x : AttrInfo). x.owner) c.attr-info.ensures.info ∙ owner));
}

pub returns : goal.returns
returns c = record {
  port =
      port_tells c.args.checked.now c.grammar-lawful.ensures.lawful c.grammar-lawful.ensures.kinds c.args.attr
      c.args.interface c.requires.attr c.requires.interface c.args.from_above
      (sym (ap (λ (x : AttrInfo). x.of_class) c.attr-info.ensures.info) ∙ c.if-info.false)
      (sym (ap (λ (x : AttrInfo). x.owner) c.attr-info.ensures.info) ∙ c.if-info-interface.false)
      c.is_port.result
      (c.is_port.ensures.port
      ∙ ap (λ (x : AttrInfo). is_port c.args.from_above x.kind) c.attr-info.ensures.info);
}
