use Rattle.std.proofs.Common.{refl, sym, subst, ap, ◌∙◌, length}
use Rattle.ftl_document.specs.nodes.Tables.{AreTables}
use Rattle.ftl_document.specs.pass.Parts.{first_state, state_of}
use Rattle.ftl_document.specs.pass.Steps.{IsGoodDocument}
use Rattle.ftl_document.proofs.pass.Document.{good_nodes}
use Rattle.ftl_document.proofs.pass.Steps.{width_small}
use Rattle.ftl_document.proofs.pass.read.passed_nodes.Goals as goal

pub document-requires : goal.document-requires
document-requires c = record {
  ready = record {
    lawful = c.in_ok-tables.ensures.lawful;
    tables = subst (AreTables c.args.checked.now.grammar) (sym c.as_slice-2.ensures.value) c.in_ok-tables.ensures.tables;
    count = ap length c.as_slice-2.ensures.value ∙ c.in_ok-tables.ensures.count;
    names = c.names_are_plain.ensures.plain c.if-not-names_are_plain.false;
    small = width_small c.args.greatest c.args.checked.now.width c.requires.width;
  };
}

pub returns-in-Ok : goal.returns-in-Ok
returns-in-Ok c =
    let greatest = c.args.greatest in
    let last = state_of greatest c.document.new.passed in
    record {
      nodes =
          good_nodes c.args.checked.now greatest c.args.text.now last _ c.in_ok-tables.ensures.lawful c.requires.width
          (subst (λ s. IsGoodDocument c.args.checked.now.grammar greatest s last)
          (c.in_ok-passed.ensures.first greatest ∙ ap (first_state greatest) c.as_bytes.ensures.value)
          c.in-Ok.ensures.document) refl refl;
    }
