use Rattle.std.proofs.Common.{◌<◌, ◌∙◌, sym, ap, subst, List, length, get_or}
use Rattle.ftl_document.specs.syntax.Written.{NameText}
use Rattle.ftl_document.proofs.fields.ExpectedPlaces.{found_there}
use Rattle.ftl_meaning.proofs.names.Names.{same_name}
use Rattle.ftl_document.proofs.fields.class_table.ClassFields.place.Goals as goal

pub returns-then-eq : goal.returns-then-eq
returns-then-eq c =
    let i = c.args.expected in
    let d = c.index-names-expected.result in
    let all = c.names-names.ensures.names in
    record {
      place = sym
          (found_there c.args.self.now.names i c.args.text.now d c.requires.differ
          (subst (λ (ns : List NameText). i < length ns) all c.if-expected-names.true)
          (ap (λ (ns : List NameText). get_or ns i d) (sym all) ∙ sym c.index-names-expected.is ∙ sym c.text.ensures.text
          ∙ same_name c.text.result.now c.args.text.now (sym c.eq.ensures ∙ c.if-eq.true)));
    }
