use Rattle.std.proofs.Common.{◌∙◌, ap}
use Rattle.ftl_deps.specs.reads.Meant.{meant}
use Rattle.ftl_meaning.specs.faults.Checked.{CheckedGrammar}
use Rattle.ftl_model.specs.layout.AttributeGrammar.{is_input}
use Rattle.maugzeris.specs.pages.PageState.{class_on}
use Rattle.maugzeris.proofs.pages.NodeAttributes.{if_of_another, if_of_class}
use Rattle.maugzeris.proofs.pages.page.Page.is_input.Goals as goal

pub returns-then-has_attribute : goal.returns-then-has_attribute
returns-then-has_attribute c =
    let p = c.args.self.now in
    record {
      input =
          if_of_class (meant p.checked) (class_on p c.args.node) c.args.attr c.has_attribute.result c.is_input.result
          c.has_attribute.ensures.has c.if-has_attribute.true
          (c.is_input.ensures.input
          ∙ ap (λ (k : CheckedGrammar). is_input ((meant k).sort c.args.attr))
          (c.checked.ensures.checked ∙ c.grammar.ensures.grammar));
    }

pub returns-else-has_attribute : goal.returns-else-has_attribute
returns-else-has_attribute c =
    let p = c.args.self.now in
    record {
      input =
          if_of_another (meant p.checked) (class_on p c.args.node) c.args.attr c.has_attribute.result
          c.has_attribute.ensures.has c.if-has_attribute.false;
    }
