use Rattle.std.proofs.Common.{◌∙◌, sym, ap}
use Rattle.ftl_grammar.specs.declared.syntax.rules.Grammar.{Grammar}
use Rattle.ftl_document.proofs.fields.ExpectedPlaces.{class_there}
use Rattle.ftl_meaning.proofs.names.Names.{same_name}
use Rattle.ftl_document.proofs.fields.class_check.find_class.Goals as goal

pub returns-then-eq : goal.returns-then-eq
returns-then-eq c =
    record {
      class = class_there c.args.checked.now.grammar c.grammar.ensures.lawful c.args.guess c.args.name.now c.text.result.now
          c.as_slice-classes.result.now c.index-classes-guess.result
          (c.as_slice-classes.ensures ∙ ap (λ (g : Grammar). g.classes) c.grammar.ensures.grammar) c.if-guess-classes.true
          c.text.ensures.text
          (same_name c.text.result.now c.args.name.now (sym c.eq.ensures ∙ c.if-eq.true));
    }
