use Rattle.ftl_deps.specs.reads.Meant.{meant}
use Rattle.ftl_model.proofs.lists.Elements.{in_filter}
use Rattle.ftl_model.specs.layout.AttributeGrammar.{attributes_of, is_input}
use Rattle.maugzeris.specs.pages.PageState.{class_on}
use Rattle.ftl_showing.proofs.formats.edits.push_edit.Goals as goal

-- an input is an attribute
pub attribute_name-name-requires-clause-attribute : goal.attribute_name-name-requires-clause-attribute
attribute_name-name-requires-clause-attribute c =
    let p = c.args.page.now in
    let g = meant p.checked in
    (in_filter (λ a. is_input (g.sort a)) (attributes_of g (class_on p c.args.edit.node)) c.args.edit.attr
    c.requires.editable.input).0
