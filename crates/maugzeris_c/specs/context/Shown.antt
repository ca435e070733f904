-- What is shown of a page.
use Rattle.std.specs.Prelude.{ℕ, Bool, List}
use Rattle.ftl_answer.specs.answers.Answers.{boxes_of}
use Rattle.ftl_deps.specs.reads.Meant.{meant}
use Rattle.ftl_meaning.specs.faults.Checked.{attribute_at}
use Rattle.ftl_meaning.specs.grammars.GrammarOf.{names_of}
use Rattle.ftl_model.specs.layout.AttributeGrammar.{attributes_of}
use Rattle.ftl_model.specs.layout.Boxes.{shows_overflow}
use Rattle.ftl_model.specs.layout.Table.{value_in}
use Rattle.maugzeris.specs.pages.PageState.{PageState, class_on, values_on}

-- its boxes, as the program prints them
abbrev pub boxes_on : PageState → List ℕ
boxes_on p = boxes_of p.checked p.tree (values_on p)

-- whether a shown value is Overflow
abbrev pub overflows_on : PageState → Bool
overflows_on p =
    shows_overflow (names_of p.checked.grammar) p.tree (value_in (meant p.checked) p.tree (values_on p))

-- the attributes of a node
abbrev pub attributes_on : PageState → (node : ℕ) → List ℕ
attributes_on p node = attributes_of (meant p.checked) (class_on p node)

-- the name of an attribute
abbrev pub attribute_name_on : PageState → (attribute : ℕ) → List ℕ
attribute_name_on p attribute = (attribute_at p.checked.grammar attribute).decl.name
