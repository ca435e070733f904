-- What follows of a grammar without a fault, once its names are gone.
use Rattle.ftl_base.specs.Widths.{greatest_of_width}
use Rattle.ftl_base.specs.declared.width.Width.{Width}
use Rattle.ftl_model.specs.layout.AttributeGrammar.{AttributeGrammar}
use Rattle.ftl_model.specs.layout.Solves.{Instance, IsInstance, Solves}
use Rattle.ftl_model.specs.layout.Tree.{Forest}
use Rattle.ftl_model.specs.layout.TreeOf.{IsTreeOf}
use Rattle.ftl_model.specs.layout.Values.{IsValueIn, Value}
use Rattle.ftl_order.specs.orders.OneTable.{ExactlyOneList, ExactlyOneTable}
use Rattle.ftl_order.specs.orders.Ordered.{IsOrdered}
use Rattle.ftl_order.specs.orders.Schedule.{Schedule}
use Rattle.ftl_grammar.specs.declared.syntax.rules.Grammar.{Grammar}
use Rattle.ftl_meaning.specs.grammars.GrammarOf.{grammar_of}
use Rattle.ftl_meaning.specs.lawful.Faultless.{IsFaultless}

-- of the meaning of each grammar without a fault, in each width
abbrev pub OfFaultless : (AttributeGrammar → Type 0) → Type 0
OfFaultless P = (g : Grammar) (width : Width) → IsFaultless g → P (grammar_of (greatest_of_width width) g)

-- under each ordered schedule exactly one table solves each tree
abbrev pub HasOneTable : AttributeGrammar → Type 0
HasOneTable g = (s : Schedule) (t : Forest) → IsOrdered g s → IsTreeOf g t → ExactlyOneTable g t

-- and exactly one list of values does
abbrev pub HasOneList : AttributeGrammar → Type 0
HasOneList g = (s : Schedule) (t : Forest) → IsOrdered g s → IsTreeOf g t → ExactlyOneList g t

-- and its values are in the range of the width
abbrev pub StaysInRange : AttributeGrammar → Type 0
StaysInRange g =
    (s : Schedule) (t : Forest) → IsOrdered g s → IsTreeOf g t
    → (table : Instance → Value) → Solves g t table
    → (i : Instance) → IsInstance g t i → IsValueIn g.greatest (table i)
