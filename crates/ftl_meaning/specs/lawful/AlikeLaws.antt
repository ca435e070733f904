-- Grammars that agree number by number have the same trees, and the same tables solve them; so it is with the stack
-- grammar as it is written and the one that was written out by hand.
use Rattle.std.specs.Prelude.{◌↔◌}
use Rattle.ftl_base.specs.Widths.{greatest_of_width}
use Rattle.ftl_base.specs.declared.width.Width.{Width}
use Rattle.ftl_model.specs.layout.AttributeGrammar.{AttributeGrammar}
use Rattle.ftl_model.specs.layout.Solves.{Instance, Solves}
use Rattle.ftl_model.specs.layout.Stack.{stack_in}
use Rattle.ftl_model.specs.layout.Tree.{Forest}
use Rattle.ftl_model.specs.layout.TreeOf.{IsTreeOf}
use Rattle.ftl_model.specs.layout.Values.{Value}
use Rattle.ftl_order.specs.orders.Lawful.{IsLawful}
use Rattle.ftl_meaning.specs.faults.Worked as written
use Rattle.ftl_meaning.specs.grammars.Alike.{IsAlike}
use Rattle.ftl_meaning.specs.grammars.GrammarOf.{grammar_of}

-- a tree of one is a tree of the other
abbrev pub HaveSameTrees : AttributeGrammar → AttributeGrammar → Type 0
HaveSameTrees g h = (t : Forest) → IsTreeOf g t ↔ IsTreeOf h t

-- and a table that solves it in one solves it in the other
abbrev pub HaveSameSolutions : AttributeGrammar → AttributeGrammar → Type 0
HaveSameSolutions g h = (t : Forest) → IsTreeOf g t → (s : Instance → Value) → Solves g t s ↔ Solves h t s

-- of a lawful grammar and one that agrees with it
abbrev pub OfAlike : (AttributeGrammar → AttributeGrammar → Type 0) → Type 0
OfAlike P = (g h : AttributeGrammar) → IsLawful g → IsAlike g h → P g h

-- of the two stack grammars, in each width
abbrev pub OfStacks : (AttributeGrammar → AttributeGrammar → Type 0) → Type 0
OfStacks P =
    (width : Width) → P (grammar_of (greatest_of_width width) written.stack) (stack_in (greatest_of_width width))
