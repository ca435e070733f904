-- The grammars that come with the program: their names and texts.
use Rattle.std.specs.Prelude.{ℕ, List, Option, Some, None, codes, if◌then◌else◌, option_map}
use Rattle.std.specs.Str.{bytes_eq}
use Rattle.ftl_boxes.specs.declared.grammar.Grammar.{Grammar}
use Rattle.ftl_boxes.specs.declared.grammar.Grammar.TheVariants.{Stack, Block, Inline, Float, Table, Flow}
use Rattle.ftl_boxes.specs.Stack.{stack_text}
use Rattle.ftl_boxes.specs.Block.{block_text}
use Rattle.ftl_boxes.specs.Inline.{inline_text}
use Rattle.ftl_boxes.specs.Float.{float_text}
use Rattle.ftl_boxes.specs.Table.{table_text}
use Rattle.ftl_boxes.specs.Flow.{flow_text}

-- the name of a grammar
abbrev pub name_of : Grammar → List ℕ
name_of Stack = codes "stack"
name_of Block = codes "block"
name_of Inline = codes "inline"
name_of Float = codes "float"
name_of Table = codes "table"
name_of Flow = codes "flow"

-- the text of a grammar
abbrev pub text_of : Grammar → List ℕ
text_of Stack = stack_text
text_of Block = block_text
text_of Inline = inline_text
text_of Float = float_text
text_of Table = table_text
text_of Flow = flow_text

-- the grammar of this name
abbrev pub shipped_grammar : List ℕ → Option Grammar
shipped_grammar name =
    if bytes_eq name (codes "stack") then Some Stack
    else if bytes_eq name (codes "block") then Some Block
    else if bytes_eq name (codes "inline") then Some Inline
    else if bytes_eq name (codes "float") then Some Float
    else if bytes_eq name (codes "table") then Some Table
    else if bytes_eq name (codes "flow") then Some Flow
    else None

-- the text of the grammar of this name
abbrev pub shipped_text : List ℕ → Option (List ℕ)
shipped_text name = option_map text_of (shipped_grammar name)
