-- A worked document: its tokens, what they spell, and its rows.
use Rattle.std.specs.Prelude.{List, negsuc, [], ◌∷◌, codes}
use Rattle.ftl_tokens.specs.declared.scanner.kind.Kind.TheVariants as kind
use Rattle.ftl_tokens.specs.scanner.Tokenized.{name, number, fixed}
use Rattle.ftl_tokens.specs.reading.Reader.{Tokens}
use Rattle.ftl_document.specs.declared.syntax.row.WrittenRow.{WrittenRow}
use Rattle.ftl_document.specs.declared.syntax.row.WrittenRow.TheVariants as rows
use Rattle.ftl_document.specs.syntax.Written.{WrittenNode, no_fields, number_field, node_field, list_field, no_nodes}
use Rattle.ftl_document.specs.syntax.Written.{node_and, written_node}

-- A { b = B { c = [ C { } C { } ] } d = - 3 }
abbrev pub worked_tokens : Tokens
worked_tokens =
    name (codes "A") ∷ fixed kind.LeftBrace ∷ name (codes "b") ∷ fixed kind.Equals ∷ name (codes "B")
    ∷ fixed kind.LeftBrace ∷ name (codes "c") ∷ fixed kind.Equals ∷ fixed kind.LeftBracket ∷ name (codes "C")
    ∷ fixed kind.LeftBrace ∷ fixed kind.RightBrace ∷ name (codes "C") ∷ fixed kind.LeftBrace ∷ fixed kind.RightBrace
    ∷ fixed kind.RightBracket ∷ fixed kind.RightBrace ∷ name (codes "d") ∷ fixed kind.Equals ∷ fixed kind.Minus
    ∷ number 3 ∷ fixed kind.RightBrace ∷ []

-- a node with a node, in which a list has two nodes, and a number
abbrev pub worked_node : WrittenNode
worked_node =
    written_node (codes "A")
    (node_field (codes "b") (codes "B")
    (list_field (codes "c") (node_and (codes "C") no_fields (node_and (codes "C") no_fields no_nodes)) no_fields)
    (number_field (codes "d") (negsuc 2) no_fields))

-- the node in it has three rows behind it, and the list two
abbrev pub worked_rows : List WrittenRow
worked_rows =
    rows.Single (codes "b") (codes "B") 3 ∷ rows.List (codes "c") 2 ∷ rows.Kid (codes "C") 0 ∷ rows.Kid (codes "C") 0
    ∷ rows.Number (codes "d") (negsuc 2) ∷ []
