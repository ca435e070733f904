-- Which tokens spell which document: a line of the syntax after the other.
use Rattle.std.specs.Prelude.{ℕ, ℤ, pos, neg_ℤ, [], ◌∷◌, ◌++◌}
use Rattle.ftl_tokens.specs.declared.scanner.kind.Kind.TheVariants as kind
use Rattle.ftl_tokens.specs.scanner.Tokenized.{name, number, fixed}
use Rattle.ftl_tokens.specs.reading.Reader.{Tokens}
use Rattle.ftl_document.specs.syntax.Written.{NameText, WrittenFields, WrittenNode, WrittenNodes, no_fields, number_field}
use Rattle.ftl_document.specs.syntax.Written.{node_field, list_field, no_nodes, node_and, written_node}

-- [ "-" ] NUMBER
pub data SpellsNumber : Tokens → ℤ → Type 0 where
  plain : {n : ℕ} → SpellsNumber (number n ∷ []) (pos n)
  negative : {n : ℕ} → SpellsNumber (fixed kind.Minus ∷ number n ∷ []) (neg_ℤ (pos n))

mutual
  -- { field }, where field = NAME "=" ( [ "-" ] NUMBER | node | "[" { node } "]" ) and node = NAME "{" { field } "}"
  pub data SpellsFields : Tokens → WrittenFields → Type 0 where
    no_more : SpellsFields [] no_fields
    number_and : {x : NameText} {a b : Tokens} {n : ℤ} {later : WrittenFields} → SpellsNumber a n
        → SpellsFields b later → SpellsFields (name x ∷ fixed kind.Equals ∷ (a ++ b)) (number_field x n later)
    single_and : {x class : NameText} {a b : Tokens} {fields later : WrittenFields} → SpellsFields a fields
        → SpellsFields b later
        → SpellsFields (name x ∷ fixed kind.Equals ∷ name class ∷ fixed kind.LeftBrace
        ∷ (a ++ (fixed kind.RightBrace ∷ b))) (node_field x class fields later)
    list_and : {x : NameText} {a b : Tokens} {nodes : WrittenNodes} {later : WrittenFields} → SpellsNodes a nodes
        → SpellsFields b later
        → SpellsFields (name x ∷ fixed kind.Equals ∷ fixed kind.LeftBracket
        ∷ (a ++ (fixed kind.RightBracket ∷ b))) (list_field x nodes later)

  -- { node }
  pub data SpellsNodes : Tokens → WrittenNodes → Type 0 where
    none : SpellsNodes [] no_nodes
    node_more : {class : NameText} {a b : Tokens} {fields : WrittenFields} {later : WrittenNodes}
        → SpellsFields a fields → SpellsNodes b later
        → SpellsNodes (name class ∷ fixed kind.LeftBrace ∷ (a ++ (fixed kind.RightBrace ∷ b)))
        (node_and class fields later)

-- node = NAME "{" { field } "}"; a document is one node
pub data SpellsNode : Tokens → WrittenNode → Type 0 where
  node_of : {class : NameText} {a : Tokens} {fields : WrittenFields} → SpellsFields a fields
      → SpellsNode (name class ∷ fixed kind.LeftBrace ∷ (a ++ (fixed kind.RightBrace ∷ []))) (written_node class fields)
