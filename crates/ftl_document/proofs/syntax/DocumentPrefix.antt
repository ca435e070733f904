-- The readers of documents keep the correct prefix: `x_prefix` of the reader `x`.
use Rattle.std.proofs.Common.{ℕ, zero, suc, pos, neg_ℤ, [], ◌∷◌, ◌++◌, Option, Some, refl, sym, subst}
use Rattle.std.proofs.Common.{append-nil}
use Rattle.ftl_tokens.specs.declared.scanner.kind.Kind.{Kind}
use Rattle.ftl_tokens.specs.declared.scanner.kind.Kind.TheVariants as kind
use Rattle.ftl_tokens.specs.scanner.Tokenized.{name, number, fixed}
use Rattle.ftl_tokens.specs.reading.Reader.{Tokens, Reader}
use Rattle.ftl_tokens.proofs.reading.KeptPrefix.{KeepsPrefix, KeepsPrefixAt, After, example, bind_prefix, map_prefix, pure_prefix, refuse_prefix}
use Rattle.ftl_tokens.proofs.reading.KeptPrefix.{wider_prefix, look_prefix, at_any}
use Rattle.ftl_tokens.proofs.reading.TokenPrefix.{past_prefix, name_prefix, number_prefix, end_prefix, at_end_prefix}
use Rattle.ftl_tokens.proofs.reading.TokenPrefix.{skip_prefix}
use Rattle.ftl_tokens.proofs.reading.ChainPrefix.{OrNone, chain_prefix}
use Rattle.ftl_document.specs.syntax.Written.{NameText, WrittenFields, WrittenNode, no_fields, no_nodes}
use Rattle.ftl_document.specs.syntax.Written.{written_node}
use Rattle.ftl_document.specs.syntax.Spelling.{SpellsFields, SpellsNode, plain, negative}
use Rattle.ftl_document.specs.syntax.Spelling.{no_more, node_of}
use Rattle.ftl_document.proofs.syntax.Reading as reading
use Rattle.ftl_document.proofs.syntax.Reading.{append_fields, append_nodes, add_node, one_number, one_single, one_list}
use Rattle.ftl_document.proofs.syntax.Reading.{more_by, braced, node, list, value_by, value, field, fields_level}
use Rattle.ftl_document.proofs.syntax.Reading.{fields_to, document_to}
use Rattle.ftl_document.proofs.syntax.Parts.{SpellsBraced, braced_of, SpellsOne, number_alone, single_alone, list_alone}
use Rattle.ftl_document.proofs.syntax.Parts.{fields_spelled, nodes_spelled}

-- one more where a name comes next
pub more_prefix : {A : Type 0} {S : Tokens → A → Type 0} {item : Reader A} → KeepsPrefix S item → KeepsPrefix (OrNone S) (reading.more item)
unfolding reading.more
more_prefix {A} {S} {item} told = look_prefix (more_by item) each
  where
    each : (k : Option Kind) → KeepsPrefixAt k (OrNone S) (more_by item k)
    each (Some kind.Name) = at_any (map_prefix Some told (λ a x s. s))
    each _ = at_any (pure_prefix refl)

module _ {fields : Reader WrittenFields} (told : KeepsPrefix SpellsFields fields) where
  braced_prefix : KeepsPrefix SpellsBraced (braced fields)
  unfolding braced
  braced_prefix =
      past_prefix kind.LeftBrace (example (fixed kind.RightBrace ∷ []) no_fields (braced_of no_more))
      (bind_prefix told (λ a x s. example (fixed kind.RightBrace ∷ []) x (braced_of s))
      (λ a x s. end_prefix kind.RightBrace x (braced_of s)))

  -- a class, and fields in braces
  node_from : (class : NameText) (a : Tokens) (x : WrittenFields) → SpellsBraced a x
      → SpellsNode (name class ∷ a) (written_node class x)
  node_from class a x (braced_of s) = node_of s

  pub node_prefix : KeepsPrefix SpellsNode (node fields)
  unfolding node
  node_prefix =
      name_prefix
      (λ class. example (fixed kind.LeftBrace ∷ fixed kind.RightBrace ∷ []) (written_node class no_fields) (node_of no_more))
      (λ class. map_prefix (written_node class) braced_prefix (node_from class))

  list_prefix : (x : NameText) → KeepsPrefix (After (name x ∷ fixed kind.Equals ∷ fixed kind.LeftBracket ∷ []) SpellsOne) (list fields x)
  unfolding list
  list_prefix x =
      bind_prefix (chain_prefix (more_prefix node_prefix) no_nodes)
      (λ a nodes all. example (fixed kind.RightBracket ∷ []) (one_list x nodes) (list_alone (nodes_spelled all)))
      (λ a nodes all. end_prefix kind.RightBracket (one_list x nodes) (list_alone (nodes_spelled all)))

  value_prefix : (x : NameText) → KeepsPrefix (After (name x ∷ fixed kind.Equals ∷ []) SpellsOne) (value fields x)
  unfolding value
  value_prefix x = look_prefix (value_by fields x) each
    where
      each : (k : Option Kind) → KeepsPrefixAt k (After (name x ∷ fixed kind.Equals ∷ []) SpellsOne) (value_by fields x k)
      each (Some kind.Number) =
          at_any
          (number_prefix (λ n. example [] (one_number x (pos n)) (number_alone plain)) (λ n. pure_prefix (number_alone plain)))
      each (Some kind.Minus) =
          skip_prefix kind.Minus tt
          (number_prefix (λ n. example [] (one_number x (neg_ℤ (pos n))) (number_alone negative))
          (λ n. pure_prefix (number_alone negative)))
      each (Some kind.LeftBracket) = skip_prefix kind.LeftBracket tt (list_prefix x)
      each _ = at_any (map_prefix (one_single x) node_prefix (λ a y s. single_alone s))

  pub field_prefix : KeepsPrefix SpellsOne (field fields)
  unfolding field
  field_prefix =
      name_prefix
      (λ x. example (fixed kind.Equals ∷ number 0 ∷ []) (one_number x (pos 0)) (number_alone plain))
      (λ x. past_prefix kind.Equals (example (number 0 ∷ []) (one_number x (pos 0)) (number_alone plain)) (value_prefix x))

  fields_level_prefix : KeepsPrefix SpellsFields (fields_level fields)
  unfolding fields_level
  fields_level_prefix = wider_prefix (λ a x all. fields_spelled all) (chain_prefix (more_prefix field_prefix) no_fields)

-- at each depth
pub fields_prefix : (depth : ℕ) → KeepsPrefix SpellsFields (fields_to depth)
unfolding fields_to
fields_prefix zero = refuse_prefix (example [] no_fields no_more)
fields_prefix (suc depth) = fields_level_prefix (fields_prefix depth)

-- a document and nothing more
whole : (a : Tokens) (x : WrittenNode) → SpellsNode a x → SpellsNode (a ++ []) x
whole a x s = subst (λ l. SpellsNode l x) (sym (append-nil a)) s

pub document_prefix : (depth : ℕ) → KeepsPrefix SpellsNode (document_to depth)
unfolding document_to
document_prefix depth =
    bind_prefix (node_prefix (fields_prefix depth)) (λ a x s. example [] x (whole a x s)) (λ a x s. at_end_prefix x (whole a x s))
