-- The readers of documents look one token ahead: `x_alike` says it of the reader `x`.
use Rattle.std.proofs.Common.{ℕ, zero, suc, ◌≤◌, ◌<◌, length, Option, Some, refl, arith}
use Rattle.ftl_tokens.specs.declared.scanner.kind.Kind.{Kind}
use Rattle.ftl_tokens.specs.declared.scanner.kind.Kind.TheVariants as kind
use Rattle.ftl_tokens.specs.reading.Reader.{Tokens, Reader, next_kind}
use Rattle.ftl_tokens.proofs.reading.KeptPrefix.{KeepsPrefix}
use Rattle.ftl_tokens.proofs.reading.Alike.{Alike, AlikeAt, pure_alike, look_alike, alike_at_any, bind_alike, map_alike}
use Rattle.ftl_tokens.proofs.reading.Alike.{none_alike}
use Rattle.ftl_tokens.proofs.reading.TokenAlike.{past_alike, name_alike, number_alike, skip_alike, at_end_alike}
use Rattle.ftl_tokens.proofs.reading.ChainAlike.{TakesSome, takes_some, chain_alike}
use Rattle.ftl_document.specs.syntax.Written.{NameText, WrittenFields, no_fields, no_nodes, written_node}
use Rattle.ftl_document.specs.syntax.Spelling.{SpellsFields}
use Rattle.ftl_document.proofs.syntax.Reading as reading
use Rattle.ftl_document.proofs.syntax.Reading.{append_fields, add_node, one_number, one_single, one_list, more_by, braced}
use Rattle.ftl_document.proofs.syntax.Reading.{node, list, value_by, value, field, fields_level, fields_to, document_to}
use Rattle.ftl_document.proofs.syntax.Heights.{height, past_plain, past_open, past_close, past_name, past_number}
use Rattle.ftl_document.proofs.syntax.DocumentPrefix.{more_prefix, node_prefix, field_prefix, fields_prefix}
use Rattle.ftl_document.proofs.syntax.Went.{some_node, some_field}

-- one more where a name comes next
more_alike : {A : Type 0} {n : ℕ} {p q : Reader A} → Alike height n n p q
    → Alike height n n (reading.more p) (reading.more q)
unfolding reading.more
more_alike {n = n} {p = p} {q = q} alike = look_alike (more_by p) (more_by q) each
  where
    each : (k : Option Kind) → AlikeAt height n n k (more_by p k) (more_by q k)
    each (Some kind.Name) = alike_at_any (map_alike Some alike)
    each _ = alike_at_any pure_alike

-- an item that keeps the prefix takes some tokens
some_items : {A : Type 0} {S : Tokens → A → Type 0} {item : Reader A} → KeepsPrefix S item
    → ((a : Tokens) (x : A) → S a x → 0 < length a) → TakesSome (reading.more item)
unfolding reading.more next_kind
some_items told some = takes_some (more_prefix told) some refl

module _ {fields other : Reader WrittenFields} {n : ℕ} (told : KeepsPrefix SpellsFields fields) (other_prefix : KeepsPrefix SpellsFields other)
    (fields_alike : Alike height n n fields other) where
  braced_alike : Alike height (suc n) (suc n) (braced fields) (braced other)
  unfolding braced
  braced_alike =
      past_alike kind.LeftBrace past_open (bind_alike fields_alike (λ x. past_alike kind.RightBrace past_close pure_alike))

  pub node_alike : Alike height (suc n) (suc n) (node fields) (node other)
  unfolding node
  node_alike = name_alike past_name (λ class. map_alike (written_node class) braced_alike)

  list_alike : (x : NameText) → Alike height (suc n) (suc n) (list fields x) (list other x)
  unfolding list
  list_alike x =
      bind_alike
      (chain_alike add_node (more_alike node_alike) (some_items (node_prefix told) (λ a y s. some_node s))
      (some_items (node_prefix other_prefix) (λ a y s. some_node s)) no_nodes)
      (λ nodes. past_alike kind.RightBracket (past_plain kind.RightBracket refl) pure_alike)

  value_alike : (x : NameText) → Alike height (suc n) (suc n) (value fields x) (value other x)
  unfolding value
  value_alike x = look_alike (value_by fields x) (value_by other x) each
    where
      each : (k : Option Kind) → AlikeAt height (suc n) (suc n) k (value_by fields x k) (value_by other x k)
      each (Some kind.Number) = alike_at_any (number_alike past_number (λ m. pure_alike))
      each (Some kind.Minus) =
          skip_alike kind.Minus tt (past_plain kind.Minus refl) (number_alike past_number (λ m. pure_alike))
      each (Some kind.LeftBracket) =
          skip_alike kind.LeftBracket tt (past_plain kind.LeftBracket refl) (list_alike x)
      each _ = alike_at_any (map_alike (one_single x) node_alike)

  field_alike : Alike height (suc n) (suc n) (field fields) (field other)
  unfolding field
  field_alike = name_alike past_name (λ x. past_alike kind.Equals (past_plain kind.Equals refl) (value_alike x))

  fields_level_alike : Alike height (suc n) (suc n) (fields_level fields) (fields_level other)
  unfolding fields_level
  fields_level_alike =
      chain_alike append_fields (more_alike field_alike) (some_items (field_prefix told) (λ a y s. some_field s))
      (some_items (field_prefix other_prefix) (λ a y s. some_field s)) no_fields

-- at each depth, and at each that is as deep or deeper
pub fields_alike : (n m : ℕ) → n ≤ m → Alike height n n (fields_to n) (fields_to m)
unfolding fields_to
fields_alike zero m e = none_alike (fields_to m)
fields_alike (suc n) zero e = absurd (omega arith)
fields_alike (suc n) (suc m) e = fields_level_alike (fields_prefix n) (fields_prefix m) (fields_alike n m (omega arith))

pub document_alike : (n m : ℕ) → n ≤ m → Alike height (suc n) (suc n) (document_to n) (document_to m)
unfolding document_to
document_alike n m e =
    bind_alike (node_alike (fields_prefix n) (fields_prefix m) (fields_alike n m e)) (λ x. bind_alike at_end_alike (λ u. pure_alike))
