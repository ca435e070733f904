-- The readers of nodes and fields take a token.
use Rattle.std.proofs.Common.{◌≡◌, ℕ, ◌<◌, length, Ok, Err, sym, ap, ◌∙◌, length-append, arith}
use Rattle.ftl_tokens.specs.reading.Reader.{Tokens, ReadResult}
use Rattle.ftl_tokens.proofs.reading.KeptPrefix.{HasPrefix}
use Rattle.ftl_document.specs.syntax.Written.{WrittenFields, WrittenNode}
use Rattle.ftl_document.specs.syntax.Spelling.{SpellsNode, node_of}
use Rattle.ftl_document.specs.syntax.RowReading as by_rows
use Rattle.ftl_document.specs.syntax.RowReading.{Found}
use Rattle.ftl_document.proofs.syntax.Reading as reading
use Rattle.ftl_document.proofs.syntax.DocumentPrefix.{fields_prefix, field_prefix, node_prefix}
use Rattle.ftl_document.proofs.syntax.Parts.{SpellsOne, number_alone, single_alone, list_alone}
use Rattle.ftl_document.proofs.syntax.RowLemmas.{cut_fields, cut_node, fields-rows, field-rows, kid-rows, pushed}

-- what is spelled has a token
node_some : {a : Tokens} {x : WrittenNode} → SpellsNode a x → 0 < length a
node_some (node_of s) = omega arith

one_some : {a : Tokens} {x : WrittenFields} → SpellsOne a x → 0 < length a
one_some (number_alone s) = omega arith
one_some (single_alone s) = omega arith
one_some (list_alone s) = omega arith

-- the tokens that are left
abbrev left_of : {A : Type 0} → ReadResult A → Tokens → Tokens
left_of (Ok p) other = p.1
left_of (Err rest) other = other

-- a reader of rows takes as much as the reader that it follows
takes : {A : Type 0} {S : Tokens → A → Type 0} (rows_of : A → Found) (found : Found) (ts : Tokens) (o : ReadResult A)
    (more : Found) (left : Tokens) → ((a : Tokens) (x : A) → S a x → 0 < length a) → HasPrefix S o ts
    → Ok (more, left) ≡ pushed rows_of found o → length left < length ts
takes rows_of found ts (Ok p) more left some taken e =
    let rest : left ≡ p.1 = ap (λ o. left_of o left) e in
    omega (arith, some taken.front p.0 taken.spells, ap length taken.split, length-append taken.front p.1, ap length rest)
takes rows_of found ts (Err rest) more left some grown e = absurd (cc)

-- a node in a list
pub kid_takes : (depth : ℕ) (found : Found) (ts : Tokens) (more : Found) (left : Tokens)
    → by_rows.kid (by_rows.fields_to depth) found ts ≡ Ok (more, left) → length left < length ts
kid_takes depth found ts more left e =
    takes cut_node found ts (reading.node (reading.fields_to depth) ts) more left (λ a x s. node_some s)
    ((node_prefix (fields_prefix depth)).keeps ts) (sym e ∙ (kid-rows (fields-rows depth)).same found ts)

-- a field
pub field_takes : (depth : ℕ) (found : Found) (ts : Tokens) (more : Found) (left : Tokens)
    → by_rows.field (by_rows.fields_to depth) found ts ≡ Ok (more, left) → length left < length ts
field_takes depth found ts more left e =
    takes cut_fields found ts (reading.field (reading.fields_to depth) ts) more left (λ a x s. one_some s)
    ((field_prefix (fields_prefix depth)).keeps ts) (sym e ∙ (field-rows (fields-rows depth)).same found ts)
