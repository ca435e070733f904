-- The numbers of a document are as large as its tokens allow, and its rows are as many as it has tokens at most.
use Rattle.std.proofs.Common.{◌≡◌, ℕ, ◌≤◌, ℤ, List, [], ◌∷◌, ◌++◌, length, refl, ap}
use Rattle.std.proofs.Common.{◌∙◌, length-append, arith}
use Rattle.std.specs.List.{All}
use Rattle.std.proofs.Math.Nat.{min-eq_left}
use Rattle.std.proofs.lemmas.Int.{ints}
use Rattle.std.proofs.lemmas.List.Elements.{All-nil, All-cons, All-append}
use Rattle.ftl_model.specs.layout.TreeOf.{IsInput}
use Rattle.ftl_tokens.specs.declared.scanner.kind.Kind.TheVariants as kind
use Rattle.ftl_tokens.specs.scanner.Tokenized.{name, number, fixed}
use Rattle.ftl_tokens.specs.reading.Reader.{Tokens, AreAtMost}
use Rattle.ftl_document.specs.declared.syntax.row.WrittenRow.{WrittenRow}
use Rattle.ftl_document.specs.declared.syntax.row.WrittenRow.TheVariants as rows
use Rattle.ftl_document.specs.syntax.Written.{WrittenFields, WrittenNode, WrittenNodes, no_fields, number_field}
use Rattle.ftl_document.specs.syntax.Written.{node_field, list_field, no_nodes, node_and}
use Rattle.ftl_document.specs.syntax.Spelling.{SpellsNumber, SpellsFields, SpellsNodes, SpellsNode, plain, negative}
use Rattle.ftl_document.specs.syntax.Spelling.{no_more, number_and, single_and, list_and, none, node_more, node_of}
use Rattle.ftl_document.specs.syntax.Rows.{rows_of_fields, rows_of_nodes}
use Rattle.ftl_document.specs.syntax.Sizes.{FieldsAreWithin, NodesAreWithin, RowIsWithin}
use Rattle.ftl_document.proofs.syntax.RowLemmas.{cut, cut_fields, cut_nodes}

-- ---- how large the numbers are

-- what holds of all tokens holds of those in front, and of those behind
at_most-front : (greatest : ℕ) (a b : Tokens) → AreAtMost greatest (a ++ b) → AreAtMost greatest a
at_most-front greatest [] b all = tt
at_most-front greatest (name x ∷ a) b all = at_most-front greatest a b all
at_most-front greatest (number n ∷ a) b all = (all.0, at_most-front greatest a b all.1)
at_most-front greatest (fixed k ∷ a) b all = at_most-front greatest a b all

at_most-back : (greatest : ℕ) (a b : Tokens) → AreAtMost greatest (a ++ b) → AreAtMost greatest b
at_most-back greatest [] b all = all
at_most-back greatest (name x ∷ a) b all = at_most-back greatest a b all
at_most-back greatest (number n ∷ a) b all = at_most-back greatest a b all.1
at_most-back greatest (fixed k ∷ a) b all = at_most-back greatest a b all

number-within : (greatest : ℕ) {a : Tokens} {n : ℤ} → SpellsNumber a n → AreAtMost greatest a → IsInput greatest n
number-within greatest (plain {n = n}) all = let few = all.0 in (omega (arith, ints, few), omega (arith, ints, few))
number-within greatest (negative {n = n}) all = let few = all.0 in (omega (arith, ints, few), omega (arith, ints, few))

mutual
  fields-within : (greatest : ℕ) {a : Tokens} {f : WrittenFields} → SpellsFields a f → AreAtMost greatest a
      → FieldsAreWithin greatest f
  fields-within greatest no_more all = tt
  fields-within greatest (number_and {a = a} {b = b} s t) all = (
    number-within greatest s (at_most-front greatest a b all),
    fields-within greatest t (at_most-back greatest a b all),
  )
  fields-within greatest (single_and {a = a} {b = b} s t) all = (
    fields-within greatest s (at_most-front greatest a (fixed kind.RightBrace ∷ b) all),
    fields-within greatest t (at_most-back greatest a (fixed kind.RightBrace ∷ b) all),
  )
  fields-within greatest (list_and {a = a} {b = b} s t) all = (
    nodes-within greatest s (at_most-front greatest a (fixed kind.RightBracket ∷ b) all),
    fields-within greatest t (at_most-back greatest a (fixed kind.RightBracket ∷ b) all),
  )

  nodes-within : (greatest : ℕ) {a : Tokens} {nodes : WrittenNodes} → SpellsNodes a nodes → AreAtMost greatest a
      → NodesAreWithin greatest nodes
  nodes-within greatest none all = tt
  nodes-within greatest (node_more {a = a} {b = b} s t) all = (
    fields-within greatest s (at_most-front greatest a (fixed kind.RightBrace ∷ b) all),
    nodes-within greatest t (at_most-back greatest a (fixed kind.RightBrace ∷ b) all),
  )

pub document-within : (greatest : ℕ) {a : Tokens} {x : WrittenNode} → SpellsNode a x → AreAtMost greatest a
    → FieldsAreWithin greatest x.fields
document-within greatest (node_of {a = a} s) all =
    fields-within greatest s (at_most-front greatest a (fixed kind.RightBrace ∷ []) all)

mutual
  -- so are those of the rows
  pub rows-within : (greatest : ℕ) (f : WrittenFields) → FieldsAreWithin greatest f
      → All (RowIsWithin greatest) (rows_of_fields f)
  rows-within greatest no_fields all = All-nil (RowIsWithin greatest)
  rows-within greatest (number_field x n later) all =
      All-cons (RowIsWithin greatest) (rows.Number x n) (rows_of_fields later) all.0 (rows-within greatest later all.1)
  rows-within greatest (node_field x class fields later) all =
      All-cons (RowIsWithin greatest) (rows.Single x class (length (rows_of_fields fields)))
      (rows_of_fields fields ++ rows_of_fields later) tt
      (All-append (RowIsWithin greatest) (rows_of_fields fields) (rows_of_fields later)
      (rows-within greatest fields all.0) (rows-within greatest later all.1))
  rows-within greatest (list_field x nodes later) all =
      All-cons (RowIsWithin greatest) (rows.List x (length (rows_of_nodes nodes)))
      (rows_of_nodes nodes ++ rows_of_fields later) tt
      (All-append (RowIsWithin greatest) (rows_of_nodes nodes) (rows_of_fields later)
      (list-rows-within greatest nodes all.0) (rows-within greatest later all.1))

  list-rows-within : (greatest : ℕ) (nodes : WrittenNodes) → NodesAreWithin greatest nodes
      → All (RowIsWithin greatest) (rows_of_nodes nodes)
  list-rows-within greatest no_nodes all = All-nil (RowIsWithin greatest)
  list-rows-within greatest (node_and class fields later) all =
      All-cons (RowIsWithin greatest) (rows.Kid class (length (rows_of_fields fields)))
      (rows_of_fields fields ++ rows_of_nodes later) tt
      (All-append (RowIsWithin greatest) (rows_of_fields fields) (rows_of_nodes later)
      (rows-within greatest fields all.0) (list-rows-within greatest later all.1))

-- ---- how many rows there are

mutual
  -- no more than tokens
  fields-le-tokens : {a : Tokens} {f : WrittenFields} → SpellsFields a f → length (rows_of_fields f) ≤ length a
  fields-le-tokens no_more = omega arith
  fields-le-tokens (number_and {a = a} {b = b} s t) =
      let later = fields-le-tokens t in omega (arith, later, length-append a b)
  fields-le-tokens (single_and {a = a} {b = b} {fields = fields} {later = more} s t) =
      let inside = fields-le-tokens s in
      let later = fields-le-tokens t in
      omega (arith, inside, later, length-append a (fixed kind.RightBrace ∷ b), length-append (rows_of_fields fields) (rows_of_fields more))
  fields-le-tokens (list_and {a = a} {b = b} {nodes = nodes} {later = more} s t) =
      let inside = nodes-le-tokens s in
      let later = fields-le-tokens t in
      omega (arith, inside, later, length-append a (fixed kind.RightBracket ∷ b), length-append (rows_of_nodes nodes) (rows_of_fields more))

  nodes-le-tokens : {a : Tokens} {nodes : WrittenNodes} → SpellsNodes a nodes → length (rows_of_nodes nodes) ≤ length a
  nodes-le-tokens none = omega arith
  nodes-le-tokens (node_more {a = a} {b = b} {fields = fields} {later = more} s t) =
      let inside = fields-le-tokens s in
      let later = nodes-le-tokens t in
      omega (arith, inside, later, length-append a (fixed kind.RightBrace ∷ b), length-append (rows_of_fields fields) (rows_of_nodes more))

pub document-le-tokens : {a : Tokens} {x : WrittenNode} → SpellsNode a x → length (rows_of_fields x.fields) ≤ length a
document-le-tokens (node_of {a = a} s) =
    let inside = fields-le-tokens s in omega (arith, inside, length-append a (fixed kind.RightBrace ∷ []))

-- a count that 32 bits hold isn't cut
uncut : (n : ℕ) → n ≤ 4294967295 → cut n ≡ n
uncut n few = min-eq_left few

mutual
  -- so few rows have their counts
  pub uncut-fields : (f : WrittenFields) → length (rows_of_fields f) ≤ 4294967295 → cut_fields f ≡ rows_of_fields f
  uncut-fields no_fields few = refl
  uncut-fields (number_field x n later) few = ap (λ l. rows.Number x n ∷ l) (uncut-fields later (omega (arith, few)))
  uncut-fields (node_field x class fields later) few =
      let count = length-append (rows_of_fields fields) (rows_of_fields later) in
      let inside = uncut-fields fields (omega (arith, few, count)) in
      let more = uncut-fields later (omega (arith, few, count)) in
      let same : cut (length (cut_fields fields)) ≡ length (rows_of_fields fields) =
      ap (λ (l : List WrittenRow). cut (length l)) inside ∙ uncut (length (rows_of_fields fields)) (omega (arith, few, count)) in
      ap (λ k. rows.Single x class k ∷ (cut_fields fields ++ cut_fields later)) same
      ∙ ap (λ l. rows.Single x class (length (rows_of_fields fields)) ∷ (l ++ cut_fields later)) inside
      ∙ ap (λ l. rows.Single x class (length (rows_of_fields fields)) ∷ (rows_of_fields fields ++ l)) more
  uncut-fields (list_field x nodes later) few =
      let count = length-append (rows_of_nodes nodes) (rows_of_fields later) in
      let inside = uncut-nodes nodes (omega (arith, few, count)) in
      let more = uncut-fields later (omega (arith, few, count)) in
      let same : cut (length (cut_nodes nodes)) ≡ length (rows_of_nodes nodes) =
      ap (λ (l : List WrittenRow). cut (length l)) inside ∙ uncut (length (rows_of_nodes nodes)) (omega (arith, few, count)) in
      ap (λ k. rows.List x k ∷ (cut_nodes nodes ++ cut_fields later)) same
      ∙ ap (λ l. rows.List x (length (rows_of_nodes nodes)) ∷ (l ++ cut_fields later)) inside
      ∙ ap (λ l. rows.List x (length (rows_of_nodes nodes)) ∷ (rows_of_nodes nodes ++ l)) more

  uncut-nodes : (nodes : WrittenNodes) → length (rows_of_nodes nodes) ≤ 4294967295 → cut_nodes nodes ≡ rows_of_nodes nodes
  uncut-nodes no_nodes few = refl
  uncut-nodes (node_and class fields later) few =
      let count = length-append (rows_of_fields fields) (rows_of_nodes later) in
      let inside = uncut-fields fields (omega (arith, few, count)) in
      let more = uncut-nodes later (omega (arith, few, count)) in
      let same : cut (length (cut_fields fields)) ≡ length (rows_of_fields fields) =
      ap (λ (l : List WrittenRow). cut (length l)) inside ∙ uncut (length (rows_of_fields fields)) (omega (arith, few, count)) in
      ap (λ k. rows.Kid class k ∷ (cut_fields fields ++ cut_nodes later)) same
      ∙ ap (λ l. rows.Kid class (length (rows_of_fields fields)) ∷ (l ++ cut_nodes later)) inside
      ∙ ap (λ l. rows.Kid class (length (rows_of_fields fields)) ∷ (rows_of_fields fields ++ l)) more
