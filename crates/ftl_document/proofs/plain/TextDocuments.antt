-- Documents that are read from plain tokens are documents of the text.
use Rattle.std.proofs.Common.{◌≡◌, ℕ, ◌+◌, ◌≤◌, cond, List, [], ◌∷◌, ◌++◌, length, count_by, Ok, refl, sym, ap, ◌∙◌, subst, arith}
use Rattle.std.proofs.lemmas.List.Sums.{sum_by-cons, sum_by-append}
use Rattle.ftl_model.specs.layout.Limits.{most_nodes, most_page_bytes}
use Rattle.ftl_tokens.specs.declared.scanner.kind.Kind.TheVariants as kind
use Rattle.ftl_tokens.specs.scanner.Tokenized.{Symbol, WideTokenized, fixed, name}
use Rattle.ftl_tokens.specs.reading.Reader.{Tokens, AreAtMost}
use Rattle.ftl_tokens.specs.reading.Depth.{IsShallow, count_of}
use Rattle.ftl_document.specs.declared.syntax.row.WrittenRow.{WrittenRow}
use Rattle.ftl_document.specs.declared.syntax.row.WrittenRow.TheVariants as rows
use Rattle.ftl_document.specs.syntax.Braces.{braces}
use Rattle.ftl_document.specs.syntax.Rows.{DocumentRows}
use Rattle.ftl_document.specs.syntax.RowReading as by_rows
use Rattle.ftl_document.specs.syntax.Sizes.{nodes_in_fields, nodes_in_list}
use Rattle.ftl_document.specs.syntax.Spelling.{SpellsNode, node_of}
use Rattle.ftl_document.specs.syntax.Written.{WrittenFields, WrittenNode, WrittenNodes, no_fields, number_field, node_field, list_field, no_nodes, node_and}
use Rattle.ftl_document.specs.plain.Plain.{plain_tokens, stopped}
use Rattle.ftl_document.specs.plain.Read.{IsReadFrom, is_node}
use Rattle.ftl_document.proofs.syntax.Documents.{read_node, is_document}
use Rattle.ftl_document.proofs.syntax.Levels.{document_levels}
use Rattle.ftl_document.proofs.syntax.Reading as reading
use Rattle.ftl_document.proofs.syntax.RowLemmas.{cut, cut_fields, cut_nodes}
use Rattle.ftl_document.proofs.syntax.Shallow.{low_document}
use Rattle.ftl_document.proofs.syntax.SizeLemmas.{document-opened}
use Rattle.ftl_document.proofs.plain.Counts.{plain_at_most}
use Rattle.ftl_document.proofs.plain.PlainScan.{GoesOn, plain_scanned}

-- ---- no document ends with `!`

last_or : Symbol → Tokens → Symbol
last_or s [] = s
last_or s (t ∷ ts) = last_or t ts

last_or-push : (s : Symbol) (ts : Tokens) (t : Symbol) → last_or s (ts ++ (t ∷ [])) ≡ t
unfolding last_or
last_or-push s [] t = refl
last_or-push s (u ∷ ts) t = last_or-push u ts t

pub document_goes_on : (ts : Tokens) (x : WrittenNode) → SpellsNode ts x → GoesOn ts
unfolding last_or
document_goes_on ts x (node_of {class = class} {a = a} s) = record { no_stop = by }
  where
    by : (front : Tokens) → name class ∷ fixed kind.LeftBrace ∷ (a ++ (fixed kind.RightBrace ∷ [])) ≡ front ++ stopped → ⊥
    by front e =
        let same : fixed kind.RightBrace ≡ fixed kind.Bang =
        sym (last_or-push (fixed kind.LeftBrace) a (fixed kind.RightBrace))
        ∙ ap (last_or (fixed kind.LeftBrace)) e ∙ last_or-push (fixed kind.LeftBrace) front (fixed kind.Bang) in
        cc

-- ---- how many nodes the rows have

nodes-cons : (row : WrittenRow) (l : List WrittenRow) → count_by is_node (row ∷ l) ≡ cond (is_node row) 1 0 + count_by is_node l
nodes-cons row l = sum_by-cons (λ r. cond (is_node r) 1 0) row l

nodes-append : (a b : List WrittenRow) → count_by is_node (a ++ b) ≡ count_by is_node a + count_by is_node b
nodes-append a b = sum_by-append (λ r. cond (is_node r) 1 0) a b

mutual
  field_nodes : (f : WrittenFields) → count_by is_node (cut_fields f) ≡ nodes_in_fields f
  field_nodes no_fields = refl
  field_nodes (number_field x n later) = nodes-cons (rows.Number x n) (cut_fields later) ∙ (let more = field_nodes later in omega (arith, more))
  field_nodes (node_field x class inside later) =
      let below = field_nodes inside in
      let more = field_nodes later in
      nodes-cons (rows.Single x class (cut (length (cut_fields inside)))) (cut_fields inside ++ cut_fields later)
      ∙ omega (arith, below, more, nodes-append (cut_fields inside) (cut_fields later))
  field_nodes (list_field x inside later) =
      let below = list_nodes inside in
      let more = field_nodes later in
      nodes-cons (rows.List x (cut (length (cut_nodes inside)))) (cut_nodes inside ++ cut_fields later)
      ∙ omega (arith, below, more, nodes-append (cut_nodes inside) (cut_fields later))

  list_nodes : (l : WrittenNodes) → count_by is_node (cut_nodes l) ≡ nodes_in_list l
  list_nodes no_nodes = refl
  list_nodes (node_and class inside later) =
      let below = field_nodes inside in
      let more = list_nodes later in
      nodes-cons (rows.Kid class (cut (length (cut_fields inside)))) (cut_fields inside ++ cut_nodes later)
      ∙ omega (arith, below, more, nodes-append (cut_fields inside) (cut_nodes later))

-- ---- the document

-- a document is read to a depth of 512
document_is : (ts : Tokens) → reading.document_to 512 ts ≡ reading.document ts
unfolding reading.document
document_is ts = refl

pub text_document : (greatest : ℕ) (text : List ℕ) (d : DocumentRows) (left : Tokens) → length text ≤ most_page_bytes
    → by_rows.document (plain_tokens greatest text) ≡ Ok (d, left) → count_by is_node d.rows + 1 ≤ most_nodes
    → IsReadFrom greatest text d
text_document greatest text d left short e few =
    let ts = plain_tokens greatest text in
    let read = read_node ts left d e in
    let all = plain_scanned greatest text (document_goes_on ts read.node read.spells) in
    let s : WideTokenized = record { tokenized = record { text = text; tokens = all.tokens }; greatest = greatest } in
    let shallow = low_document 512 ts read.node read.spells (document_levels 512 ts read.rest read.node (document_is (plain_tokens greatest text) ∙ read.read)) in
    let count : count_by is_node d.rows ≡ nodes_in_fields read.node.fields =
    ap (λ (r : DocumentRows). count_by is_node r.rows) read.is ∙ field_nodes read.node.fields in
    let opened : count_of braces.opening ts ≤ most_nodes = omega (arith, count, few, document-opened read.spells) in
    record {
      tokens = all.tokens;
      scanned = all.scanned;
      reads =
          is_document s d left (subst (IsShallow braces 512) (sym all.said) shallow)
          (subst (λ (us : Tokens). count_of braces.opening us ≤ most_nodes) (sym all.said) opened)
          (omega (arith, all.few, short))
          (subst (AreAtMost greatest) (sym all.said) (plain_at_most greatest 0 text))
          (ap by_rows.document all.said ∙ e);
    }
