-- What the reader of documents answers, in the words of the syntax.
use Rattle.std.proofs.Common.{◌≡◌, ℕ, ◌+◌, ◌-◌, ◌≤◌, ◌++◌, length, Ok, Err, refl, sym, ap, ◌∙◌, subst}
use Rattle.std.proofs.Common.{append-nil, arith}
use Rattle.std.specs.List.{All}
use Rattle.std.proofs.lemmas.List.{length-map}
use Rattle.ftl_tokens.specs.scanner.Tokenized.{Tokenized, WideTokenized, symbol_of, symbols_of}
use Rattle.ftl_tokens.specs.reading.Reader.{Tokens, ReadResult, and_then, pure, AreAtMost}
use Rattle.ftl_tokens.specs.reading.Place.{place_of}
use Rattle.ftl_tokens.proofs.reading.KeptPrefix.{Taken, HasPrefix, Grown}
use Rattle.ftl_tokens.proofs.reading.Alike.{left}
use Rattle.ftl_tokens.proofs.reading.Places.{Placed, none_spelled, longest_front, is_place}
use Rattle.ftl_tokens.proofs.reading.WholeLists.{ReadsAll, bind_reads_all, end_reads_all, same_value}
use Rattle.ftl_document.specs.syntax.Written.{WrittenNode}
use Rattle.ftl_document.specs.syntax.Spelling.{SpellsNode}
use Rattle.ftl_document.specs.syntax.Rows.{DocumentRows, document_rows, rows_of_fields}
use Rattle.ftl_model.specs.layout.Limits.{most_nodes}
use Rattle.ftl_document.specs.syntax.Read.{IsNotTooDeep, opened_in, IsDocument, IsNoDocument}
use Rattle.ftl_document.specs.syntax.Sizes.{RowIsWithin}
use Rattle.ftl_document.proofs.syntax.Reading.{node, fields_to, document_to, document}
use Rattle.ftl_document.specs.syntax.RowReading as by_rows
use Rattle.ftl_document.proofs.syntax.Heights.{height, shallow_height}
use Rattle.ftl_document.proofs.syntax.DocumentPrefix.{document_prefix}
use Rattle.ftl_document.proofs.syntax.Went.{document_went}
use Rattle.ftl_document.proofs.syntax.OneAhead.{document_alike}
use Rattle.ftl_document.proofs.syntax.RowLemmas.{cut_document, document-rows}
use Rattle.ftl_document.proofs.syntax.SizeLemmas.{document-opened, document-levels}
use Rattle.ftl_document.proofs.syntax.NumberLemmas.{document-within, rows-within, document-le-tokens, uncut-fields}

-- no tokens spell two documents
pub one_document : (tokens : Tokens) (d e : WrittenNode) → SpellsNode tokens d → SpellsNode tokens e → d ≡ e
one_document tokens d e s t =
    let depth = height tokens in
    same_value (document_went s depth (omega arith)) (document_went t depth (omega arith))

-- ---- what the reader answers

document_reads_all : ReadsAll document
unfolding document document_to
document_reads_all = bind_reads_all (node (fields_to 512)) (λ x. end_reads_all x)

-- what is read is spelled
is_spelled : (tokens left : Tokens) (x : WrittenNode) → document tokens ≡ Ok (x, left) → SpellsNode tokens x
unfolding document
is_spelled tokens left x e =
    let none_left = document_reads_all.none_left tokens left x e in
    let taken : Taken SpellsNode tokens x left =
    subst (λ o. HasPrefix SpellsNode o tokens) e ((document_prefix 512).keeps tokens) in
    let whole : tokens ≡ taken.front = taken.split ∙ ap (λ l. taken.front ++ l) none_left ∙ append-nil taken.front in
    subst (λ l. SpellsNode l x) (sym whole) taken.spells

-- a document that is read, and its rows
pub record ReadNode (tokens : Tokens) (d : DocumentRows) : Type 0 where
  pub node : WrittenNode
  pub rest : Tokens
  pub read : document tokens ≡ Ok (node, rest)
  pub spells : SpellsNode tokens node
  pub is : d ≡ cut_document node

pub read_node : (tokens left : Tokens) (d : DocumentRows) → by_rows.document tokens ≡ Ok (d, left) → ReadNode tokens d
read_node tokens left d e = by (document tokens) refl
  where
    rows_in : ReadResult DocumentRows → DocumentRows → DocumentRows
    rows_in (Ok p) other = p.0
    rows_in (Err rest) other = other

    by : (o : ReadResult WrittenNode) → document tokens ≡ o → ReadNode tokens d
    by (Ok x) read =
        let same : Ok (d, left) ≡ Ok (cut_document x.0, x.1) =
        sym e ∙ document-rows tokens ∙ ap (λ o. and_then o (λ n. pure (cut_document n))) read in
        record { node = x.0; rest = x.1; read = read; spells = is_spelled tokens x.1 x.0 read; is = ap (λ o. rows_in o d) same }
    by (Err rest) read =
        absurd (
        let same : Ok (d, left) ≡ Err rest =
        sym e ∙ document-rows tokens ∙ ap (λ o. and_then o (λ n. pure (cut_document n))) read in
        cc
        )

pub is_document : (s : WideTokenized) (d : DocumentRows) (left : Tokens) → IsNotTooDeep s.tokenized
    → opened_in s.tokenized ≤ most_nodes → length s.tokenized.tokens ≤ 4294967295
    → AreAtMost s.greatest (symbols_of s.tokenized) → by_rows.document (symbols_of s.tokenized) ≡ Ok (d, left)
    → IsDocument s d
is_document s d left shallow few short small e =
    let tokens = symbols_of s.tokenized in
    let read = read_node tokens left d e in
    let rows = rows_of_fields read.node.fields in
    let count = document-le-tokens read.spells in
    let short_rows : length rows ≤ 4294967295 =
    omega (arith, count, short, length-map s.tokenized.tokens (symbol_of s.tokenized.text)) in
    let is : d ≡ document_rows read.node.class rows =
    read.is ∙ ap (document_rows read.node.class) (uncut-fields read.node.fields short_rows) in
    let levels = document-levels read.spells in
    let high = shallow_height 512 tokens shallow in
    let inputs = document-within s.greatest read.spells small in
    record {
      node = read.node;
      spells = read.spells;
      is = is;
      shallow = shallow;
      few = few;
      levels = omega (arith, levels, high);
      count = omega (arith, few, document-opened read.spells);
      inputs = inputs;
      numbers =
          subst (λ (l : DocumentRows). All (RowIsWithin s.greatest) l.rows) (sym is)
          (rows-within s.greatest read.node.fields inputs);
    }

-- the reader looks one token ahead, and reads all that is spelled
placed : Placed SpellsNode height 513 513 document (λ k. document_to (512 + k))
unfolding document
placed = record {
  alike = λ k. document_alike 512 (512 + k) (omega arith);
  reads = λ spells k small. document_went spells (512 + k) (omega arith);
}

-- where rows are refused, the document is
refused : (tokens rest : Tokens) → by_rows.document tokens ≡ Err rest → document tokens ≡ Err rest
refused tokens rest e = by (document tokens) refl
  where
    as_rows : ReadResult WrittenNode → ReadResult DocumentRows
    as_rows o = and_then o (λ n. pure (cut_document n))

    by : (o : ReadResult WrittenNode) → document tokens ≡ o → document tokens ≡ Err rest
    by (Ok x) read =
        absurd (let same : Err rest ≡ as_rows (Ok x) = sym e ∙ document-rows tokens ∙ ap as_rows read in cc)
    by (Err other) read =
        let same : as_rows (Err other) ≡ Err rest = sym (ap as_rows read) ∙ sym (document-rows tokens) ∙ e in
        read ∙ ap (λ l. Err l) (ap left same)

-- where the reader refuses a token, no document is spelled, and the tokens go wrong there
pub is_no_document : (s : Tokenized) (rest : Tokens) (kept at : ℕ) → IsNotTooDeep s → opened_in s ≤ most_nodes
    → by_rows.document (symbols_of s) ≡ Err rest → kept ≡ length rest
    → at ≡ place_of s.tokens (length s.tokens - kept) → IsNoDocument s at
unfolding document
is_no_document s rest kept at shallow few e count place =
    let tokens = symbols_of s in
    let read = refused tokens rest e in
    let grown : Grown SpellsNode tokens rest =
    subst (λ o. HasPrefix SpellsNode o tokens) read ((document_prefix 512).keeps tokens) in
    let small = shallow_height 512 tokens shallow in
    record {
      shallow = shallow;
      few = few;
      none = λ x spells. none_spelled placed tokens rest x small read grown spells;
      place = is_place rest (longest_front placed tokens rest small read grown) kept count place;
    }
