-- The tokens of a document's canonical text are read as they were written, and spell it.
use Rattle.std.proofs.Common.{◌≡◌, ℕ, ◌≤◌, List, [], ◌∷◌, ◌++◌, codes, ℤ, pos, negsuc, refl, sym, subst}
use Rattle.std.proofs.lemmas.List.{append-nil, map-append}
use Rattle.ftl_tokens.specs.declared.scanner.kind.Kind.{Kind}
use Rattle.ftl_tokens.specs.declared.scanner.kind.Kind.TheVariants as kind
use Rattle.ftl_tokens.specs.scanner.Tokenized.{fixed, name}
use Rattle.ftl_tokens.specs.reading.Reader.{IsFixed}
use Rattle.ftl_tokens.specs.writing.Written.{AreReadable, Written, said_by, written}
use Rattle.ftl_tokens.proofs.writing.WrittenScan.{says_written}
use Rattle.ftl_document.specs.syntax.Sizes.{FieldsAreWithin, NodesAreWithin}
use Rattle.ftl_document.specs.syntax.Spelling.{SpellsFields, SpellsNode, SpellsNodes, SpellsNumber, list_and, negative}
use Rattle.ftl_document.specs.syntax.Spelling.{no_more, node_more, node_of, none, number_and, plain, single_and}
use Rattle.ftl_document.specs.syntax.Written.{NameText, WrittenFields, WrittenNode, WrittenNodes, list_field, no_fields}
use Rattle.ftl_document.specs.syntax.Written.{no_nodes, node_and, node_field, number_field}
use Rattle.ftl_document_printing.specs.text.DocumentText.{AreFieldsSaid, AreNodesSaid, CanBeWritten, IsSaid, IsTextOf, closed_by}
use Rattle.ftl_document_printing.specs.text.DocumentText.{document_text, document_written, field_opened, fields_written}
use Rattle.ftl_document_printing.specs.text.DocumentText.{mark_written, name_written, node_opened, nodes_written, number_written}
use Rattle.ftl_document_printing.proofs.text.Fronts.{Fronts, front-append, number_front, spaced_front}

-- ---- they are read as they were written

module _ (greatest : ℕ) where
  mark_front : (k : Kind) → IsFixed k → Fronts greatest (mark_written k ∷ [])
  mark_front k is = spaced_front greatest (mark_written k) is refl

  name_front : (x : NameText) → IsSaid x → Fronts greatest (name_written x ∷ [])
  name_front x said = spaced_front greatest (name_written x) said refl

  field_front : (x : NameText) → IsSaid x → Fronts greatest (field_opened x)
  field_front x said =
      front-append greatest (name_written x ∷ []) (mark_written kind.Equals ∷ []) (name_front x said)
      (mark_front kind.Equals tt)

  open_front : (x : NameText) → IsSaid x → Fronts greatest (node_opened x)
  open_front x said =
      front-append greatest (name_written x ∷ []) (mark_written kind.LeftBrace ∷ []) (name_front x said)
      (mark_front kind.LeftBrace tt)

  close_front : (k : Kind) → IsFixed k → (later : List Written) → Fronts greatest later
      → Fronts greatest (closed_by k later)
  close_front k is later ok = front-append greatest (mark_written k ∷ []) later (mark_front k is) ok

  mutual
    fields_front : (f : WrittenFields) → AreFieldsSaid f → FieldsAreWithin greatest f
        → Fronts greatest (fields_written f)
    fields_front no_fields said within = λ rest ok. ok
    fields_front (number_field x n later) said within =
        front-append greatest (field_opened x) (number_written n ++ fields_written later) (field_front x said.0)
        (front-append greatest (number_written n) (fields_written later) (number_front greatest n within.0)
        (fields_front later said.1 within.1))
    fields_front (node_field x class fields later) said within =
        let closing = closed_by kind.RightBrace (fields_written later) in
        front-append greatest (field_opened x) (node_opened class ++ (fields_written fields ++ closing))
        (field_front x said.0)
        (front-append greatest (node_opened class) (fields_written fields ++ closing) (open_front class said.1)
        (front-append greatest (fields_written fields) closing (fields_front fields said.2 within.0)
        (close_front kind.RightBrace tt (fields_written later) (fields_front later said.3 within.1))))
    fields_front (list_field x nodes later) said within =
        let closing = closed_by kind.RightBracket (fields_written later) in
        front-append greatest (field_opened x) (mark_written kind.LeftBracket ∷ (nodes_written nodes ++ closing))
        (field_front x said.0)
        (front-append greatest (mark_written kind.LeftBracket ∷ []) (nodes_written nodes ++ closing)
        (mark_front kind.LeftBracket tt)
        (front-append greatest (nodes_written nodes) closing (nodes_front nodes said.1 within.0)
        (close_front kind.RightBracket tt (fields_written later) (fields_front later said.2 within.1))))

    nodes_front : (nodes : WrittenNodes) → AreNodesSaid nodes → NodesAreWithin greatest nodes
        → Fronts greatest (nodes_written nodes)
    nodes_front no_nodes said within = λ rest ok. ok
    nodes_front (node_and class fields later) said within =
        let closing = closed_by kind.RightBrace (nodes_written later) in
        front-append greatest (node_opened class) (fields_written fields ++ closing) (open_front class said.0)
        (front-append greatest (fields_written fields) closing (fields_front fields said.1 within.0)
        (close_front kind.RightBrace tt (nodes_written later) (nodes_front later said.2 within.1)))

  document_front : (node : WrittenNode) → CanBeWritten greatest node → Fronts greatest (document_written node)
  document_front node can =
      let closing = written (fixed kind.RightBrace) (codes "\n") ∷ [] in
      front-append greatest (node_opened node.class) (fields_written node.fields ++ closing)
      (open_front node.class can.class)
      (front-append greatest (fields_written node.fields) closing (fields_front node.fields can.names can.numbers)
      (spaced_front greatest (written (fixed kind.RightBrace) (codes "\n")) tt refl))

-- ---- they spell the document

-- what tokens say, one list after another
said-append : (xs ys : List Written) → said_by (xs ++ ys) ≡ said_by xs ++ said_by ys
said-append xs ys = map-append (λ (t : Written). t.says) xs ys

number_spells : (n : ℤ) → SpellsNumber (said_by (number_written n)) n
number_spells (pos n) = plain
number_spells (negsuc n) = negative

mutual
  fields_spell : (f : WrittenFields) → SpellsFields (said_by (fields_written f)) f
  fields_spell no_fields = no_more
  fields_spell (number_field x n later) =
      subst (λ ts. SpellsFields (name x ∷ fixed kind.Equals ∷ ts) (number_field x n later))
      (sym (said-append (number_written n) (fields_written later)))
      (number_and (number_spells n) (fields_spell later))
  fields_spell (node_field x class fields later) =
      subst
      (λ ts. SpellsFields (name x ∷ fixed kind.Equals ∷ name class ∷ fixed kind.LeftBrace ∷ ts)
      (node_field x class fields later))
      (sym (said-append (fields_written fields) (closed_by kind.RightBrace (fields_written later))))
      (single_and (fields_spell fields) (fields_spell later))
  fields_spell (list_field x nodes later) =
      subst (λ ts. SpellsFields (name x ∷ fixed kind.Equals ∷ fixed kind.LeftBracket ∷ ts) (list_field x nodes later))
      (sym (said-append (nodes_written nodes) (closed_by kind.RightBracket (fields_written later))))
      (list_and (nodes_spell nodes) (fields_spell later))

  nodes_spell : (nodes : WrittenNodes) → SpellsNodes (said_by (nodes_written nodes)) nodes
  nodes_spell no_nodes = none
  nodes_spell (node_and class fields later) =
      subst (λ ts. SpellsNodes (name class ∷ fixed kind.LeftBrace ∷ ts) (node_and class fields later))
      (sym (said-append (fields_written fields) (closed_by kind.RightBrace (nodes_written later))))
      (node_more (fields_spell fields) (nodes_spell later))

document_spells : (node : WrittenNode) → SpellsNode (said_by (document_written node)) node
document_spells node =
    subst (λ ts. SpellsNode (name node.class ∷ fixed kind.LeftBrace ∷ ts) node)
    (sym (said-append (fields_written node.fields) (written (fixed kind.RightBrace) (codes "\n") ∷ [])))
    (node_of (fields_spell node.fields))

-- ---- both

pub canonical : (greatest : ℕ) (node : WrittenNode) → greatest ≤ 140737488355327 → CanBeWritten greatest node
    → IsTextOf greatest (document_text node) node
canonical greatest node most can =
    let tokens = document_written node in
    let ready : AreReadable greatest tokens =
    subst (AreReadable greatest) (append-nil tokens) (document_front greatest node can [] tt) in
    let says = says_written greatest most tokens ready in
    record {
      tokens = says.tokens;
      scanned = says.scanned;
      spells = subst (λ ts. SpellsNode ts node) (sym says.said) (document_spells node);
    }
