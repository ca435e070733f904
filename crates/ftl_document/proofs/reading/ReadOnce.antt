-- Each text has one answer by a grammar.
use Rattle.std.proofs.Common.{◌≡◌, ◌≢◌, ◌≤◌, ◌⊎◌, inl, inr, refl, sym, ap, ◌∙◌, arith, length, Option, Some, None}
use Rattle.std.proofs.Common.{Result, Ok, Err}
use Rattle.ftl_tokens.specs.scanner.Tokenized.{WideTokenized, symbols_of}
use Rattle.ftl_tokens.specs.reading.Reader.{AreAtMost}
use Rattle.ftl_tokens.proofs.reading.DepthOnce.{not_shallow}
use Rattle.ftl_meaning.specs.faults.Checked.{CheckedGrammar}
use Rattle.ftl_document.specs.syntax.Braces.{braces, deepest}
use Rattle.ftl_document.specs.syntax.Read.{ReadsDocument}
use Rattle.ftl_document.specs.syntax.Rows.{DocumentRows}
use Rattle.ftl_document.specs.syntax.Written.{WrittenNode}
use Rattle.ftl_document.specs.declared.syntax.fault.WrittenDocumentFault.{WrittenDocumentFault}
use Rattle.ftl_document.specs.declared.syntax.fault.WrittenDocumentFault.TheVariants as written
use Rattle.ftl_document.proofs.syntax.AnswerLemmas.{any_two_answers, some_answer}
use Rattle.ftl_document.proofs.syntax.Documents.{one_document}
use Rattle.ftl_document.specs.faults.FirstFault.{first_fault}
use Rattle.ftl_document.specs.declared.faults.fault.DocFault.{DocFault}
use Rattle.ftl_document.specs.declared.faults.fault.DocFault.TheVariants as fault
use Rattle.ftl_tree.specs.trees.CheckedTree.{CheckedTree}
use Rattle.ftl_document.specs.reading.ReadNodes.{as_document_fault}
use Rattle.ftl_document.specs.reading.ReadTree.{IsFaultOfNodes, IsSpelled, ReadsTree, checked_tree}
use Rattle.ftl_document.proofs.reading.AnsweredFaults.{fault_no_memory, fault_answered}

-- an answer that is not want of memory
abbrev pub Answer : CheckedGrammar → WideTokenized → Type 0
Answer c s = (answer : Result CheckedTree DocFault) × (answer ≢ Err fault.OutOfMemory) × ReadsTree c s answer

-- ---- some answer

-- by the first fault of the document
by_fault : (c : CheckedGrammar) (s : WideTokenized) (node : WrittenNode) (o : Option DocFault) → IsSpelled s node
    → first_fault c.grammar node ≡ o → Answer c s
by_fault c s node None spelled none = (
  Ok (checked_tree c node),
  (λ memory. cc),
  record { node = node; spelled = spelled; none = none; is = refl },
)
by_fault c s node (Some x) spelled first = (
  Err x,
  (λ memory. fault_no_memory c node x first (cc memory)),
  fault_answered c s node x spelled first,
)

pub some_tree : (c : CheckedGrammar) (s : WideTokenized) → length s.tokenized.tokens ≤ 4294967295
    → AreAtMost s.greatest (symbols_of s.tokenized) → Answer c s
some_tree c s short small =
    by_text (some_answer s short small).0 (some_answer s short small).1 (some_answer s short small).2
  where
    by_text : (read : _) → read ≢ Err written.OutOfMemory → ReadsDocument s read → Answer c s
    by_text (Ok d) of_text h =
        by_fault c s h.node (first_fault c.grammar h.node)
        (record { spells = h.spells; shallow = h.shallow; few = h.few }) refl
    by_text (Err (written.TooDeep at)) of_text h = (Err (fault.TooDeep at), (λ memory. cc), h)
    by_text (Err (written.TooManyNodes count)) of_text h = (Err (fault.TooManyNodes count), (λ memory. cc), h)
    by_text (Err (written.Syntax at)) of_text h = (Err (fault.Syntax at), (λ memory. cc), h)
    by_text (Err written.OutOfMemory) of_text h = absurd (of_text refl)

-- ---- and no other

-- the answer by the first fault of a document
abbrev answer_by : CheckedGrammar → WrittenNode → Option DocFault → Result CheckedTree DocFault
answer_by c node None = Ok (checked_tree c node)
answer_by c node (Some x) = Err x

-- the answer is that of a document that is spelled
record IsOfDocument (c : CheckedGrammar) (s : WideTokenized) (answer : Result CheckedTree DocFault) : Type 0 where
  node : WrittenNode
  spelled : IsSpelled s node
  is : answer ≡ answer_by c node (first_fault c.grammar node)

-- the answer is a fault of the text
record IsOfText (s : WideTokenized) (answer : Result CheckedTree DocFault) : Type 0 where
  of_text : WrittenDocumentFault
  some : of_text ≢ written.OutOfMemory
  reads : ReadsDocument s (Err of_text)
  is : answer ≡ Err (as_document_fault of_text)

of_nodes : (c : CheckedGrammar) (s : WideTokenized) (x : DocFault) → IsFaultOfNodes c s x
    → IsOfDocument c s (Err x) ⊎ IsOfText s (Err x)
of_nodes c s x h =
    inl (record { node = h.node; spelled = h.spelled; is = sym (ap (answer_by c h.node) h.first) })

either : (c : CheckedGrammar) (s : WideTokenized) (answer : Result CheckedTree DocFault)
    → answer ≢ Err fault.OutOfMemory → ReadsTree c s answer → IsOfDocument c s answer ⊎ IsOfText s answer
either c s (Ok t) some h =
    inl (record { node = h.node; spelled = h.spelled; is = ap Ok h.is ∙ sym (ap (answer_by c h.node) h.none) })
either c s (Err (fault.TooDeep at)) some h =
    inr (record { of_text = written.TooDeep at; some = λ memory. cc; reads = h; is = refl })
either c s (Err (fault.TooManyNodes count)) some h =
    inr (record { of_text = written.TooManyNodes count; some = λ memory. cc; reads = h; is = refl })
either c s (Err (fault.Syntax at)) some h =
    inr (record { of_text = written.Syntax at; some = λ memory. cc; reads = h; is = refl })
either c s (Err (fault.UnknownClass node name)) some h = of_nodes c s (fault.UnknownClass node name) h
either c s (Err (fault.WrongInterface node class wanted)) some h =
    of_nodes c s (fault.WrongInterface node class wanted) h
either c s (Err (fault.UnknownField node name)) some h = of_nodes c s (fault.UnknownField node name) h
either c s (Err (fault.FieldTwice node name)) some h = of_nodes c s (fault.FieldTwice node name) h
either c s (Err (fault.FieldForm node name)) some h = of_nodes c s (fault.FieldForm node name) h
either c s (Err (fault.FieldOrder node name)) some h = of_nodes c s (fault.FieldOrder node name) h
either c s (Err (fault.FieldMissing node name)) some h = of_nodes c s (fault.FieldMissing node name) h
either c s (Err (fault.TooManyInstances count)) some h = of_nodes c s (fault.TooManyInstances count) h
either c s (Err fault.OutOfMemory) some h = absurd (some refl)

-- a text that spells a document has no fault
no_fault : (s : WideTokenized) (node : WrittenNode) (x : WrittenDocumentFault) → IsSpelled s node
    → x ≢ written.OutOfMemory → ReadsDocument s (Err x) → ⊥
no_fault s node (written.TooDeep at) spelled some h = not_shallow braces deepest s.tokenized h spelled.shallow
no_fault s node (written.TooManyNodes count) spelled some h =
    let few = spelled.few in
    let many = h.many in
    let exact = h.exact in
    omega (arith, few, many, exact)
no_fault s node (written.Syntax at) spelled some h = h.none node spelled.spells
no_fault s node written.OutOfMemory spelled some h = some refl

abbrev as_read : WrittenDocumentFault → Result DocumentRows WrittenDocumentFault
as_read x = Err x

-- two faults of a text are one
same_of_text : (s : WideTokenized) (a b : WrittenDocumentFault) → a ≢ written.OutOfMemory → b ≢ written.OutOfMemory
    → ReadsDocument s (Err a) → ReadsDocument s (Err b) → a ≡ b
same_of_text s a b some other h k =
    let same : as_read a ≡ as_read b =
    any_two_answers s (as_read a) (as_read b) (λ memory. some (cc memory)) (λ memory. other (cc memory)) h k in
    cc same

pub any_two_trees : (c : CheckedGrammar) (s : WideTokenized) (answer other : Result CheckedTree DocFault)
    → answer ≢ Err fault.OutOfMemory → other ≢ Err fault.OutOfMemory → ReadsTree c s answer → ReadsTree c s other
    → answer ≡ other
any_two_trees c s answer other some other_some a b = by_kinds (either c s answer some a) (either c s other other_some b)
  where
    by_kinds : IsOfDocument c s answer ⊎ IsOfText s answer → IsOfDocument c s other ⊎ IsOfText s other → answer ≡ other
    by_kinds (inl x) (inl y) =
        x.is
        ∙ ap (λ (n : WrittenNode). answer_by c n (first_fault c.grammar n))
        (one_document (symbols_of s.tokenized) x.node y.node x.spelled.spells y.spelled.spells)
        ∙ sym y.is
    by_kinds (inl x) (inr y) = absurd (no_fault s x.node y.of_text x.spelled y.some y.reads)
    by_kinds (inr x) (inl y) = absurd (no_fault s y.node x.of_text y.spelled x.some x.reads)
    by_kinds (inr x) (inr y) =
        x.is
        ∙ ap (λ f. Err (as_document_fault f))
        (same_of_text s x.of_text y.of_text x.some y.some x.reads y.reads)
        ∙ sym y.is
