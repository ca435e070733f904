-- The rows that are read are those of what is read, with `below` no more than 32 bits hold.
use Rattle.std.proofs.Common.{◌≡◌, ℕ, zero, suc, min, pos, neg_ℤ, [], ◌∷◌, ◌++◌, length, set, Option}
use Rattle.std.proofs.Common.{Some, Ok, Err, refl, sym, ap, ◌∙◌, append_assoc, append-nil, length-append, arith}
use Rattle.std.proofs.lemmas.List.{set_at}
use Rattle.ftl_tokens.specs.declared.scanner.kind.Kind.{Kind}
use Rattle.ftl_tokens.specs.declared.scanner.kind.Kind.TheVariants as kind
use Rattle.ftl_tokens.specs.reading.Reader.{Tokens, ReadResult, Reader, and_then, ◌>>=◌, ◌>>◌, pure, go_on, next_kind, rest_of}
use Rattle.ftl_tokens.specs.reading.Reader.{expect, take_name, take_number, at_end, chain, chain_of}
use Rattle.ftl_document.specs.declared.syntax.row.WrittenRow.{WrittenRow}
use Rattle.ftl_document.specs.declared.syntax.row.WrittenRow.TheVariants as rows
use Rattle.ftl_document.specs.syntax.Written.{NameText, WrittenFields, WrittenNode, WrittenNodes, no_fields, number_field}
use Rattle.ftl_document.specs.syntax.Written.{node_field, list_field, no_nodes, node_and, written_node}
use Rattle.ftl_document.specs.syntax.Rows.{DocumentRows, document_rows}
use Rattle.ftl_document.proofs.syntax.Reading as reading
use Rattle.ftl_document.proofs.syntax.Reading.{append_fields, append_nodes, add_node, one_number, one_single, one_list}
use Rattle.ftl_document.proofs.syntax.Reading.{more_by}
use Rattle.ftl_document.specs.syntax.RowReading as by_rows
use Rattle.ftl_document.specs.syntax.RowReading.{Found, RowReader, below, round_by, rounds, rounds_of}

-- a count, and no more than 32 bits hold
abbrev pub cut : ℕ → ℕ
cut n = min n 4294967295

abbrev mutual
  -- the rows of some fields, each with its count cut
  pub cut_fields : WrittenFields → Found
  cut_fields no_fields = []
  cut_fields (number_field x n later) = rows.Number x n ∷ cut_fields later
  cut_fields (node_field x class fields later) =
      rows.Single x class (cut (length (cut_fields fields))) ∷ (cut_fields fields ++ cut_fields later)
  cut_fields (list_field x nodes later) =
      rows.List x (cut (length (cut_nodes nodes))) ∷ (cut_nodes nodes ++ cut_fields later)

  -- the rows of the nodes in a list, each with its count cut
  pub cut_nodes : WrittenNodes → Found
  cut_nodes no_nodes = []
  cut_nodes (node_and class fields later) =
      rows.Kid class (cut (length (cut_fields fields))) ∷ (cut_fields fields ++ cut_nodes later)

-- the rows of one node in a list
abbrev pub cut_node : WrittenNode → Found
cut_node node = rows.Kid node.class (cut (length (cut_fields node.fields))) ∷ cut_fields node.fields

-- what was read, as rows behind those that were found
abbrev pub pushed : {A : Type 0} → (A → Found) → Found → ReadResult A → ReadResult Found
pushed rows_of found (Ok p) = Ok (found ++ rows_of p.0, p.1)
pushed rows_of found (Err rest) = Err rest

-- the row reader gives the rows of what the reader reads
pub record Rows {A : Type 0} (rows_of : A → Found) (p : Reader A) (q : RowReader) : Type 0 where
  pub same : (found : Found) (ts : Tokens) → q found ts ≡ pushed rows_of found (p ts)

-- ---- rows behind others

pub cut_fields-append : (a b : WrittenFields) → cut_fields (append_fields a b) ≡ cut_fields a ++ cut_fields b
cut_fields-append no_fields b = refl
cut_fields-append (number_field x n later) b = ap (λ l. rows.Number x n ∷ l) (cut_fields-append later b)
cut_fields-append (node_field x class fields later) b =
    ap (λ l. rows.Single x class (cut (length (cut_fields fields))) ∷ l)
    (ap (λ l. cut_fields fields ++ l) (cut_fields-append later b)
    ∙ sym (append_assoc (cut_fields fields) (cut_fields later) (cut_fields b)))
cut_fields-append (list_field x nodes later) b =
    ap (λ l. rows.List x (cut (length (cut_nodes nodes))) ∷ l)
    (ap (λ l. cut_nodes nodes ++ l) (cut_fields-append later b)
    ∙ sym (append_assoc (cut_nodes nodes) (cut_fields later) (cut_fields b)))

cut_nodes-append : (a b : WrittenNodes) → cut_nodes (append_nodes a b) ≡ cut_nodes a ++ cut_nodes b
cut_nodes-append no_nodes b = refl
cut_nodes-append (node_and class fields later) b =
    ap (λ l. rows.Kid class (cut (length (cut_fields fields))) ∷ l)
    (ap (λ l. cut_fields fields ++ l) (cut_nodes-append later b)
    ∙ sym (append_assoc (cut_fields fields) (cut_nodes later) (cut_nodes b)))

pub cut_nodes-add : (a : WrittenNodes) (x : WrittenNode) → cut_nodes (add_node a x) ≡ cut_nodes a ++ cut_node x
cut_nodes-add a x =
    cut_nodes-append a (node_and x.class x.fields no_nodes)
    ∙ ap (λ l. cut_nodes a ++ (rows.Kid x.class (cut (length (cut_fields x.fields))) ∷ l)) (append-nil (cut_fields x.fields))

-- ---- a row that is set when its inside has been read

-- how many rows there are behind it
below-there : (found : Found) (row : WrittenRow) (inside : Found)
    → below ((found ++ (row ∷ [])) ++ inside) (length found) ≡ cut (length inside)
below-there found row inside =
    ap cut
    (omega (arith, length-append (found ++ (row ∷ [])) inside, length-append found (row ∷ [])))

-- it stands behind those that were found, and before its inside
set-there : (found : Found) (old new : WrittenRow) (inside : Found)
    → set ((found ++ (old ∷ [])) ++ inside) (length found) new ≡ found ++ (new ∷ inside)
set-there found old new inside =
    ap (λ l. set l (length found) new) (append_assoc found (old ∷ []) inside) ∙ set_at found old inside new (length found) refl

-- with its count
pub row-there : (found : Found) (old : WrittenRow) (row : ℕ → WrittenRow) (inside : Found)
    → set ((found ++ (old ∷ [])) ++ inside) (length found) (row (below ((found ++ (old ∷ [])) ++ inside) (length found)))
    ≡ found ++ (row (cut (length inside)) ∷ inside)
row-there found old row inside =
    ap (λ k. set ((found ++ (old ∷ [])) ++ inside) (length found) (row k)) (below-there found old inside)
    ∙ set-there found old (row (cut (length inside))) inside

-- ---- steps

-- a step that gives no rows, before others that do
after : {X A : Type 0} {rows_of : A → Found} {p : X → Reader A} {q : X → RowReader} (found : Found) (o : ReadResult X)
    → ((x : X) → Rows rows_of (p x) (q x))
    → and_then o (λ x. q x found) ≡ pushed rows_of found (and_then o p)
after found (Ok x) each = (each x.0).same found x.1
after found (Err rest) each = refl

-- a step that gives rows, before one that gives none
before : {A X : Type 0} (rows_of : A → Found) (found : Found) (o : ReadResult A) (p : Reader X)
    → and_then (pushed rows_of found o) (λ inside. p >> pure inside)
    ≡ pushed rows_of found (and_then o (λ x. p >> pure x))
before {A} {X} rows_of found (Err rest) p = refl
before {A} {X} rows_of found (Ok x) p = by (p x.1)
  where
    by : (o : ReadResult X)
        → and_then o (λ u. pure (found ++ rows_of x.0)) ≡ pushed rows_of found (and_then o (λ u. pure x.0))
    by (Ok y) = refl
    by (Err rest) = refl

-- a row is set at the end of a step that gives its inside
placed : {A B : Type 0} (inside_of : A → Found) (rows_of : B → Found) (g : A → B) (old : WrittenRow)
    (row : ℕ → WrittenRow) (found : Found) (o : ReadResult A)
    → ((x : A) → row (cut (length (inside_of x))) ∷ inside_of x ≡ rows_of (g x))
    → and_then (pushed inside_of (found ++ (old ∷ [])) o)
    (λ inside. pure (set inside (length found) (row (below inside (length found)))))
    ≡ pushed rows_of found (and_then o (λ x. pure (g x)))
placed inside_of rows_of g old row found (Ok x) e =
    ap (λ l. Ok (l, x.1)) (row-there found old row (inside_of x.0) ∙ ap (λ l. found ++ l) (e x.0))
placed inside_of rows_of g old row found (Err rest) e = refl

-- the same, past a step that gives nothing
placed_past : {A B X : Type 0} (inside_of : A → Found) (rows_of : B → Found) (g : A → B) (old : WrittenRow)
    (row : ℕ → WrittenRow) (found : Found) (o : ReadResult A) (p : Reader X)
    → ((x : A) → row (cut (length (inside_of x))) ∷ inside_of x ≡ rows_of (g x))
    → and_then (pushed inside_of (found ++ (old ∷ [])) o)
    (λ inside. p >> pure (set inside (length found) (row (below inside (length found)))))
    ≡ pushed rows_of found (and_then o (λ x. p >> pure (g x)))
placed_past inside_of rows_of g old row found (Err rest) p e = refl
placed_past {A} {B} {X} inside_of rows_of g old row found (Ok x) p e = by (p x.1)
  where
    inside : Found
    inside = (found ++ (old ∷ [])) ++ inside_of x.0

    by : (o : ReadResult X)
        → and_then o (λ u. pure (set inside (length found) (row (below inside (length found)))))
        ≡ pushed rows_of found (and_then o (λ u. pure (g x.0)))
    by (Ok y) = ap (λ l. Ok (l, y.1)) (row-there found old row (inside_of x.0) ∙ ap (λ l. found ++ l) (e x.0))
    by (Err rest) = refl

-- a value that is made in two steps
regroup : {X A B C : Type 0} (o : ReadResult X) (p : Reader A) (g : X → A → B) (h : B → C)
    → and_then o (λ c. p >>= (λ y. pure (h (g c y))))
    ≡ and_then (and_then o (λ c. p >>= (λ y. pure (g c y)))) (λ n. pure (h n))
regroup (Err rest) p g h = refl
regroup {X} {A} {B} {C} (Ok c) p g h = by (p c.1)
  where
    by : (o : ReadResult A)
        → and_then o (λ y. pure (h (g c.0 y))) ≡ and_then (and_then o (λ y. pure (g c.0 y))) (λ n. pure (h n))
    by (Ok y) = refl
    by (Err rest) = refl

-- ---- rounds

module _ {A B : Type 0} (one : A → Found) (all : B → Found) (add : B → A → B) {p : Reader A} {q : RowReader}
    (each : Rows one p q) (adds : (b : B) (x : A) → all (add b x) ≡ all b ++ one x) where
  -- one round, and those after it
  round-same : (n : ℕ) (first : Found) (b : B) (k : Option Kind) (ts : Tokens)
      → ((c : B) (us : Tokens) → rounds q n (first ++ all c) us ≡ pushed all first (chain add (reading.more p) n c us))
      → round_by (q (first ++ all b)) (λ more. rounds q n more) (first ++ all b) k ts
      ≡ pushed all first (and_then (more_by p k ts) (go_on b (λ x. chain add (reading.more p) n (add b x))))
  round-same n first b (Some kind.Name) ts again =
      ap (λ o. and_then o (λ more. rounds q n more)) (each.same (first ++ all b) ts) ∙ by (p ts)
    where
      by : (o : ReadResult A)
          → and_then (pushed one (first ++ all b) o) (λ more. rounds q n more)
          ≡ pushed all first
          (and_then (and_then o (λ x. pure (Some x))) (go_on b (λ x. chain add (reading.more p) n (add b x))))
      by (Ok x) =
          ap (λ l. rounds q n l x.1)
          (append_assoc first (all b) (one x.0) ∙ ap (λ l. first ++ l) (sym (adds b x.0)))
          ∙ again (add b x.0) x.1
      by (Err rest) = refl
  round-same n first b _ ts again = refl

  -- any count of rounds
  rounds-same : (n : ℕ) (first : Found) (b : B) (ts : Tokens)
      → rounds q n (first ++ all b) ts ≡ pushed all first (chain add (reading.more p) n b ts)
  unfolding rounds chain reading.more
  rounds-same zero first b ts = refl
  rounds-same (suc n) first b ts = round-same n first b (next_kind ts) ts (λ c us. rounds-same n first c us)

  -- as many rounds as there are tokens, from none on
  pub rounds-rows : (none : B) → all none ≡ [] → Rows all (chain_of add (reading.more p) none) (rounds_of q)
  rounds-rows none e = record {
    same = λ found ts.
        ap (λ l. rounds q (length ts) l ts) (sym (append-nil found) ∙ ap (λ l. found ++ l) (sym e))
        ∙ rounds-same (length ts) found none ts;
  }

-- ---- the readers

module _ {fields : Reader WrittenFields} {row_fields : RowReader} (inside : Rows cut_fields fields row_fields) where
  braced-rows : Rows cut_fields (reading.braced fields) (by_rows.braces row_fields)
  unfolding reading.braced by_rows.braces
  braced-rows = record {
    same = λ found ts.
        after {p = λ u. fields >>= (λ x. expect kind.RightBrace >> pure x)}
        {q = λ u more. row_fields more >>= (λ x. expect kind.RightBrace >> pure x)}
        found (expect kind.LeftBrace ts) (λ u. record {
          same = λ more us.
              ap (λ o. and_then o (λ x. expect kind.RightBrace >> pure x)) (inside.same more us)
              ∙ before cut_fields more (fields us) (expect kind.RightBrace);
        });
  }

  -- a row before the rows of the fields in braces
  node-rows : {B : Type 0} (rows_of : B → Found) (g : WrittenFields → B) (old : WrittenRow) (row : ℕ → WrittenRow)
      → ((x : WrittenFields) → row (cut (length (cut_fields x))) ∷ cut_fields x ≡ rows_of (g x))
      → Rows rows_of (reading.braced fields >>= (λ x. pure (g x)))
      (λ found. by_rows.braces row_fields (found ++ (old ∷ []))
      >>= (λ l. pure (set l (length found) (row (below l (length found))))))
  node-rows rows_of g old row e = record {
    same = λ found ts.
        ap (λ o. and_then o (λ l. pure (set l (length found) (row (below l (length found))))))
        (braced-rows.same (found ++ (old ∷ [])) ts)
        ∙ placed cut_fields rows_of g old row found (reading.braced fields ts) e;
  }

  pub kid-rows : Rows cut_node (reading.node fields) (by_rows.kid row_fields)
  unfolding reading.node by_rows.kid
  kid-rows = record {
    same = λ found ts.
        after {p = λ class. reading.braced fields >>= (λ x. pure (written_node class x))} found (take_name ts)
        (λ class. node-rows cut_node (written_node class) (rows.Kid class 0) (rows.Kid class) (λ x. refl));
  }

  single-rows : (x : NameText) → Rows cut_fields (reading.node fields >>= (λ n. pure (one_single x n))) (by_rows.single row_fields x)
  unfolding reading.node by_rows.single
  single-rows x = record {
    same = λ found ts.
        after {p = λ class. reading.braced fields >>= (λ y. pure (one_single x (written_node class y)))} found (take_name ts)
        (λ class. node-rows cut_fields (λ y. one_single x (written_node class y)) (rows.Single x class 0)
        (rows.Single x class)
        (λ y. ap (λ l. rows.Single x class (cut (length (cut_fields y))) ∷ l) (sym (append-nil (cut_fields y)))))
        ∙ ap (pushed cut_fields found) (regroup (take_name ts) (reading.braced fields) written_node (one_single x));
  }

  list-rows : (x : NameText) → Rows cut_fields (reading.list fields x) (by_rows.list row_fields x)
  unfolding reading.list by_rows.list
  list-rows x = record {
    same = λ found ts.
        let row = rows.List x in
        let kids = rounds-rows cut_node cut_nodes add_node kid-rows cut_nodes-add no_nodes refl in
        ap (λ o. and_then o (λ l. expect kind.RightBracket >> pure (set l (length found) (row (below l (length found))))))
        (kids.same (found ++ (row 0 ∷ [])) ts)
        ∙ placed_past cut_nodes cut_fields (one_list x) (row 0) row found
        (chain_of add_node (reading.more (reading.node fields)) no_nodes ts) (expect kind.RightBracket)
        (λ y. ap (λ l. row (cut (length (cut_nodes y))) ∷ l) (sym (append-nil (cut_nodes y))));
  }

  -- by the kind of the next token
  value_by-rows : (x : NameText) (found : Found) (k : Option Kind) (ts : Tokens)
      → by_rows.value_by row_fields x found k ts ≡ pushed cut_fields found (reading.value_by fields x k ts)
  value_by-rows x found (Some kind.Number) ts =
      after {p = λ n. pure (one_number x (pos n))} {q = λ n more. pure (more ++ (rows.Number x (pos n) ∷ []))}
      found (take_number ts) (λ n. record { same = λ more us. refl })
  value_by-rows x found (Some kind.Minus) ts =
      after {p = λ n. pure (one_number x (neg_ℤ (pos n)))}
      {q = λ n more. pure (more ++ (rows.Number x (neg_ℤ (pos n)) ∷ []))}
      found (take_number (rest_of ts)) (λ n. record { same = λ more us. refl })
  value_by-rows x found (Some kind.LeftBracket) ts = (list-rows x).same found (rest_of ts)
  value_by-rows x found _ ts = (single-rows x).same found ts

  value-rows : (x : NameText) → Rows cut_fields (reading.value fields x) (by_rows.value row_fields x)
  unfolding reading.value by_rows.value
  value-rows x = record { same = λ found ts. value_by-rows x found (next_kind ts) ts }

  pub field-rows : Rows cut_fields (reading.field fields) (by_rows.field row_fields)
  unfolding reading.field by_rows.field
  field-rows = record {
    same = λ found ts.
        after {p = λ x. expect kind.Equals >> reading.value fields x}
        {q = λ x more. expect kind.Equals >> by_rows.value row_fields x more}
        found (take_name ts)
        (λ x. record {
          same = λ more us.
              after {p = λ u. reading.value fields x} {q = λ u. by_rows.value row_fields x} more (expect kind.Equals us)
              (λ u. value-rows x);
        });
  }

-- at each depth
pub fields-rows : (depth : ℕ) → Rows cut_fields (reading.fields_to depth) (by_rows.fields_to depth)
unfolding reading.fields_to by_rows.fields_to reading.fields_level
fields-rows zero = record { same = λ found ts. refl }
fields-rows (suc depth) =
    let all = rounds-rows cut_fields cut_fields append_fields (field-rows (fields-rows depth)) cut_fields-append no_fields refl in
    record { same = all.same }

-- ---- whole documents

-- a document's class and rows
abbrev pub cut_document : WrittenNode → DocumentRows
cut_document node = document_rows node.class (cut_fields node.fields)

-- what is read as rows is what is read, as rows
pub document-rows : (ts : Tokens)
    → by_rows.document ts ≡ and_then (reading.document ts) (λ node. pure (cut_document node))
unfolding reading.document reading.document_to reading.node by_rows.document
document-rows ts = by (take_name ts)
  where
    fields : Reader WrittenFields
    fields = reading.fields_to 512

    row_fields : RowReader
    row_fields = by_rows.fields_to 512

    -- at the end
    ended : (class : NameText) (x : WrittenFields) (o : ReadResult (Unit {0}))
        → and_then o (λ u. pure (document_rows class (cut_fields x)))
        ≡ and_then (and_then o (λ u. pure (written_node class x))) (λ node. pure (cut_document node))
    ended class x (Ok u) = refl
    ended class x (Err rest) = refl

    -- past the fields
    inside : (class : NameText) (o : ReadResult WrittenFields)
        → and_then (pushed cut_fields [] o) (λ l. at_end >> pure (document_rows class l))
        ≡ and_then
        (and_then (and_then o (λ x. pure (written_node class x))) (λ node. at_end >> pure node))
        (λ node. pure (cut_document node))
    inside class (Ok x) = ended class x.0 (at_end x.1)
    inside class (Err rest) = refl

    -- past the class
    by : (o : ReadResult NameText)
        → and_then o (λ class. by_rows.braces row_fields [] >>= (λ l. at_end >> pure (document_rows class l)))
        ≡ and_then
        (and_then (and_then o (λ class. reading.braced fields >>= (λ x. pure (written_node class x))))
        (λ node. at_end >> pure node))
        (λ node. pure (cut_document node))
    by (Ok class) =
        ap (λ o. and_then o (λ l. at_end >> pure (document_rows class.0 l)))
        ((braced-rows (fields-rows 512)).same [] class.1)
        ∙ inside class.0 (reading.braced fields class.1)
    by (Err rest) = refl
