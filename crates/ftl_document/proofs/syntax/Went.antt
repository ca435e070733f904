-- What spells a document is read whole: `x_went` by the reader `x`.
use Rattle.std.proofs.Common.{◌≡◌, ℕ, zero, suc, pos, neg_ℤ, ◌<◌, [], ◌∷◌, ◌++◌, length, Option, Some, None, refl, sym}
use Rattle.std.proofs.Common.{ap, subst, append_assoc, append-nil, arith}
use Rattle.ftl_tokens.specs.declared.scanner.kind.Kind.{Kind}
use Rattle.ftl_tokens.specs.declared.scanner.kind.Kind.TheVariants as kind
use Rattle.ftl_tokens.specs.scanner.Tokenized.{name, number, fixed}
use Rattle.ftl_tokens.specs.reading.Reader.{Tokens, Reader, ◌>>=◌, ◌>>◌, pure, next_kind, expect, at_end}
use Rattle.ftl_tokens.proofs.reading.Went.{got, Went, Complete, went_bind, went_map, went_pure, went_past, went_skip, went_name}
use Rattle.ftl_tokens.proofs.reading.Went.{went_number, went_by, went_at, went_grouped}
use Rattle.ftl_tokens.proofs.reading.ChainWent.{CompleteItem, chain_went}
use Rattle.ftl_document.specs.syntax.Written.{NameText, WrittenFields, WrittenNode, WrittenNodes, no_fields, no_nodes}
use Rattle.ftl_document.specs.syntax.Written.{written_node}
use Rattle.ftl_document.specs.syntax.Spelling.{SpellsNumber, SpellsFields, SpellsNodes, SpellsNode, plain, negative}
use Rattle.ftl_document.specs.syntax.Spelling.{node_of}
use Rattle.ftl_document.proofs.syntax.Reading as reading
use Rattle.ftl_document.proofs.syntax.Reading.{append_fields, add_node, one_number, one_single, one_list, more_by, braced}
use Rattle.ftl_document.proofs.syntax.Reading.{node, list, value_by, value, field, fields_level, fields_to, document_to}
use Rattle.ftl_document.proofs.syntax.Parts.{SpellsBraced, braced_of, SpellsOne, number_alone, single_alone, list_alone}
use Rattle.ftl_document.proofs.syntax.Parts.{fields_chain, nodes_chain}
use Rattle.ftl_document.proofs.syntax.Heights.{height, past_plain, past_open, past_close, past_name, past_number}

-- whether the token goes on with one more
abbrev pub part : Option Kind → ℕ
part (Some kind.Name) = 1
part _ = 0

-- the tokens go on with no name
abbrev pub Ends : Tokens → Type 0
Ends rest = part (next_kind rest) < 1

-- anything may follow
abbrev Anything : Tokens → Type 0
Anything rest = Unit {0}

more_other : {A : Type 0} (item : Reader A) (k : Option Kind) → part k < 1 → more_by item k ≡ pure None
more_other item (Some kind.Name) e = absurd (omega arith)
more_other item _ e = refl

more_stops : {A : Type 0} (item : Reader A) (rest : Tokens) → Ends rest → reading.more item rest ≡ got None rest
unfolding reading.more
more_stops item rest e = ap (λ p. p rest) (more_other item (next_kind rest) e)

pub some_node : {a : Tokens} {x : WrittenNode} → SpellsNode a x → 0 < length a
some_node (node_of s) = omega arith

pub some_field : {a : Tokens} {x : WrittenFields} → SpellsOne a x → 0 < length a
some_field (number_alone s) = omega arith
some_field (single_alone s) = omega arith
some_field (list_alone s) = omega arith

module _ {fields : Reader WrittenFields} {n : ℕ} (fields_went : Complete height n n Ends SpellsFields fields) where
  braced_went : {a : Tokens} {x : WrittenFields} → SpellsBraced a x → (rest : Tokens) → height (a ++ rest) < suc n
      → Went height (braced fields) (a ++ rest) x rest (suc n)
  unfolding braced next_kind
  braced_went (braced_of {a = a} {fields = x} s) rest small =
      went_past kind.LeftBrace
      (went_grouped (a ++ (fixed kind.RightBrace ∷ rest)) (append_assoc a (fixed kind.RightBrace ∷ []) rest)
      (past_open ((a ++ (fixed kind.RightBrace ∷ [])) ++ rest) small)
      (λ small. went_bind (λ y. expect kind.RightBrace >> pure y)
      (fields_went.went s (fixed kind.RightBrace ∷ rest) (omega arith) small)
      (λ small. went_past kind.RightBrace (went_pure (past_close rest small)))))

  pub node_went : {a : Tokens} {x : WrittenNode} → SpellsNode a x → (rest : Tokens) → height (a ++ rest) < suc n
      → Went height (node fields) (a ++ rest) x rest (suc n)
  unfolding node
  node_went (node_of {class = class} s) rest small =
      went_name (λ l. braced fields >>= (λ y. pure (written_node l y)))
      (went_map (written_node class) (braced_went (braced_of s) rest (past_name class _ small)))

  more_node_went : {a : Tokens} {x : WrittenNode} → SpellsNode a x → (rest : Tokens) → height (a ++ rest) < suc n
      → Went height (reading.more (node fields)) (a ++ rest) (Some x) rest (suc n)
  unfolding reading.more next_kind
  more_node_went (node_of s) rest small =
      went_by (more_by (node fields)) refl (went_map Some (node_went (node_of s) rest small))

  nodes_went : CompleteItem height (suc n) Ends Anything SpellsNode (reading.more (node fields))
  nodes_went = record {
    found = λ s rest follows small. more_node_went s rest small;
    stops = more_stops (node fields);
    begins = λ s rest. tt;
    ends = λ rest e. tt;
    some = some_node;
  }

  list_went : (x : NameText) {a : Tokens} {nodes : WrittenNodes} → SpellsNodes a nodes → (rest : Tokens)
      → height ((a ++ (fixed kind.RightBracket ∷ [])) ++ rest) < suc n
      → Went height (list fields x) ((a ++ (fixed kind.RightBracket ∷ [])) ++ rest) (one_list x nodes) rest (suc n)
  unfolding list next_kind
  list_went x {a} {nodes} s rest small =
      went_grouped (a ++ (fixed kind.RightBracket ∷ rest)) (append_assoc a (fixed kind.RightBracket ∷ []) rest) small
      (λ small. went_bind (λ y. expect kind.RightBracket >> pure (one_list x y))
      (chain_went nodes_went (nodes_chain no_nodes s) (fixed kind.RightBracket ∷ rest) (omega arith) small)
      (λ small. went_past kind.RightBracket (went_pure (past_plain kind.RightBracket refl rest small))))

  -- what stands after a field's `=`
  number_went : (x : NameText) {a : Tokens} {y : _} → SpellsNumber a y → (rest : Tokens) → height (a ++ rest) < suc n
      → Went height (value fields x) (a ++ rest) (one_number x y) rest (suc n)
  unfolding value next_kind
  number_went x (plain {n = m}) rest small =
      went_by (value_by fields x) refl
      (went_number (λ l. pure (one_number x (pos l))) (went_pure (past_number m rest small)))
  number_went x (negative {n = m}) rest small =
      went_by (value_by fields x) refl
      (went_skip
      (went_number (λ l. pure (one_number x (neg_ℤ (pos l))))
      (went_pure (past_number m rest (past_plain kind.Minus refl (number m ∷ rest) small)))))

  single_went : (x : NameText) {a : Tokens} {y : WrittenNode} → SpellsNode a y → (rest : Tokens)
      → height (a ++ rest) < suc n → Went height (value fields x) (a ++ rest) (one_single x y) rest (suc n)
  unfolding value next_kind
  single_went x (node_of s) rest small =
      went_by (value_by fields x) refl (went_map (one_single x) (node_went (node_of s) rest small))

  bracket_went : (x : NameText) {a : Tokens} {nodes : WrittenNodes} → SpellsNodes a nodes → (rest : Tokens)
      → height (fixed kind.LeftBracket ∷ ((a ++ (fixed kind.RightBracket ∷ [])) ++ rest)) < suc n
      → Went height (value fields x) (fixed kind.LeftBracket ∷ ((a ++ (fixed kind.RightBracket ∷ [])) ++ rest))
      (one_list x nodes) rest (suc n)
  unfolding value next_kind
  bracket_went x s rest small =
      went_by (value_by fields x) refl
      (went_skip (list_went x s rest (past_plain kind.LeftBracket refl _ small)))

  -- past a name and `=`
  named_went : {x : NameText} {ts rest : Tokens} {y : WrittenFields} → height (name x ∷ fixed kind.Equals ∷ ts) < suc n
      → (height ts < suc n → Went height (value fields x) ts y rest (suc n))
      → Went height (field fields) (name x ∷ fixed kind.Equals ∷ ts) y rest (suc n)
  unfolding field
  named_went {x} {ts} small went =
      went_name (λ l. expect kind.Equals >> value fields l)
      (went_past kind.Equals (went (past_plain kind.Equals refl ts (past_name x (fixed kind.Equals ∷ ts) small))))

  pub field_went : {a : Tokens} {x : WrittenFields} → SpellsOne a x → (rest : Tokens) → height (a ++ rest) < suc n
      → Went height (field fields) (a ++ rest) x rest (suc n)
  field_went (number_alone {x = x} s) rest small = named_went small (number_went x s rest)
  field_went (single_alone {x = x} s) rest small = named_went small (single_went x s rest)
  field_went (list_alone {x = x} s) rest small = named_went small (bracket_went x s rest)

  more_field_went : {a : Tokens} {x : WrittenFields} → SpellsOne a x → (rest : Tokens) → height (a ++ rest) < suc n
      → Went height (reading.more (field fields)) (a ++ rest) (Some x) rest (suc n)
  unfolding reading.more next_kind
  more_field_went (number_alone s) rest small =
      went_by (more_by (field fields)) refl (went_map Some (field_went (number_alone s) rest small))
  more_field_went (single_alone s) rest small =
      went_by (more_by (field fields)) refl (went_map Some (field_went (single_alone s) rest small))
  more_field_went (list_alone s) rest small =
      went_by (more_by (field fields)) refl (went_map Some (field_went (list_alone s) rest small))

  fields_item : CompleteItem height (suc n) Ends Anything SpellsOne (reading.more (field fields))
  fields_item = record {
    found = λ s rest follows small. more_field_went s rest small;
    stops = more_stops (field fields);
    begins = λ s rest. tt;
    ends = λ rest e. tt;
    some = some_field;
  }

  fields_level_went : {a : Tokens} {x : WrittenFields} → SpellsFields a x → (rest : Tokens) → Ends rest
      → height (a ++ rest) < suc n → Went height (fields_level fields) (a ++ rest) x rest (suc n)
  unfolding fields_level
  fields_level_went s rest e small = chain_went fields_item (fields_chain no_fields s) rest e small

-- at each depth
pub fields_went : (depth : ℕ) → Complete height depth depth Ends SpellsFields (fields_to depth)
unfolding fields_to
fields_went zero = record { went = λ s rest e small. absurd (omega arith) }
fields_went (suc depth) = record { went = fields_level_went (fields_went depth) }

-- a document is read to its end
pub document_went : {a : Tokens} {x : WrittenNode} → SpellsNode a x → (depth : ℕ) → height a < suc depth
    → document_to depth a ≡ got x []
unfolding document_to at_end
document_went {a} {x} s depth small =
    (went_at (sym (append-nil a))
    (went_bind (λ y. at_end >> pure y)
    (node_went (fields_went depth) s [] (subst (λ l. height l < suc depth) (sym (append-nil a)) small))
    (λ few. record { reads = refl; small = few }))).reads
