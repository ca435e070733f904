-- What one pass over a text takes: a node whose fields stand in the order of its class, each with what the class
-- declares, and what this adds to the rows and the inputs of the nodes before it.
use Rattle.std.specs.Prelude.{◌≡◌, ℕ, suc, ◌+◌, ◌<◌, ◌≤◌, true, false, List, [], ◌∷◌, ◌++◌, length, drop, ℤ}
use Rattle.std.specs.List.{prefix_len}
use Rattle.ftl_model.specs.layout.Limits.{most_instances, most_nodes}
use Rattle.ftl_model.specs.layout.TreeOf.{IsInput}
use Rattle.ftl_tokens.specs.declared.scanner.kind.Kind.TheVariants as kind
use Rattle.ftl_tokens.specs.declared.scanner.run.Run.TheVariants.{Word}
use Rattle.ftl_tokens.specs.scanner.Kinds.{kind_of_word}
use Rattle.ftl_tokens.specs.scanner.Run.{byte_goes_on, byte_begins_word}
use Rattle.ftl_tokens.specs.scanner.Tokenized.{name, fixed}
use Rattle.ftl_tokens.specs.reading.Reader.{Tokens}
use Rattle.ftl_grammar.specs.declared.syntax.rules.Child.{Child}
use Rattle.ftl_grammar.specs.declared.syntax.rules.Grammar.{Grammar}
use Rattle.ftl_meaning.specs.faults.Numbering.{children_of, class_at, class_attributes, interface_number, interface_of}
use Rattle.ftl_tree.specs.declared.rows.row.NodeRow.{NodeRow}
use Rattle.ftl_document.specs.faults.FirstFault.{input_names}
use Rattle.ftl_document.specs.nodes.NodeRows.{node_row}
use Rattle.ftl_document.specs.plain.Found.{Starts}
use Rattle.ftl_document.specs.plain.Plain.{is_name_kind}
use Rattle.ftl_document.specs.syntax.Spelling.{SpellsNumber}
use Rattle.ftl_document.specs.syntax.Written.{NameText}

-- a name as plain bytes have it
pub record IsPlainName (bytes : List ℕ) : Type 0 where
  pub begins : Starts byte_begins_word bytes
  pub goes_on : prefix_len (byte_goes_on Word) (drop 1 bytes) + 1 ≡ length bytes
  pub free : is_name_kind (kind_of_word bytes) ≡ true

-- the tokens that are left, and of the nodes that began before them the rows in the tree, the inputs, and how many
-- attributes they have
pub record State : Type 0 where
  pub tokens : Tokens
  pub rows : List NodeRow
  pub inputs : List ℤ
  pub count : ℕ

-- all tokens are taken, and no limit is passed
pub record IsDone (s : State) : Type 0 where
  pub ends : s.tokens ≡ []
  pub few_nodes : length s.rows ≤ most_nodes
  pub few_instances : s.count ≤ most_instances

-- the same with these tokens in front
abbrev pub before : Tokens → State → State
before front s = record { tokens = front ++ s.tokens; rows = s.rows; inputs = s.inputs; count = s.count }

-- with one more node, which is this kid of this child of the node `parent`
abbrev pub entered : Grammar → (class parent child kid : ℕ) → State → State
entered g k n c i s =
    record {
      tokens = s.tokens;
      rows = s.rows ++ node_row k n c i ∷ [];
      inputs = s.inputs;
      count = s.count + length (class_attributes g k);
    }

-- with one more input
abbrev pub with_input : ℤ → State → State
with_input x s = record { tokens = s.tokens; rows = s.rows; inputs = s.inputs ++ x ∷ []; count = s.count }

-- from one state to the other the inputs of these names are taken
pub data AreInputs (greatest : ℕ) : List NameText → State → State → Type 0 where
  no_inputs : {s : State} → AreInputs greatest [] s s
  input_more : {x : NameText} {names : List NameText} {front : Tokens} {n : ℤ} {s t u : State} → SpellsNumber front n
      → IsInput greatest n → s ≡ before (name x ∷ fixed kind.Equals ∷ front) t
      → AreInputs greatest names (with_input n t) u → AreInputs greatest (x ∷ names) s u

mutual
  -- a node in which fewer braces than the depth stand in one another, of the interface `wanted`, at this place
  pub data IsNode (g : Grammar) (greatest : ℕ) : (depth wanted parent child kid : ℕ) → State → State → Type 0 where
    node_is : {depth wanted n c i k : ℕ} {s t u v : State} → k < length g.classes → interface_of g k ≡ wanted
        → s ≡ before (name (class_at g k).name ∷ fixed kind.LeftBrace ∷ []) t
        → AreInputs greatest (input_names g k) (entered g k n c i t) u
        → AreChildren g greatest depth (length t.rows) (children_of g k) u (before (fixed kind.RightBrace ∷ []) v)
        → IsNode g greatest (suc depth) wanted n c i s v

  -- what stands in these children of the node `parent`
  pub data AreChildren (g : Grammar) (greatest : ℕ) : (depth parent : ℕ) → List (ℕ × Child) → State → State → Type 0 where
    no_children : {depth n : ℕ} {s : State} → AreChildren g greatest depth n [] s s
    single_more : {depth n c : ℕ} {child : Child} {children : List (ℕ × Child)} {s t u v : State} → child.many ≡ false
        → s ≡ before (name child.name ∷ fixed kind.Equals ∷ []) t
        → IsNode g greatest depth (interface_number g child.interface) n c 0 t u
        → AreChildren g greatest depth n children u v → AreChildren g greatest depth n ((c, child) ∷ children) s v
    list_more : {depth n c : ℕ} {child : Child} {children : List (ℕ × Child)} {s t u v : State} → child.many ≡ true
        → s ≡ before (name child.name ∷ fixed kind.Equals ∷ fixed kind.LeftBracket ∷ []) t
        → AreKids g greatest depth (interface_number g child.interface) n c 0 t (before (fixed kind.RightBracket ∷ []) u)
        → AreChildren g greatest depth n children u v → AreChildren g greatest depth n ((c, child) ∷ children) s v

  -- nodes beside each other, the first of which is this kid
  pub data AreKids (g : Grammar) (greatest : ℕ) : (depth wanted parent child kid : ℕ) → State → State → Type 0 where
    no_kids : {depth wanted n c i : ℕ} {s : State} → AreKids g greatest depth wanted n c i s s
    kid_more : {depth wanted n c i : ℕ} {s t u : State} → IsNode g greatest depth wanted n c i s t
        → AreKids g greatest depth wanted n c (suc i) t u → AreKids g greatest depth wanted n c i s u
