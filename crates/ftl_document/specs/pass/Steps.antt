-- What the steps of a pass take, and what is known of the grammar.
use Rattle.std.specs.Prelude.{◌≡◌, ℕ, ◌≤◌, ◌<◌, List, [], ◌∷◌, length, get_or, ℤ, None}
use Rattle.ftl_model.specs.layout.TreeOf.{IsInput}
use Rattle.ftl_tokens.specs.scanner.Tokenized.{name}
use Rattle.ftl_tokens.specs.reading.Reader.{Tokens}
use Rattle.ftl_grammar.specs.declared.syntax.rules.Grammar.{Grammar}
use Rattle.ftl_meaning.specs.faults.FirstFault.{first_fault}
use Rattle.ftl_meaning.specs.faults.Numbering.{class_at, interface_number, interface_of}
use Rattle.ftl_document.specs.faults.FirstFault.{needed_names}
use Rattle.ftl_document.specs.nodes.Tables.{AreTables}
use Rattle.ftl_document.specs.syntax.Braces.{deepest}
use Rattle.ftl_document.specs.syntax.Spelling.{SpellsNumber}
use Rattle.ftl_document.specs.declared.pass.nodes.ClassAt.{ClassAt}
use Rattle.ftl_document.specs.declared.pass.nodes.Pass.{Pass}
use Rattle.ftl_document.specs.pass.Good.{IsDone, IsNode, IsPlainName, State, before, with_input}
use Rattle.ftl_document.specs.pass.Parts.{Begins}

-- the names of a class and of its fields are such as texts can have
pub record HasPlainNames (g : Grammar) (k : ℕ) : Type 0 where
  pub class : IsPlainName (class_at g k).name
  pub fields : (i : ℕ) → i < length (needed_names g k) → IsPlainName (get_or (needed_names g k) i [])

-- what is kept of the grammar is right, and its names are such as texts can have
pub record IsReady (p : Pass) : Type 0 where
  pub lawful : first_fault p.checked.now.grammar ≡ None
  pub tables : AreTables p.checked.now.grammar p.tables.now
  pub count : length p.tables.now ≡ length p.checked.now.grammar.classes
  pub names : (k : ℕ) → k < length p.checked.now.grammar.classes → HasPlainNames p.checked.now.grammar k
  pub small : p.greatest ≤ 140737488355327

-- the name of this class, one of this interface, stands here
pub record IsClassAt (p : Pass) (wanted : ℕ) (bytes : List ℕ) (found : ClassAt) : Type 0 where
  pub known : found.class < length p.checked.now.grammar.classes
  pub interface : interface_of p.checked.now.grammar found.class ≡ wanted
  pub begins : Begins bytes (name (class_at p.checked.now.grammar found.class).name ∷ []) found.rest.now

-- it was taken
pub record IsClassBefore (g : Grammar) (wanted k : ℕ) (s t : State) : Type 0 where
  pub known : k < length g.classes
  pub interface : interface_of g k ≡ wanted
  pub taken : s ≡ before (name (class_at g k).name ∷ []) t

-- the number of an input was
pub record IsInputTaken (greatest : ℕ) (s t : State) : Type 0 where
  pub front : Tokens
  pub n : ℤ
  pub behind : State
  pub spells : SpellsNumber front n
  pub input : IsInput greatest n
  pub taken : s ≡ before front behind
  pub is : t ≡ with_input n behind

-- a whole document was, within the limits
pub record IsGoodDocument (g : Grammar) (greatest : ℕ) (s t : State) : Type 0 where
  pub node : IsNode g greatest deepest (interface_number g g.root) 0 0 0 s t
  pub done : IsDone t
