-- What is left of a document's canonical text, by where a writer stands in the tree.
use Rattle.std.specs.Prelude.{◌≡◌, ℕ, suc, ◌<◌, Bool, true, if◌then◌else◌, ℤ, pos, List, [], ◌∷◌, ◌++◌, flat_map, codes}
use Rattle.std.specs.Prelude.{drop, length, slice_index_or, Option, Some, None, IfSome}
use Rattle.ftl_deps.specs.reads.Meant.{meant}
use Rattle.ftl_document.specs.faults.WrittenOf.{WrittenKid, child_fields, kids_in, nodes_from, written_kids}
use Rattle.ftl_document_printing.specs.text.DocumentText.{closed_by, field_opened, fields_written, mark_written, node_opened}
use Rattle.ftl_document_printing.specs.text.DocumentText.{nodes_written, number_written}
use Rattle.ftl_meaning.specs.faults.Numbering.{child_at, class_at, numbered}
use Rattle.ftl_model.specs.lists.Lists.{place_in}
use Rattle.ftl_meaning.specs.grammars.GrammarOf.{declaration_at}
use Rattle.ftl_model.specs.layout.AttributeGrammar.{attributes_of, class_inputs, is_input}
use Rattle.ftl_model.specs.layout.Path as paths
use Rattle.ftl_model.specs.layout.Path.{Path, at, down, inputs_at, node_at, number_of, top}
use Rattle.ftl_model.specs.layout.Tree.{below_of, from_kid, size}
use Rattle.ftl_visit.specs.rule_tables.RuleTables.{by_number}
use Rattle.ftl_tokens.specs.scanner.Tokenized.{fixed}
use Rattle.ftl_tokens.specs.declared.scanner.kind.Kind.TheVariants as kind
use Rattle.ftl_tree.specs.trees.CheckedTree.{CheckedTree}
use Rattle.ftl_tree.specs.rows.KidRuns.{IsChildOf}
use Rattle.ftl_tokens.specs.writing.Written.{Written, text_of, written}
use Rattle.ftl_document_printing.specs.declared.trees.writer_place.WriterPlace.{WriterPlace}
use Rattle.ftl_document_printing.specs.declared.trees.writer_place.WriterPlace.TheVariants as places

-- the class of a node
abbrev pub class_in : CheckedTree → Path → ℕ
class_in t p = paths.class_at t.tree p

-- its number for an input
abbrev pub number_in : CheckedTree → Path → (attribute : ℕ) → ℤ
number_in t p a =
    slice_index_or (inputs_at t.tree p) (place_in (class_inputs (meant t.checked) (class_in t p)) a) (pos 0)

-- the field of an input
abbrev pub input_written : CheckedTree → Path → (attribute : ℕ) → List Written
input_written t p a = field_opened (declaration_at t.checked.grammar a).name ++ number_written (number_in t p a)

-- of an attribute that is an input; other attributes have none
abbrev pub attribute_written : CheckedTree → Path → (attribute : ℕ) → List Written
attribute_written t p a = if is_input ((meant t.checked).sort a) then input_written t p a else []

-- the fields of all inputs
abbrev pub inputs_written : CheckedTree → Path → List Written
inputs_written t p = flat_map (attribute_written t p) (attributes_of (meant t.checked) (class_in t p))

-- whether a child of a node is a list
abbrev pub is_many : CheckedTree → Path → (child : ℕ) → Bool
is_many t p c = (child_at t.checked.grammar (class_in t p) c).many

-- the kids from this one on, as they are written
abbrev pub kids_from : CheckedTree → Path → (child kid : ℕ) → List WrittenKid
kids_from t p c k = kids_in c (written_kids t.checked.grammar (from_kid c k (below_of (at t.tree p))))

-- the fields of a node from this child on
abbrev pub fields_from_child : CheckedTree → Path → (child : ℕ) → List Written
fields_from_child t p c =
    fields_written (child_fields (numbered c (drop c (class_at t.checked.grammar (class_in t p)).children))
    (written_kids t.checked.grammar (below_of (at t.tree p))))

-- what follows the fields of a node: its end, and what is left of the node above
abbrev pub after : CheckedTree → Path → List Written
after t top = written (fixed kind.RightBrace) (codes "\n") ∷ []
after t (down c k p) =
    mark_written kind.RightBrace ∷ (if is_many t p c
    then nodes_written (nodes_from (kids_from t p c (suc k)))
    ++ closed_by kind.RightBracket (fields_from_child t p (suc c) ++ after t p)
    else fields_from_child t p (suc c) ++ after t p)

-- from the field of a child on
abbrev pub from_child : CheckedTree → Path → (child : ℕ) → List Written
from_child t p c = fields_from_child t p c ++ after t p

-- from a node in a list on
abbrev pub from_kid_on : CheckedTree → Path → (child kid : ℕ) → List Written
from_kid_on t p c k =
    nodes_written (nodes_from (kids_from t p c k)) ++ closed_by kind.RightBracket (from_child t p (suc c))

-- what follows a node that is a kid
abbrev pub behind : CheckedTree → Path → (child kid : ℕ) → List Written
behind t p c k = if is_many t p c then from_kid_on t p c (suc k) else from_child t p (suc c)

-- from the class of a node on
abbrev pub entered : CheckedTree → Path → List Written
entered t p =
    node_opened (class_at t.checked.grammar (class_in t p)).name ++ (inputs_written t p ++ from_child t p 0)

-- the node in which the writer stands
abbrev pub node_of : CheckedTree → (node : ℕ) → Path
node_of t n = node_at t.tree n

-- from where the writer stands on
abbrev pub left_from : CheckedTree → WriterPlace → List Written
left_from t (places.Field n c) = from_child t (node_of t n) c
left_from t (places.Kid n c k) = from_kid_on t (node_of t n) c k

abbrev pub left : CheckedTree → Option WriterPlace → List Written
left t None = []
left t (Some s) = left_from t s

-- the writer stands at a node, and at a list where it stands in one
abbrev pub IsWriterPlace : CheckedTree → WriterPlace → Type 0
IsWriterPlace t (places.Field n c) = n < size t.tree
IsWriterPlace t (places.Kid n c k) =
    IsChildOf (meant t.checked) t.tree n c × (is_many t (node_of t n) c ≡ true)

-- tokens were written, at least one, and this is left behind them, at a place in the tree
pub record Goes (t : CheckedTree) (out new : List ℕ) (before : List Written) (next : Option WriterPlace) : Type 0 where
  pub tokens : List Written
  pub some : 0 < length tokens
  pub text : new ≡ out ++ text_of tokens
  pub rest : before ≡ tokens ++ left t next
  pub writer_place : IfSome next (IsWriterPlace t)

-- the attributes of each class, by number
abbrev pub IsAttributeTable : CheckedTree → List (List ℕ) → Type 0
IsAttributeTable t attrs = attrs ≡ by_number (attributes_of (meant t.checked)) (meant t.checked).class_count

-- a node has this parent
pub record HasParent (t : CheckedTree) (node parent : ℕ) : Type 0 where
  pub child : ℕ
  pub kid : ℕ
  pub above : Path
  pub is : node_of t node ≡ down child kid above
  pub number : parent ≡ number_of t.tree above

-- this follows a node that is a kid
abbrev pub IsBehind : CheckedTree → Path → List Written → Type 0
IsBehind t top rest = Unit {0}
IsBehind t (down c k p) rest = behind t p c k ≡ rest
