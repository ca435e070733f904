-- What is left of a document while its nodes are looked at, one after another.
use Rattle.std.specs.Prelude.{◌≡◌, ◌≢◌, ℕ, suc, ◌+◌, ◌*◌, ◌<◌, ◌≤◌, List, [], ◌∷◌, ◌++◌, length, map, drop}
use Rattle.std.specs.Prelude.{Some, None, Result, Ok, Err, ℤ}
use Rattle.std.specs.List.{sum_by}
use Rattle.ftl_meaning.specs.faults.FirstFault as grammars
use Rattle.ftl_meaning.specs.faults.Numbering.{child_at, class_at, class_attributes, interface_number, numbered}
use Rattle.ftl_grammar.specs.declared.syntax.rules.Grammar.{Grammar}
use Rattle.ftl_model.specs.layout.Limits.{most_nodes}
use Rattle.ftl_document.specs.syntax.Rows.{rows_of_fields, rows_of_nodes}
use Rattle.ftl_document.specs.syntax.Sizes.{node_count, nodes_in_fields, nodes_in_list}
use Rattle.ftl_document.specs.syntax.Written.{NameText, WrittenFields, WrittenNode, WrittenNodes}
use Rattle.ftl_document.specs.declared.syntax.row.WrittenRow.{WrittenRow}
use Rattle.ftl_document.specs.faults.DocumentTree.{inputs_in}
use Rattle.ftl_document.specs.faults.FirstFault.{field_faults, first_node_fault, first_there, instance_count_of}
use Rattle.ftl_document.specs.faults.FirstFault.{node_fault}
use Rattle.ftl_document.specs.faults.Nodes.{FieldHead, StandingNode, class_number, field_heads, nodes_beside, nodes_in}
use Rattle.ftl_document.specs.faults.Nodes.{standing}
use Rattle.ftl_document.specs.declared.faults.fault.DocFault.{DocFault}
use Rattle.ftl_document.specs.declared.faults.fault.DocFault.TheVariants as fault
use Rattle.ftl_tree.specs.declared.rows.row.NodeRow.{NodeRow}
use Rattle.ftl_tree.specs.declared.rows.row.Place.{Place}
use Rattle.ftl_document.specs.nodes.NodeRows.{node_inputs_beside, node_inputs_in, node_inputs_of, node_row}
use Rattle.ftl_document.specs.nodes.NodeRows.{node_rows_beside, node_rows_in, node_rows_of}
use Rattle.ftl_document.specs.nodes.Tables.{AreTables}
use Rattle.ftl_document.specs.declared.nodes.stack.Region.{Region}
use Rattle.ftl_document.specs.declared.nodes.progress.NextNode.{NextNode}
use Rattle.ftl_document.specs.declared.nodes.progress.Progress.{Progress}
use Rattle.ftl_document.specs.declared.nodes.walk.Walk.{Walk}

-- what is left of a region: fields of the node of this number, behind others, or nodes of a list
pub data Left : Type 0 where
  fields_left : (region : Region) (node : ℕ) (earlier : List FieldHead) (rest : WrittenFields) → Left
  nodes_left : (region : Region) (rest : WrittenNodes) → Left

-- its region
abbrev pub region_of : Left → Region
region_of (fields_left r n earlier rest) = r
region_of (nodes_left r rest) = r

-- its rows
abbrev pub rows_left : Left → List WrittenRow
rows_left (fields_left r n earlier rest) = rows_of_fields rest
rows_left (nodes_left r rest) = rows_of_nodes rest

-- the interface that is wanted of the nodes in this child
abbrev pub wanted_of : Grammar → (class child : ℕ) → ℕ
wanted_of g k c = interface_number g (child_at g k c).interface

-- its nodes
abbrev pub nodes_left_in : Grammar → Left → List StandingNode
nodes_left_in g (fields_left r n earlier rest) = nodes_in g r.class rest
nodes_left_in g (nodes_left r rest) = nodes_beside g (wanted_of g r.class r.child) rest

-- all rows, and all nodes
abbrev pub all_rows : List Left → List WrittenRow
all_rows [] = []
all_rows (x ∷ xs) = rows_left x ++ all_rows xs

abbrev pub all_nodes : Grammar → List Left → List StandingNode
all_nodes g [] = []
all_nodes g (x ∷ xs) = nodes_left_in g x ++ all_nodes g xs

-- how many nodes there are
abbrev pub count_left : Left → ℕ
count_left (fields_left r n earlier rest) = nodes_in_fields rest
count_left (nodes_left r rest) = nodes_in_list rest

-- the rows of its nodes in the tree, where so many nodes come before
abbrev pub node_rows_left : Grammar → (before : ℕ) → Left → List NodeRow
node_rows_left g m (fields_left r n earlier rest) = node_rows_in g r.class r.node m rest
node_rows_left g m (nodes_left r rest) = node_rows_beside g r.node r.child r.kid m rest

-- the inputs of its nodes
abbrev pub node_inputs_left : Grammar → Left → List ℤ
node_inputs_left g (fields_left r n earlier rest) = node_inputs_in g rest
node_inputs_left g (nodes_left r rest) = node_inputs_beside g rest

-- all rows in the tree, and all inputs
abbrev pub all_node_rows : Grammar → (before : ℕ) → List Left → List NodeRow
all_node_rows g m [] = []
all_node_rows g m (x ∷ xs) = node_rows_left g m x ++ all_node_rows g (m + count_left x) xs

abbrev pub all_node_inputs : Grammar → List Left → List ℤ
all_node_inputs g [] = []
all_node_inputs g (x ∷ xs) = node_inputs_left g x ++ all_node_inputs g xs

-- in no region have more kids come than nodes
abbrev pub HaveFewKids : (before : ℕ) → List Left → Type 0
HaveFewKids m [] = Unit {0}
HaveFewKids m (x ∷ xs) = ((region_of x).kid ≤ m) × HaveFewKids m xs

-- the fields of a node have no fault, or the list is of a child of the class
abbrev pub IsRightLeft : Grammar → Left → Type 0
IsRightLeft g (fields_left r n earlier rest) = first_there (field_faults g n r.class earlier (field_heads rest)) ≡ None
IsRightLeft g (nodes_left r rest) = r.child < length (class_at g r.class).children

-- each region ends behind its rows, where the first begins here
abbrev pub AreRegions : Grammar → (at : ℕ) → List Left → Type 0
AreRegions g at [] = Unit {0}
AreRegions g at (x ∷ xs) =
    ((region_of x).class < length g.classes) × IsRightLeft g x × ((region_of x).end ≡ at + length (rows_left x))
    × AreRegions g (region_of x).end xs

-- how many attributes a node has
abbrev pub width_of : Grammar → StandingNode → ℕ
width_of g x = length (class_attributes g (class_number g x.class))

-- this is left of the document, and what came before had no fault
pub record IsWalked (g : Grammar) (node : WrittenNode) (rows : List WrittenRow) (p : Progress) : Type 0 where
  pub lefts : List Left
  pub stack : p.stack ≡ map region_of lefts
  pub regions : AreRegions g p.at lefts
  pub left : drop p.at rows ≡ all_rows lefts
  pub faults : first_node_fault g node ≡ first_there (map (node_fault g) (numbered p.number (all_nodes g lefts)))
  pub nodes : p.number + length (all_nodes g lefts) ≡ node_count node
  pub few : node_count node ≤ most_nodes
  pub count : p.count + sum_by (width_of g) (all_nodes g lefts) ≡ instance_count_of g node
  pub small : p.count ≤ 128 * p.number
  pub node_rows : p.rows.items ++ all_node_rows g p.number lefts ≡ node_rows_of g node
  pub inputs : p.inputs.items ++ all_node_inputs g lefts ≡ node_inputs_of g node
  pub kids : HaveFewKids p.number lefts

-- what is kept of the grammar is right
pub record IsReady (w : Walk) : Type 0 where
  pub lawful : grammars.first_fault w.checked.now.grammar ≡ None
  pub tables : AreTables w.checked.now.grammar w.tables.now
  pub count : length w.tables.now ≡ length w.checked.now.grammar.classes

-- some document is walked so far
pub record CanWalk (w : Walk) (p : Progress) : Type 0 where
  pub node : WrittenNode
  pub walked : IsWalked w.checked.now.grammar node w.rows.now p

-- a node of a class of this name is next, of which this interface is wanted, whose fields are the rows between, and
-- which stands at this place of its parent; the regions around it stand behind it
pub record IsNext (g : Grammar) (node : WrittenNode) (rows : List WrittenRow) (p : Progress) (name : NameText)
    (wanted from end parent : ℕ) (place : Place) : Type 0 where
  pub fields : WrittenFields
  pub outer : List Left
  pub stack : p.stack ≡ map region_of outer
  pub regions : AreRegions g end outer
  pub within : from ≤ length rows
  pub left : drop from rows ≡ rows_of_fields fields ++ all_rows outer
  pub ends : end ≡ from + length (rows_of_fields fields)
  pub faults : first_node_fault g node
      ≡ first_there (map (node_fault g) (numbered p.number (standing wanted name fields
      ∷ (nodes_in g (class_number g name) fields ++ all_nodes g outer))))
  pub nodes : p.number + suc (length (nodes_in g (class_number g name) fields ++ all_nodes g outer)) ≡ node_count node
  pub few : node_count node ≤ most_nodes
  pub count : p.count + (length (class_attributes g (class_number g name))
      + sum_by (width_of g) (nodes_in g (class_number g name) fields ++ all_nodes g outer)) ≡ instance_count_of g node
  pub small : p.count ≤ 128 * p.number
  pub node_rows : p.rows.items
      ++ (node_row (class_number g name) parent place.child place.kid
      ∷ (node_rows_in g (class_number g name) p.number (suc p.number) fields
      ++ all_node_rows g (suc p.number + nodes_in_fields fields) outer)) ≡ node_rows_of g node
  pub inputs : p.inputs.items
      ++ (inputs_in g (class_number g name) fields ++ (node_inputs_in g fields ++ all_node_inputs g outer))
      ≡ node_inputs_of g node
  pub kids : HaveFewKids (suc p.number) outer

-- some document has this node next
pub record CanEnter (w : Walk) (p : Progress) (next : NextNode) : Type 0 where
  pub node : WrittenNode
  pub is : IsNext w.checked.now.grammar node w.rows.now p next.class.now next.wanted next.from next.end next.parent
      next.place

-- this row is next
abbrev pub IsRow : Walk → Progress → WrittenRow → Type 0
IsRow w p row = drop p.at w.rows.now ≡ row ∷ drop (suc p.at) w.rows.now

-- this region is the innermost, and not at its end
pub record IsWithin (p : Progress) (r : Region) : Type 0 where
  pub outer : List Region
  pub stack : p.stack ≡ r ∷ outer
  pub more : p.at < r.end

-- the walk goes on, or this is the fault of the nodes, unless memory ran out
abbrev pub GoesOn : Grammar → WrittenNode → List WrittenRow → Result (Unit {0}) DocFault → Progress → Type 0
GoesOn g node rows (Ok done) p = IsWalked g node rows p
GoesOn g node rows (Err e) p = e ≢ fault.OutOfMemory → first_node_fault g node ≡ Some e

-- the nodes have no fault, and these are their rows in the tree, their inputs and the number of their attributes
pub record IsWhole (g : Grammar) (node : WrittenNode) (p : Progress) : Type 0 where
  pub none : first_node_fault g node ≡ None
  pub count : p.count ≡ instance_count_of g node
  pub node_rows : p.rows.items ≡ node_rows_of g node
  pub inputs : p.inputs.items ≡ node_inputs_of g node

-- all nodes are looked at, or this is their fault, unless memory ran out
abbrev pub Ends : Grammar → WrittenNode → Result (Unit {0}) DocFault → Progress → Type 0
Ends g node (Ok done) p = IsWhole g node p
Ends g node (Err e) p = e ≢ fault.OutOfMemory → first_node_fault g node ≡ Some e

-- the same of a walk from the first node on
abbrev pub Walks : Grammar → WrittenNode → Result Progress DocFault → Type 0
Walks g node (Ok p) = IsWhole g node p
Walks g node (Err e) = e ≢ fault.OutOfMemory → first_node_fault g node ≡ Some e
