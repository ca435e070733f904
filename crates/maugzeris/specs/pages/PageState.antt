-- A page as its calls see it.
use Rattle.std.specs.Prelude.{◌≡◌, ℕ, ℤ, List, [], Contains, Option, None, unwrap_or, IsSomeAnd}
use Rattle.ftl_deps.specs.reads.Meant.{meant}
use Rattle.ftl_edits.specs.declared.meaning.types.Edit.{Edit}
use Rattle.ftl_meaning.specs.faults.Checked.{CheckedGrammar}
use Rattle.ftl_model.specs.layout.AttributeGrammar.{attributes_of}
use Rattle.ftl_model.specs.layout.Path.{class_at, node_at}
use Rattle.ftl_model.specs.layout.Solves.{instance_of}
use Rattle.ftl_model.specs.layout.Table.{SolvesList, value_in}
use Rattle.ftl_model.specs.layout.Tree.{Forest}
use Rattle.ftl_model.specs.layout.Values.{Value}
use Rattle.ftl_nest_check.specs.check.NestAccepted.{AcceptedNestingSchedule}
use Rattle.ftl_nest_check.specs.declared.stages.types.NestingSchedule.{NestingSchedule}
use Rattle.ftl_relayout.specs.relaid.Relaid.{IsRelaid, edited_tree}
use Rattle.ftl_tree.specs.trees.CheckedTree.{CheckedTree}

-- The grammar with its schedule, a tree, edits of its inputs that are not laid out yet, and the values of the tree,
-- where it was laid out.
pub record PageState : Type 0 where
  pub checked : CheckedGrammar
  pub schedule : NestingSchedule
  pub tree : Forest
  pub edits : List Edit
  pub values : Option (List Value)

-- a page that was read: no edits, and not laid out
abbrev pub page_read : AcceptedNestingSchedule → Forest → PageState
page_read r t = record { checked = r.checked; schedule = r.schedule; tree = t; edits = []; values = None }

-- its tree with the grammar
abbrev pub tree_on : PageState → CheckedTree
tree_on p = record { checked = p.checked; tree = p.tree }

-- ---- nodes

-- the class of a node
abbrev pub class_on : PageState → (node : ℕ) → ℕ
class_on p n = class_at p.tree (node_at p.tree n)

-- the node has the attribute
abbrev pub HasAttribute : PageState → (node attribute : ℕ) → Type 0
HasAttribute p n a = Contains (attributes_of (meant p.checked) (class_on p n)) a

-- ---- values

-- the values; none where it was not laid out
abbrev pub values_on : PageState → List Value
values_on p = unwrap_or p.values []

-- the value of an attribute of a node
abbrev pub value_on : PageState → (node attribute : ℕ) → Value
value_on p n a = value_in (meant p.checked) p.tree (values_on p) (instance_of (node_at p.tree n) a)

-- it was laid out: its values solve its tree
abbrev pub IsLaidOut : PageState → Type 0
IsLaidOut p = IsSomeAnd p.values (SolvesList (meant p.checked) p.tree)

-- ---- what calls change

-- an edit of an input of a node
abbrev pub edit : (node attribute : ℕ) → ℤ → Edit
edit node attribute value = record { node = node; attr = attribute; value = value }

-- all but the values stays
abbrev pub StaysButValues : (old new : PageState) → Type 0
StaysButValues old new = new ≡ record old { values = new.values }

-- The tree has the edits, of which none is left; its values solve it, and these are the numbers of the touched
-- instances. The rules stay.
pub record IsLaidOutAnew (old new : PageState) (touched : List ℕ) : Type 0 where
  pub checked : new.checked ≡ old.checked
  pub schedule : new.schedule ≡ old.schedule
  pub tree : new.tree ≡ edited_tree old.checked old.tree old.edits
  pub edits : new.edits ≡ []
  pub laid_out : IsLaidOut new
  pub relaid : IsRelaid old.checked new.tree (values_on old) (values_on new) touched
