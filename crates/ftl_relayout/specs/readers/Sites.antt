-- A tree and its schedule with the readers of each attribute, and keys that come into a set.
use Rattle.std.specs.Prelude.{◌≡◌, ◌⊎◌, ℕ, ◌<◌, ◌≤◌, List, Contains}
use Rattle.ftl_deps.specs.reads.Meant.{meant}
use Rattle.ftl_deps.specs.reads.Products.{name_of_info}
use Rattle.ftl_step_value.specs.limits.reads.ReadTables.{instance_in}
use Rattle.ftl_model.specs.layout.Table.{instance_number}
use Rattle.ftl_model.specs.layout.AttributeGrammar.{AttributeGrammar, Occurrence, RuleName}
use Rattle.ftl_model.specs.layout.Path.{node_at}
use Rattle.ftl_model.specs.layout.Tree.{size}
use Rattle.ftl_order.specs.orders.Lawful.{IsLawful}
use Rattle.ftl_order.specs.orders.Schedule.{Placing}
use Rattle.ftl_order.specs.steps.Steps.{target_of_rule}
use Rattle.ftl_tree.specs.trees.CheckedTree.{CheckedTree}
use Rattle.ftl_relayout.specs.declared.readers.add.ReaderSite.{ReaderSite}
use Rattle.ftl_relayout.specs.declared.readers.reader.Range.{Range}
use Rattle.ftl_relayout.specs.declared.readers.reader.Reader.{Reader}
use Rattle.ftl_relayout.specs.keys.Keys.{key_of}
use Rattle.ftl_relayout.specs.keys.KeyPlaces.{AreKeyPlaces}
use Rattle.ftl_relayout.specs.keys.KeysHere.{IsAttributeOf, placing}
use Rattle.ftl_relayout.specs.laws.TreeNets.{HasSmallKeys, instance_at, net_of}
use Rattle.ftl_relayout.specs.queue.Nets.{Net}
use Rattle.ftl_relayout.specs.readers.Readers.{AreReaders, IsReaderKey}

-- the grammar of the tree, and where the schedule has its attributes
abbrev pub site_grammar : ReaderSite → AttributeGrammar
site_grammar x = meant x.tree.now.checked

abbrev pub site_placing : ReaderSite → Placing
site_placing x = placing x.accepted.now.schedule

-- the instances of the tree as cells
abbrev pub site_net : ReaderSite → Net
site_net x = net_of (site_grammar x) (site_placing x) x.tree.now.tree

-- the cell of an attribute of a node
abbrev pub cell_of : CheckedTree → (node attribute : ℕ) → ℕ
cell_of t node a = instance_number (meant t.checked) t.tree (instance_in t node a)

-- the grammar is lawful, its instances have keys, and the readers are its and the places in keys its and the schedule's
pub record IsReaderSite (x : ReaderSite) : Type 0 where
  pub law : IsLawful (site_grammar x)
  pub small : HasSmallKeys (site_grammar x) (site_placing x) x.tree.now.tree
  pub readers : AreReaders (site_grammar x) x.readers.now
  pub places : AreKeyPlaces x.tree.now.checked x.accepted.now.schedule x.places.now

-- the key of what a rule computes that runs at the node for one of these kids
pub record IsKeyOfKid (x : ReaderSite) (node : ℕ) (e : Reader) (range : Range) (key : ℕ) : Type 0 where
  pub number : ℕ
  pub least : range.from ≤ number
  pub below : number < range.to
  pub key_is : key_of (site_grammar x) (site_placing x) x.tree.now.tree
      (target_of_rule (node_at x.tree.now.tree node) (name_of_info e.info) number)
      ≡ key

-- the key of a step that runs at the node of this number and reads the occurrence there
abbrev pub IsReaderKeyAt : ReaderSite → (node : ℕ) → Occurrence → (key : ℕ) → Type 0
IsReaderKeyAt x node o key =
    IsReaderKey (site_grammar x) (site_placing x) x.tree.now.tree (node_at x.tree.now.tree node) o key

-- nothing went, and just such came
pub record Adds (before after : List ℕ) (P : ℕ → Type 0) : Type 0 where
  pub kept : (k : ℕ) → Contains before k → Contains after k
  pub only : (k : ℕ) → Contains after k → Contains before k ⊎ P k

-- the node of this number is that of the instance to which a rule of this name gives its value for a kid
pub record IsTarget (t : CheckedTree) (node : ℕ) (w : RuleName) (kid target : ℕ) : Type 0 where
  pub known : target < size t.tree
  pub is : node_at t.tree target ≡ (target_of_rule (node_at t.tree node) w kid).node

-- the cell of an instance with this key
pub record IsCellOfKey (x : ReaderSite) (cell key : ℕ) : Type 0 where
  pub below : cell < (site_net x).cells
  pub key_is : (site_net x).key cell ≡ key

-- the node and the attribute of a cell's instance
pub record IsTold (x : ReaderSite) (cell node attribute : ℕ) : Type 0 where
  pub known : IsAttributeOf x.tree.now node attribute
  pub instance : instance_in x.tree.now node attribute ≡ instance_at (site_grammar x) x.tree.now.tree cell
  pub number : cell_of x.tree.now node attribute ≡ cell
