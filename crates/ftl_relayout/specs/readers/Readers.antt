-- Which rules read an attribute, and for which kids they read an instance.
use Rattle.std.specs.Prelude.{◌≡◌, ℕ, ◌<◌, ◌≤◌, ◌+◌, ◌*◌, List, [], Contains, Option, None, Some, IfSome, length, slice_index_or}
use Rattle.ftl_deps.specs.declared.parts.part_read.PartRead.{PartRead}
use Rattle.ftl_deps.specs.declared.parts.part_read.PartRead.TheVariants as reads
use Rattle.ftl_deps.specs.parts.RuleParts.{parts_named, read_meant}
use Rattle.ftl_deps.specs.reads.Meant.{meant}
use Rattle.ftl_deps.specs.reads.Products.{name_of_info}
use Rattle.ftl_model.specs.layout.AttributeGrammar.{AttributeGrammar, Occurrence, Parts, Read, RuleName, first_then, fold_over, for_child, for_self, kid, own, plain}
use Rattle.ftl_model.specs.layout.Path.{Path, kids_at}
use Rattle.ftl_model.specs.layout.Solves.{Instance, rule_kid, rule_node, rule_of}
use Rattle.ftl_model.specs.layout.Tree.{Forest}
use Rattle.ftl_order.specs.orders.Lawful.{IsRule, class_of_rule}
use Rattle.ftl_order.specs.orders.LegalOrder.{IsStep}
use Rattle.ftl_order.specs.orders.Schedule.{Placing}
use Rattle.ftl_order.specs.steps.Steps.{target_of_rule}
use Rattle.ftl_tree.specs.declared.rows.row.Place.{Place}
use Rattle.ftl_tree.specs.rows.KidRuns.{IsChildOf}
use Rattle.ftl_tree.specs.trees.CheckedTree.{CheckedTree}
use Rattle.ftl_visit.specs.step_reads.StepReads.{kids_in}
use Rattle.ftl_relayout.specs.declared.readers.reader.Range.{Range}
use Rattle.ftl_relayout.specs.declared.readers.reader.Reader.{Reader}
use Rattle.ftl_relayout.specs.declared.readers.reader.When.{When}
use Rattle.ftl_relayout.specs.declared.readers.reader.When.TheVariants as when
use Rattle.ftl_relayout.specs.declared.readers.reader.Whose.{Whose}
use Rattle.ftl_relayout.specs.declared.readers.reader.Whose.TheVariants as whose
use Rattle.ftl_relayout.specs.keys.Keys.{key_of}
use Rattle.ftl_relayout.specs.laws.Readers.{IsHit, IsReadBy}

-- the attribute that a read names
abbrev pub attribute_read : PartRead → ℕ
attribute_read (reads.Own a) = a
attribute_read (reads.Single c a) = a
attribute_read (reads.Each c a) = a
attribute_read (reads.This c a) = a
attribute_read (reads.Prev c a) = a
attribute_read (reads.Last c a) = a

-- whose attribute that is
abbrev pub whose_read : PartRead → Whose
whose_read (reads.Own a) = whose.Own
whose_read (reads.Single c a) = whose.Kid
whose_read (reads.Each c a) = whose.Kid
whose_read (reads.This c a) = whose.Kid
whose_read (reads.Prev c a) = whose.Kid
whose_read (reads.Last c a) = whose.Kid

-- ---- a read, and what stands at a place

-- an attribute as a rule sees it that runs at a node: of the node itself, or of its kid at a place
abbrev pub seen_as : Option Place → (attribute : ℕ) → Occurrence
seen_as None a = own a
seen_as (Some p) a = kid p.child p.kid a

-- whose it is
abbrev pub whose_at : Option Place → Whose
whose_at None = whose.Own
whose_at (Some p) = whose.Kid

-- a kid of a node, as there are no more than a tree may have nodes
pub record IsKidOf (t : CheckedTree) (node : ℕ) (p : Place) : Type 0 where
  pub child : IsChildOf (meant t.checked) t.tree node p.child
  pub kid : p.kid < kids_in t node p.child
  pub few : kids_in t node p.child ≤ 1048576

-- these are the kids at hand while the read is of the occurrence, among all that 32 bits count
pub record AreHits (kids : ℕ → ℕ) (r : Read) (o : Occurrence) (range : Range) : Type 0 where
  pub has : (n : ℕ) → n < 4294967295 → IsHit kids n r o → (range.from ≤ n) × (n < range.to)
  pub only : (n : ℕ) → range.from ≤ n → n < range.to → IsHit kids n r o

-- ---- a read of a part

-- the part that is read then has the read
abbrev pub IsReadWhen : Parts → When → Read → Type 0
IsReadWhen (plain all) when.Always r = Contains all r
IsReadWhen (first_then first later) when.First r = Contains first r
IsReadWhen (first_then first later) when.Later r = Contains later r
IsReadWhen (fold_over c start step) when.Always r = Contains start r
IsReadWhen (fold_over c start step) (when.EachKid d) r = (c ≡ d) × Contains step r
IsReadWhen _ _ r = ⊥

-- a rule for the kid of this number reads the occurrence by it
abbrev pub IsHitWhen : (kids : ℕ → ℕ) → (number : ℕ) → When → Read → Occurrence → Type 0
IsHitWhen kids n when.Always r o = IsHit kids n r o
IsHitWhen kids n when.First r o = (n ≡ 0) × IsHit kids n r o
IsHitWhen kids n when.Later r o = (0 < n) × IsHit kids n r o
IsHitWhen kids n (when.EachKid c) r o = (m : ℕ) × (m < kids c) × IsHit kids m r o

-- for how many kids a rule of this name is at a node; one where it is for the node itself
abbrev pub rule_kids : RuleName → (kids : ℕ → ℕ) → ℕ
rule_kids (for_self k a) kids = 1
rule_kids (for_child k c a) kids = kids c

-- these are the numbers of the kids for which the rule reads the occurrence by this read
pub record AreReaderKids (kids : ℕ → ℕ) (e : Reader) (o : Occurrence) (range : Range) : Type 0 where
  pub has :
      (n : ℕ) → n < rule_kids (name_of_info e.info) kids → IsHitWhen kids n e.when (read_meant e.read) o
      → (range.from ≤ n) × (n < range.to)
  pub only :
      (n : ℕ) → range.from ≤ n → n < range.to
      → (n < rule_kids (name_of_info e.info) kids) × IsHitWhen kids n e.when (read_meant e.read) o

-- ---- all readers

-- a read of a rule of the grammar
pub record IsReader (g : AttributeGrammar) (e : Reader) : Type 0 where
  pub rule : IsRule g (name_of_info e.info)
  pub reads : IsReadWhen (parts_named g (name_of_info e.info)) e.when (read_meant e.read)

-- the number of the list of an attribute's readers for a class: lists stand by attribute, then by class, and for each of
-- these first the one with reads of the node's own attribute, then the one with reads of a kid's
abbrev pub list_at : (classes attribute class : ℕ) → Whose → ℕ
list_at n a k whose.Own = (a * n + k) * 2
list_at n a k whose.Kid = (a * n + k) * 2 + 1

-- the readers of an attribute that stand for a class
abbrev pub readers_for : AttributeGrammar → List (List Reader) → (attribute class : ℕ) → Whose → List Reader
readers_for g lists a k o = slice_index_or lists (list_at g.class_count a k o) []

-- for each attribute and class there are the reads of this attribute by the rules of this class, those of the node's own
-- apart from those of a kid's, and no other
pub record AreReaders (g : AttributeGrammar) (lists : List (List Reader)) : Type 0 where
  pub long : length lists ≡ g.attribute_count * g.class_count * 2
  pub has :
      (w : RuleName) (x : When) (r : PartRead) → IsRule g w → IsReadWhen (parts_named g w) x (read_meant r)
      → attribute_read r < g.attribute_count
      → (e : Reader) × Contains (readers_for g lists (attribute_read r) (class_of_rule w) (whose_read r)) e
      × (name_of_info e.info ≡ w) × (e.when ≡ x) × (e.read ≡ r)
  pub only :
      (a k : ℕ) (o : Whose) (e : Reader) → k < g.class_count → Contains (readers_for g lists a k o) e
      → IsReader g e × (attribute_read e.read ≡ a) × (class_of_rule (name_of_info e.info) ≡ k) × (whose_read e.read ≡ o)

-- ---- what reads an occurrence at a node

-- the key of a step whose rule runs at the node and reads the occurrence there
pub record IsReaderKey (g : AttributeGrammar) (at : Placing) (t : Forest) (v : Path) (o : Occurrence) (key : ℕ) :
    Type 0 where
  pub reader : Instance
  pub step : IsStep g t reader
  pub runs : rule_node (g.sort reader.attribute) reader.node ≡ v
  pub reads : IsReadBy (rule_of g t (g.sort reader.attribute) reader.node reader.attribute).parts (kids_at t v)
      (rule_kid (g.sort reader.attribute) reader.node) o
  pub key_is : key_of g at t reader ≡ key

-- the key of a step that reads it by this read
pub record IsKeyBy (g : AttributeGrammar) (at : Placing) (t : Forest) (v : Path) (o : Occurrence) (e : Reader)
    (key : ℕ) : Type 0 where
  pub number : ℕ
  pub below : number < rule_kids (name_of_info e.info) (kids_at t v)
  pub hit : IsHitWhen (kids_at t v) number e.when (read_meant e.read) o
  pub key_is : key_of g at t (target_of_rule v (name_of_info e.info) number) ≡ key

-- its rule, and the fold that it is in, are for children of the node
pub record IsReaderAt (t : CheckedTree) (node : ℕ) (e : Reader) : Type 0 where
  pub child : IfSome e.info.child (IsChildOf (meant t.checked) t.tree node)
  pub fold : (c : ℕ) → e.when ≡ when.EachKid c → IsChildOf (meant t.checked) t.tree node c
