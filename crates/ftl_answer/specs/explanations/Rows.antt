-- Instances by number, as examples of pairs are written.
use Rattle.std.specs.Prelude.{ℕ, ◌<◌, List, ◌++◌, codes, map, slice_index_or, Contains}
use Rattle.std.specs.List.{flat_map}
use Rattle.ftl_deps.specs.reads.Meant.{meant}
use Rattle.ftl_document.specs.faults.WrittenOf.{written_of}
use Rattle.ftl_document_printing.specs.text.DocumentText.{document_text}
use Rattle.ftl_model.specs.layout.AttributeGrammar.{attributes_of}
use Rattle.ftl_model.specs.layout.Path.{class_at, node_at, number_of, top}
use Rattle.ftl_model.specs.layout.Solves.{Instance, instance_of}
use Rattle.ftl_model.specs.layout.Table.{instance_count, instances}
use Rattle.ftl_example.specs.nests.examples.NestExamples.{IsNumberedNestExample}
use Rattle.ftl_nests.specs.Nests.{NestingSchedule}
use Rattle.ftl_order.specs.orders.Pairs.{Pair}
use Rattle.ftl_tree.specs.trees.CheckedTree.{CheckedTree}
use Rattle.ftl_answer.specs.answers.Explanations.{instance_line}
use Rattle.ftl_answer.specs.declared.explanations.rows.InstanceRow.{InstanceRow}

-- the row of an instance: the number of its node, and its attribute
abbrev pub row_of : CheckedTree → Instance → InstanceRow
row_of t i = record { node = number_of t.tree i.node; attr = i.attribute }

-- the rows of some instances, in order
abbrev pub rows_of : CheckedTree → List Instance → List InstanceRow
rows_of t these = map (row_of t) these

-- the rows of all instances, by number
abbrev pub instance_rows : CheckedTree → List InstanceRow
instance_rows t = rows_of t (instances (meant t.checked) t.tree)

-- the rows of these attributes of a node
abbrev pub node_rows : (node : ℕ) → List ℕ → List InstanceRow
node_rows node attributes = map (λ (a : ℕ). record { node = node; attr = a }) attributes

-- the attributes of the node of a number
abbrev pub attributes_at : CheckedTree → (node : ℕ) → List ℕ
attributes_at t n = attributes_of (meant t.checked) (class_at t.tree (node_at t.tree n))

-- this is the number of an instance of the tree
abbrev pub IsNumber : CheckedTree → ℕ → Type 0
IsNumber t n = n < instance_count (meant t.checked) t.tree

-- the instance of a number
abbrev pub instance_at : CheckedTree → ℕ → Instance
instance_at t n = slice_index_or (instances (meant t.checked) t.tree) n (instance_of top 0)

-- its line
abbrev pub numbered_line : CheckedTree → ℕ → List ℕ
numbered_line t n = instance_line t.checked.grammar t.tree (instance_at t n)

-- the text of an example whose instances have these numbers
abbrev pub numbered_text : CheckedTree → (reader writer : ℕ) → (order : List ℕ) → List ℕ
numbered_text t reader writer order =
    codes "reader " ++ (numbered_line t reader ++ (codes "writer " ++ (numbered_line t writer
    ++ (document_text (written_of t.checked.grammar t.tree) ++ flat_map (numbered_line t) order))))

-- each is the number of an instance
abbrev pub AreNumbers : CheckedTree → List ℕ → Type 0
AreNumbers t order = (n : ℕ) → Contains order n → IsNumber t n

-- the tree is an example of the pair with instances of these numbers
abbrev pub IsExampleOf : NestingSchedule → Pair → CheckedTree → (reader writer : ℕ) → (order : List ℕ) → Type 0
IsExampleOf s pair t reader writer order = IsNumberedNestExample (meant t.checked) s pair t.tree reader writer order
