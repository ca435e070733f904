-- The fields of a tree: its rows, and where the instances, the inputs and the kids of each node stand.
use Rattle.std.specs.Prelude.{◌≡◌, map, slice_index_or}
use Rattle.ftl_model.specs.layout.AttributeGrammar.{AttributeGrammar}
use Rattle.ftl_model.specs.layout.Tree.{Forest}
use Rattle.ftl_deps.specs.reads.Meant.{meant}
use Rattle.ftl_tree.specs.rows.ClassRows.{AreAttributePlaces, AreClassRows, AreInputCounts}
use Rattle.ftl_tree.specs.rows.KidRuns.{HasRuns}
use Rattle.ftl_tree.specs.rows.Rows.{AreRowsOf, attribute_width, input_width, starts_by, tree_of}
use Rattle.ftl_tree.specs.trees.CheckedTree.{CheckedTree}
use Rattle.ftl_tree.specs.declared.trees.tree.Tree.TheInside.{Inside}

-- the grammar with its names gone
abbrev pub grammar_inside : Inside → AttributeGrammar
grammar_inside t = meant t.checked.now

-- the tree that the rows are
abbrev pub tree_inside : Inside → Forest
tree_inside t = tree_of (grammar_inside t) t.rows.items t.sizes.items t.inputs.items

abbrev pub checked_tree_inside : Inside → CheckedTree
checked_tree_inside t = record { checked = t.checked.now; tree = tree_inside t }

pub record IsFlat (t : Inside) : Type 0 where
  pub rows : AreRowsOf (grammar_inside t) (tree_inside t) t.rows.items t.sizes.items t.inputs.items
  pub classes : AreClassRows (grammar_inside t) t.classes.items
  pub input_counts : AreInputCounts (grammar_inside t) t.input_counts.items
  pub first_instances : t.first_instances.items ≡ starts_by (attribute_width (grammar_inside t)) t.rows.items
  pub first_inputs : t.first_inputs.items ≡ starts_by (input_width (grammar_inside t)) t.rows.items
  pub slots : t.slots.items ≡ starts_by (grammar_inside t).child_count t.rows.items
  pub runs : HasRuns (grammar_inside t) (tree_inside t) t.slots.items t.run_starts.items t.kids.items
  pub kid_first_instances : t.kid_first_instances.items ≡ map (λ kid. slice_index_or t.first_instances.items kid 0) t.kids.items
  pub attribute_places : AreAttributePlaces (grammar_inside t) t.attribute_places.items
