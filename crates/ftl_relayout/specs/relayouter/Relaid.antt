-- A tree and its values laid out anew after edits.
use Rattle.std.specs.Prelude.{◌≡◌, ℕ, ◌+◌, ◌≤◌, List}
use Rattle.std.specs.List.Sorted.{IsStrictlyIncreasing}
use Rattle.ftl_deps.specs.reads.Meant.{meant}
use Rattle.ftl_step_value.specs.declared.limits.reads.tables.ReadTables.{ReadTables}
use Rattle.ftl_step_value.specs.limits.reads.ReadTables.{AreTables, IsSound}
use Rattle.ftl_schedule.specs.check.AcceptedSchedule.{AcceptedSchedule}
use Rattle.ftl_relayout.specs.declared.keys.places.KeyPlace.{KeyPlace}
use Rattle.ftl_relayout.specs.declared.readers.reader.Reader.{Reader}
use Rattle.ftl_relayout.specs.keys.KeyPlaces.{AreKeyPlaces}
use Rattle.ftl_relayout.specs.readers.Readers.{AreReaders}
use Rattle.ftl_model.specs.layout.Table.{SolvesList, value_in}
use Rattle.ftl_model.specs.layout.Values.{Value}
use Rattle.ftl_tree.specs.trees.CheckedTree.{CheckedTree}
use Rattle.ftl_visit.specs.rule_values.Runs.{CountedCode}
use Rattle.ftl_edits.specs.declared.meaning.types.Edit.{Edit}
use Rattle.ftl_relayout.specs.laws.Edits.{with_edits}
use Rattle.ftl_relayout.specs.laws.Relayout.{AreTouched}
use Rattle.ftl_relayout.specs.laws.TreeNets.{cost_at, instance_at}
use Rattle.ftl_relayout.specs.queue.Trails.{total_cost}

-- the tree of a grammar after edits
abbrev pub tree_with_edits : CheckedTree → List Edit → CheckedTree
tree_with_edits t edits = record { checked = t.checked; tree = with_edits (meant t.checked) t.tree edits }

-- the tables are those of the grammar, which is sound, the readers are its, and the places in keys the schedule's
pub record IsRelayouter (a : AcceptedSchedule) (x : ReadTables) (lists : List (List Reader)) (all : List KeyPlace) :
    Type 0 where
  pub sound : IsSound (meant a.checked)
  pub tables : AreTables (meant a.checked) x
  pub readers : AreReaders (meant a.checked) lists
  pub places : AreKeyPlaces a.checked a.schedule all

-- The tree has the edits, and the values solve on it. The list has the numbers of the touched instances, each once, in
-- rising order, and code was run no more often than they cost.
pub record RelayoutGives (t u : CheckedTree) (edits : List Edit) (old new : List Value) (r s : CountedCode)
    (touched : List ℕ) : Type 0 where
  pub tree : u ≡ tree_with_edits t edits
  pub solves : SolvesList (meant t.checked) u.tree new
  pub touched_are :
      AreTouched (meant t.checked) u.tree (value_in (meant t.checked) u.tree old) (value_in (meant t.checked) u.tree new)
      touched
  pub rising : IsStrictlyIncreasing touched
  pub programs : s.programs ≡ r.programs
  pub grows : r.runs ≤ s.runs
  pub runs :
      s.runs ≤ r.runs
      + total_cost (λ n. cost_at (meant t.checked) u.tree (instance_at (meant t.checked) u.tree n)) touched
