-- The rules of a tree with what they are run by.
use Rattle.std.specs.Prelude.{ℕ}
use Rattle.ftl_deps.specs.reads.Meant.{meant}
use Rattle.ftl_step_value.specs.declared.limits.reads.tables.ReadTables.{ReadTables}
use Rattle.ftl_step_value.specs.limits.reads.ReadTables.{AreTables, IsSound}
use Rattle.ftl_meaning.specs.faults.Checked.{CheckedGrammar}
use Rattle.ftl_model.specs.layout.Tree.{Forest}
use Rattle.ftl_order.specs.orders.Ordered.{IsOrdered}
use Rattle.ftl_schedule.specs.stages.Stages.{stages_of}
use Rattle.ftl_schedule.specs.declared.stages.types.Schedule.{Schedule}
use Rattle.ftl_visit.specs.compiled.RuleCode.{Compiled}
use Rattle.ftl_visit.specs.rule_values.Runs.{CountedCode}
use Rattle.ftl_relayout.specs.declared.readers.add.ReaderSite.{ReaderSite}
use Rattle.ftl_relayout.specs.declared.values.sites.Buffers.{Buffers}
use Rattle.ftl_relayout.specs.keys.KeysHere.{placing}
use Rattle.ftl_relayout.specs.laws.TreeNets.{net_of}
use Rattle.ftl_relayout.specs.queue.Nets.{Net}
use Rattle.ftl_relayout.specs.readers.Sites.{IsReaderSite, site_grammar}
use Rattle.ftl_relayout.specs.values.PartSites.{CanRun}

-- the tables are those of the tree's grammar, for which the schedule is ordered, and there is what its steps are run by
pub record AreTreeRules (x : ReadTables) (y : ReaderSite) (r : CountedCode) (b : Buffers) : Type 0 where
  pub sound : IsSound (site_grammar y)
  pub tables : AreTables (site_grammar y) x
  pub readers : IsReaderSite y
  pub ordered : IsOrdered (site_grammar y) (stages_of y.accepted.now.schedule)
  pub runs : CanRun y.tree.now.checked r b

-- a tree with its schedule, and code with the count of its runs
pub record TreeRun : Type 0 where
  pub checked : CheckedGrammar
  pub schedule : Schedule
  pub tree : Forest
  pub programs : Compiled
  pub runs : ℕ

abbrev pub tree_run : ReaderSite → CountedCode → TreeRun
tree_run y r =
    record {
      checked = y.tree.now.checked;
      schedule = y.accepted.now.schedule;
      tree = y.tree.now.tree;
      programs = r.programs;
      runs = r.runs;
    }

-- the instances of the tree as cells
abbrev pub run_net : TreeRun → Net
run_net w = net_of (meant w.checked) (placing w.schedule) w.tree
