-- The fields of a page.
use Rattle.std.specs.Prelude.{◌≡◌, Bool, true, false, if◌then◌else◌, List, Option, Some, None}
use Rattle.ftl_deps.specs.reads.Meant.{meant}
use Rattle.ftl_edits.specs.meaning.Editable.{AreEditsOf}
use Rattle.ftl_step_value.specs.limits.faults.PlanFaults.{first_fault}
use Rattle.ftl_model.specs.layout.Table.{SolvesList}
use Rattle.ftl_model.specs.layout.Values.{Value}
use Rattle.ftl_nest_check.specs.stages.Nested.{nests_of}
use Rattle.ftl_nests.specs.Nests.{outer_schedule}
use Rattle.ftl_step_value.specs.value.StepValue.{IsCodeFor}
use Rattle.maugzeris.specs.pages.PageState.{PageState}
use Rattle.maugzeris.specs.declared.pages.page.Page.TheInside.{Inside}

-- the values, where there are some
abbrev pub values_if : Bool → List Value → Option (List Value)
values_if laid_out values = if laid_out then Some values else None

abbrev pub page_inside : Inside → PageState
page_inside p =
    record {
      checked = p.rules.now.checked;
      schedule = p.rules.now.schedule;
      tree = p.tree.tree;
      edits = p.edits;
      values = values_if p.laid_out p.values.items;
    }

-- All belong to one grammar. The edits are of inputs of the tree, and the values solve it; before they are there, no
-- outer stage of the schedule reads too much.
pub record IsPage (p : Inside) : Type 0 where
  pub tree : p.tree.checked ≡ p.rules.now.checked
  pub relayouter : p.relayouter.checked ≡ p.rules.now.checked
  pub code : IsCodeFor p.rules.now.checked p.runner.programs
  pub edits : AreEditsOf p.tree p.edits
  pub fits :
      p.laid_out ≡ false
      → first_fault (meant p.rules.now.checked) (outer_schedule (nests_of p.rules.now.schedule)) p.tree.tree ≡ None
  pub solved : p.laid_out ≡ true → SolvesList (meant p.rules.now.checked) p.tree.tree p.values.items
