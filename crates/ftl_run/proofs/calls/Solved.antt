-- The words of the solution are those of values that solve.
use Rattle.std.proofs.Common.{◌≡◌, ◌<◌, sym, subst, ℕ, List}
use Rattle.ftl_deps.specs.reads.Meant.{meant}
use Rattle.ftl_items.specs.stage_items.WordLaws.{HoldTheSolution}
use Rattle.ftl_meaning.specs.faults.Checked.{CheckedGrammar}
use Rattle.ftl_model.specs.layout.Tree.{Forest}
use Rattle.ftl_nests.specs.Flat.{flat_schedule}
use Rattle.ftl_nests.specs.NestLaws.{FlatIsOrdered}
use Rattle.ftl_nests.specs.Nests.{NestingSchedule}
use Rattle.ftl_order.specs.orders.GrammarLaws.{OfLawful, TablesAreInRange}
use Rattle.ftl_order.specs.orders.OneTable.{ReadsEndByRank}
use Rattle.ftl_order.specs.orders.OrderLaws.{UnderOrderedSchedules}
use Rattle.ftl_items.specs.solution.Solution.{SolutionSolves, solution}
use Rattle.ftl_plan.specs.laws.StageMeanings.{CanBePlanned}
use Rattle.ftl_plan.proofs.laws.InRange.{in_range}
use Rattle.ftl_tree.specs.trees.CheckedTree.{CheckedTree}
use Rattle.ftl_demand.specs.demand.Solved.{IsSolvedBy}

solved_here : (t : CheckedTree) (s : NestingSchedule) → CanBePlanned (meant t.checked) s t.tree
    → FlatIsOrdered → UnderOrderedSchedules SolutionSolves → OfLawful TablesAreInRange → ReadsEndByRank
    → (words : List ℕ) → HoldTheSolution (solution (meant t.checked) t.tree) words → IsSolvedBy t words
solved_here t s can flat solves ranges ends words held =
    let g = meant t.checked in
    let ordered = flat g s can.law can.ordered in
    let only = solves g (flat_schedule s) t.tree can.law ordered can.is_tree in
    record {
      values = solution g t.tree;
      solves = only.solves;
      in_range = λ i below.
          in_range g (flat_schedule s) t.tree can.law ordered can.is_tree (ranges g can.law) ends only i
          (subst (λ n. i < n) only.solves.count below);
      held = held;
    }

-- the same of a plan's grammar and tree, which are these
pub solved_by : (t : CheckedTree) (k : CheckedGrammar) (f : Forest) (s : NestingSchedule) → t.checked ≡ k → t.tree ≡ f
    → CanBePlanned (meant k) s f → FlatIsOrdered → UnderOrderedSchedules SolutionSolves → OfLawful TablesAreInRange
    → ReadsEndByRank → (words : List ℕ) → HoldTheSolution (solution (meant k) f) words → IsSolvedBy t words
solved_by t k f s same_grammar same_tree can flat solves ranges ends words held =
    solved_here t s
    (subst (λ (c : CheckedGrammar). CanBePlanned (meant c) s t.tree) (sym same_grammar)
    (subst (λ (x : Forest). CanBePlanned (meant k) s x) (sym same_tree) can))
    flat solves ranges ends words
    (subst (λ (c : CheckedGrammar). HoldTheSolution (solution (meant c) t.tree) words) (sym same_grammar)
    (subst (λ (x : Forest). HoldTheSolution (solution (meant k) x) words) (sym same_tree) held))
