-- Trees of noncircular grammars: their values, and how long chains of reads are.
use Rattle.std.proofs.Common.{◌≡◌, ◌≢◌, ℕ, List, get_or, sym, ◌∙◌, subst}
use Rattle.ftl_deps.specs.reads.Meant.{meant}
use Rattle.ftl_meaning.specs.faults.Checked.{CheckedGrammar}
use Rattle.ftl_model.specs.layout.Solves.{Instance, IsInstance}
use Rattle.ftl_model.specs.layout.Table.{instance_count, instance_number}
use Rattle.ftl_model.specs.layout.TreeOf.{IsTreeOf}
use Rattle.ftl_model.specs.layout.Values.{Value}
use Rattle.ftl_noncircular.specs.grammars.Noncircular.{IsNoncircular}
use Rattle.ftl_noncircular.specs.grammars.NoncircularLaws.{ChainsEnd, OneListWhereNoncircular}
use Rattle.ftl_order.specs.orders.GrammarLaws.{OfLawful, TablesAreInRange}
use Rattle.ftl_order.specs.orders.Lawful.{IsLawful}
use Rattle.ftl_order.specs.orders.Reads.{EndsWithin}
use Rattle.ftl_tree.specs.trees.CheckedTree.{CheckedTree}
use Rattle.ftl_demand.specs.demand.Solved.{IsSolvedBy}
use Rattle.ftl_demand.specs.demand.Words.{AreWordsSoFar, IsSolution}
use Rattle.ftl_demand.proofs.demand.Filled.{all_there, in_range}

-- the grammar that was found to be noncircular is the tree's
module _ (t : CheckedTree) (c found : CheckedGrammar) (same : t.checked ≡ c) (is : found ≡ c)
    (lawful : IsLawful (meant c)) (noncircular : IsNoncircular (meant found))
    (fits : IsTreeOf (meant t.checked) t.tree) (chains : ChainsEnd) where
  pub law : IsLawful (meant t.checked)
  law = subst (λ (k : CheckedGrammar). IsLawful (meant k)) (sym same) lawful

  no_circle : IsNoncircular (meant t.checked)
  no_circle = subst (λ (k : CheckedGrammar). IsNoncircular (meant k)) (is ∙ sym same) noncircular

  pub chains_end : (i : Instance) → IsInstance (meant t.checked) t.tree i
      → EndsWithin (meant t.checked) t.tree (instance_count (meant t.checked) t.tree) i
  chains_end = chains (meant t.checked) t.tree law no_circle fits

  module _ (one : OneListWhereNoncircular) (ranges : OfLawful TablesAreInRange) where
    pub some_values : (values : List Value) × IsSolution (meant t.checked) t.tree values
    some_values =
        let g = meant t.checked in
        let some = (one g t.tree law no_circle fits).some_solves in (
          some.0,
          in_range g t.tree law fits (ranges g law) (λ i. instance_count g t.tree) chains_end some.0 some.1,
        )

    -- once the word of each instance is there, the words are those of values that solve
    pub solved : (words : List ℕ) → AreWordsSoFar (meant t.checked) t.tree words
        → ((i : Instance) → IsInstance (meant t.checked) t.tree i
        → get_or words (instance_number (meant t.checked) t.tree i) 0 ≢ 0)
        → IsSolvedBy t words
    solved words so_far there =
        let some = some_values in
        record {
          values = some.0;
          solves = some.1.solves;
          in_range = some.1.in_range;
          held = all_there (meant t.checked) t.tree law fits words so_far there some.0 some.1;
        }
