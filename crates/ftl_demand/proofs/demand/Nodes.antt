-- The words of nodes, attribute by attribute.
use Rattle.std.proofs.Common.{◌≡◌, ◌≢◌, ℕ, ◌<◌, List, Contains, get_or, length, sym, ◌∙◌, ap, subst}
use Rattle.std.proofs.lemmas.List.Elements.{Contains-get_or}
use Rattle.ftl_deps.specs.reads.Meant.{meant}
use Rattle.ftl_step_value.proofs.limits.reads.Entries.{class_entry}
use Rattle.ftl_step_value.specs.limits.reads.ReadTables.{class_in}
use Rattle.ftl_model.specs.layout.AttributeGrammar.{attributes_of}
use Rattle.ftl_model.specs.layout.Tree.{size}
use Rattle.ftl_model.specs.layout.TreeOf.{IsTreeOf}
use Rattle.ftl_order.specs.orders.Lawful.{IsLawful, OfClass}
use Rattle.ftl_tree.specs.trees.CheckedTree.{CheckedTree}
use Rattle.ftl_visit.specs.rule_tables.RuleTables.{by_number}
use Rattle.ftl_demand.specs.demand.Words.{StaysWhereThere}

pub stays_on : (before words now : List ℕ) → StaysWhereThere before words → StaysWhereThere words now
    → StaysWhereThere before now
stays_on before words now first then cell there =
    then cell (λ none. there (sym (first cell there) ∙ none)) ∙ first cell there

pub there_still : (words now : List ℕ) → StaysWhereThere words now → (cell : ℕ) → get_or words cell 0 ≢ 0
    → get_or now cell 0 ≢ 0
there_still words now stays cell there none = there (sym (stays cell there) ∙ none)

-- the attributes of a node's class, in the table by class
module _ (t : CheckedTree) (law : IsLawful (meant t.checked)) (fits : IsTreeOf (meant t.checked) t.tree) (node : ℕ)
    (known : node < size t.tree) (class : ℕ) (is : class ≡ class_in t node) (rows : List (List ℕ))
    (are : rows ≡ by_number (attributes_of (meant t.checked)) (meant t.checked).class_count)
    (row other : List ℕ) (found : row ≡ get_or rows class other) where
  pub row_is : row ≡ attributes_of (meant t.checked) (class_in t node)
  row_is =
      found
      ∙ (class_entry (meant t.checked) law t.tree fits (attributes_of (meant t.checked)) node known is are).is other
      ∙ ap (attributes_of (meant t.checked)) is

  pub in_row : (k : ℕ) → k < length row → OfClass (meant t.checked) (class_in t node) (get_or row k 0)
  in_row k below = subst (λ (xs : List ℕ). Contains xs (get_or row k 0)) row_is (Contains-get_or row k 0 below)
