-- How many attributes each interface or class declares, and how many come before.
use Rattle.std.specs.Prelude.{◌≡◌, ℕ, List, length, map}
use Rattle.ftl_grammar.specs.declared.syntax.rules.Grammar.{Grammar}
use Rattle.ftl_tree.specs.rows.Rows.{sums_from}
use Rattle.ftl_tree.specs.declared.trees.class_table.OwnerRuns.{OwnerRuns}

-- of each interface
abbrev pub shared_counts : Grammar → List ℕ
shared_counts g = map (λ x. length x.attrs) g.interfaces

-- of each class
abbrev pub own_counts : Grammar → List ℕ
own_counts g = map (λ x. length x.attrs) g.classes

-- these counts, with their sums
pub record AreRuns (these : List ℕ) (runs : OwnerRuns) : Type 0 where
  pub counts_are : runs.counts.items ≡ these
  pub firsts_are : runs.firsts.items ≡ sums_from 0 these
