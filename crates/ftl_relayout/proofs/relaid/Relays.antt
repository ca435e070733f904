-- What laying out anew by tables gives, said of the grammar that the tree has.
use Rattle.std.proofs.Common.{◌≡◌, ℕ, ◌+◌, ◌≤◌, ap, subst, List, [], ◌∷◌, Result, Ok, Err, IfOk}
use Rattle.std.proofs.lemmas.List.Elements.{All-head, All-tail}
use Rattle.ftl_deps.specs.reads.Meant.{meant}
use Rattle.ftl_edits.specs.declared.meaning.types.Edit.{Edit}
use Rattle.ftl_edits.specs.meaning.Editable.{AreEditsOf, IsEditOf}
use Rattle.ftl_meaning.specs.faults.Checked.{CheckedGrammar}
use Rattle.ftl_model.specs.layout.Table.{SolvesList, value_in}
use Rattle.ftl_model.specs.layout.TreeOf.{IsTreeOf}
use Rattle.ftl_model.specs.layout.Values.{Value}
use Rattle.ftl_tree.specs.trees.CheckedTree.{CheckedTree}
use Rattle.ftl_visit.specs.rule_values.Runs.{CountedCode}
use Rattle.ftl_relayout.specs.laws.Edits.{AreInputEdits, with_edits}
use Rattle.ftl_relayout.specs.laws.Relayout.{AreTouched}
use Rattle.ftl_relayout.specs.laws.TreeNets.{cost_at, instance_at}
use Rattle.ftl_relayout.specs.queue.Trails.{total_cost}
use Rattle.ftl_relayout.specs.relaid.Relaid.{IsRelaid, edited_tree, relayout_cost}
use Rattle.ftl_relayout.specs.relayouter.Relaid.{RelayoutGives}

-- what holds of a value where the call succeeds
pub if_ok : {X E : Type 0} {P Q : X → Type 0} (r : Result X E) → ((x : X) → P x → Q x) → IfOk r P → IfOk r Q
if_ok (Ok x) each holds = each x holds
if_ok (Err e) each holds = tt

-- edits of a tree are of inputs of it
pub are_edits : (t : CheckedTree) → IsTreeOf (meant t.checked) t.tree → (es : List Edit) → AreEditsOf t es
    → AreInputEdits (meant t.checked) t.tree es
are_edits t fits [] all = tt
are_edits t fits (e ∷ es) all =
    let first = All-head (IsEditOf t) e es all in
    let rest = All-tail (IsEditOf t) e es all in
    ((record { is_tree = fits; known = first.node; input = first.input }, first.value), are_edits t fits es rest)

module _ (k : CheckedGrammar) (t u : CheckedTree) (es : List Edit) (old new : List Value) (r s : CountedCode)
    (touched : List ℕ) (grammar : t.checked ≡ k) (x : RelayoutGives t u es old new r s touched) where
  pub tree_given : u.tree ≡ edited_tree k t.tree es
  tree_given =
      subst (λ (c : CheckedGrammar). u.tree ≡ with_edits (meant c) t.tree es) grammar
      (ap (λ (y : CheckedTree). y.tree) x.tree)

  pub relaid_given : IsRelaid k u.tree old new touched
  relaid_given =
      record {
        solves = subst (λ (c : CheckedGrammar). SolvesList (meant c) u.tree new) grammar x.solves;
        touched =
            subst (λ (c : CheckedGrammar). AreTouched (meant c) u.tree (value_in (meant c) u.tree old)
            (value_in (meant c) u.tree new) touched) grammar x.touched_are;
      }

  pub runs_given : s.runs ≤ r.runs + relayout_cost k u.tree touched
  runs_given =
      subst (λ (c : CheckedGrammar). s.runs
      ≤ r.runs + total_cost (λ n. cost_at (meant c) u.tree (instance_at (meant c) u.tree n)) touched) grammar x.runs
