-- Values in a vector, written over by a call that lays out anew.
use Rattle.std.proofs.Common.{◌≡◌, ◌∙◌, refl, sym, subst, ℕ, List, ◌++◌, length, take, drop}
use Rattle.ftl_deps.specs.reads.Meant.{meant}
use Rattle.ftl_edits.specs.declared.meaning.types.Edit.{Edit}
use Rattle.ftl_model.specs.layout.Table.{SolvesList}
use Rattle.ftl_model.specs.layout.Values.{Value}
use Rattle.ftl_relayout.proofs.relaid.Relays.{relaid_given, tree_given}
use Rattle.ftl_relayout.specs.relayouter.Relaid.{RelayoutGives}
use Rattle.ftl_run.proofs.calls.Changed.{as_many}
use Rattle.ftl_run.proofs.calls.Mapped.{written_over}
use Rattle.ftl_tree.specs.trees.CheckedTree.{CheckedTree}
use Rattle.ftl_visit.specs.rule_values.Runs.{CountedCode}

-- the vector has the values, as there are as many as before
pub written_values : (t u : CheckedTree) (es : List Edit) (n : ℕ) (old cells new : List Value) (r s : CountedCode)
    (touched : List ℕ) → length cells ≡ n → cells ≡ old → SolvesList (meant t.checked) t.tree old
    → RelayoutGives t u es cells new r s touched
    → RelayoutGives t u es old (take n (new ++ drop (length new) old)) r s touched
written_values t u es n old cells new r s touched long are solved given =
    let x : RelayoutGives t u es old new r s touched =
    subst (λ (vs : List Value). RelayoutGives t u es vs new r s touched) are given in
    let same : length new ≡ length old =
    as_many t.checked t.tree u.tree es old new (length touched) solved
    (tree_given t.checked t u es old new r s touched refl x)
    (touched, refl, relaid_given t.checked t u es old new r s touched refl x) in
    let whole : n ≡ length new = sym long ∙ (subst (λ (vs : List Value). length cells ≡ length vs) are refl ∙ sym same) in
    subst (λ (vs : List Value). RelayoutGives t u es old vs r s touched) (sym (written_over n new old whole same)) x

-- where nothing was written, it has those from before
pub unwritten_values : (n : ℕ) (old cells new : List Value) → length cells ≡ n → cells ≡ old → new ≡ cells
    → take n (new ++ drop (length new) old) ≡ old
unwritten_values n old cells new long are stay =
    let is : new ≡ old = stay ∙ are in
    let same : length new ≡ length old = subst (λ (vs : List Value). length new ≡ length vs) is refl in
    written_over n new old (sym long ∙ subst (λ (vs : List Value). length cells ≡ length vs) (sym stay) refl) same ∙ is
