-- What waits is due by an edit before.
use Rattle.std.proofs.Common.{◌≡◌, ◌⊎◌, ℕ, ◌+◌, ◌<◌, Contains, ap, get_or, ◌∙◌, subst, inl, inr, ⊎_elim, arith, List, []}
use Rattle.std.proofs.lemmas.Bool.{cases_lt}
use Rattle.std.proofs.lemmas.List.{get_or_default}
use Rattle.ftl_edits.specs.declared.meaning.types.Edit.{Edit}
use Rattle.ftl_relayout.specs.readers.Sites.{site_grammar}
use Rattle.ftl_relayout.specs.relayouter.Due.{IsDueBy}
use Rattle.ftl_relayout.proofs.edits.Writing.{edit_at}
use Rattle.ftl_relayout.proofs.relayouter.Dues.{all_wait, due_by, some_edit}
use Rattle.ftl_relayout.proofs.relayouter.due.add_due.Goals as goal

at_most : (m n : ℕ) → m < n + 1 → (m < n) ⊎ (m ≡ n)
at_most m n h = ⊎_elim (λ less. inl less) (λ more. inr (let e : m ≡ n = omega (arith, h, more) in e)) (cases_lt m n)

abbrev no_keys : List ℕ
no_keys = []

none_in : (k : ℕ) → Contains no_keys k → ⊥
none_in k h = let b = h.1 in omega (arith, b)

pub add_changed-requires-clause-edit : goal.add_changed-requires-clause-edit
add_changed-requires-clause-edit c =
    let x = c.args.readers.now in
    edit_at (site_grammar x) x.tree.now.tree c.args.edits.now c.loop-edit.edit-index some_edit c.requires.edits
    c.loop-edit-test.true

pub loop-edit-init : goal.loop-edit-init
loop-edit-init c = record {
  all = λ m d below k by. absurd (let z : ⊥ = omega (arith, below) in z);
  only = λ k h. absurd (none_in k (subst (λ ks. Contains ks k) c.requires.empty h));
}

pub returns-in_err-add_changed-clause-only : goal.returns-in_err-add_changed-clause-only
returns-in_err-add_changed-clause-only c = λ old from k h.
    let x = c.args.readers.now in
    ⊎_elim
    (λ before.
    let by = c.loop-edit.invariant.only k before in
    due_by x c.args.edits.now old c.args.values.now from by.0 k by.1)
    (λ by.
    due_by x c.args.edits.now old c.args.values.now from
    (get_or c.args.edits.now c.loop-edit.edit-index some_edit) k by)
    (c.add_changed.ensures.adds.only k h)

pub loop-edit-preserved : goal.loop-edit-preserved
loop-edit-preserved c =
    let x = c.args.readers.now in
    let es = c.args.edits.now in
    let vs = c.args.values.now in
    let j = c.loop-edit.edit-index in
    let e = get_or es j some_edit in
    record {
      all = λ m d below k by.
          ⊎_elim (λ less. c.add_changed.ensures.adds.kept k (c.loop-edit.invariant.all m d less k by))
          (λ same.
          let one : get_or es m d ≡ e =
          ap (λ i. get_or es i d) same ∙ get_or_default es j d some_edit c.loop-edit-test.true in
          c.in_ok-add_changed.ensures.all k (subst (λ (f : Edit). IsDueBy x vs f k) one by))
          (at_most m j below);
      only = λ k h.
          ⊎_elim (λ before. c.loop-edit.invariant.only k before) (λ by. (e, by)) (c.add_changed.ensures.adds.only k h);
    }

pub returns-clause-due : goal.returns-clause-due
returns-clause-due c = λ old from k step changed.
    let x = c.args.readers.now in
    let past = c.loop-edit-test.false in
    all_wait x c.args.edits.now old c.args.values.now from c.requires.edits c.loop-edit.waiting.keys
    (λ m d below. c.loop-edit.invariant.all m d (omega (arith, below, past))) k step changed

pub returns-clause-only : goal.returns-clause-only
returns-clause-only c = λ old from k h.
    let by = c.loop-edit.invariant.only k h in
    due_by c.args.readers.now c.args.edits.now old c.args.values.now from by.0 k by.1
