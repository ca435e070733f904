-- Written edits without a fault are edits that the tree can take.
use Rattle.std.proofs.Common.{◌≡◌, ℕ, ◌+◌, ◌<◌, nat_lt, Bool, true, false, cond, refl, sym, ◌∙◌, ap, subst, List, []}
use Rattle.std.proofs.Common.{◌∷◌, length, map, Option, Some, None, Ok, Err, unwrap_or}
use borrow.Author.Tests.{ltb-true}
use Rattle.std.specs.Option.{option_or}
use Rattle.std.proofs.lemmas.List.Elements.{All-nil, All-cons, All-head, All-tail}
use Rattle.ftl_base.specs.Widths.{greatest_of_width}
use Rattle.ftl_model.specs.layout.Path.{class_at, node_at}
use Rattle.ftl_model.specs.layout.Tree.{size}
use Rattle.ftl_model.specs.layout.TreeOf.{IsInput}
use Rattle.ftl_tree.specs.trees.CheckedTree.{CheckedTree}
use Rattle.ftl_edits.specs.declared.syntax.written.WrittenEdit.{WrittenEdit}
use Rattle.ftl_edits.specs.declared.meaning.types.Edit.{Edit}
use Rattle.ftl_edits.specs.declared.meaning.fault.EditFault.{EditFault}
use Rattle.ftl_edits.specs.declared.meaning.fault.EditFault.TheVariants as fault
use Rattle.ftl_edits.specs.syntax.Read.{AreWithin}
use Rattle.ftl_edits.specs.meaning.Meaning.{edit_fault, edit_of, edits_by, edits_of, first_faulty, input_fault}
use Rattle.ftl_edits.specs.meaning.Meaning.{input_of}
use Rattle.ftl_edits.specs.meaning.Meaning.{most_edits}
use Rattle.ftl_edits.specs.meaning.Editable.{AreEditsOf, IsEditOf, greatest_of}
use Rattle.ftl_edits.proofs.meaning.Inputs.{named_input}

-- ---- one edit

-- the input that is named
by_input : (t : CheckedTree) (n : ℕ) (e : WrittenEdit) (o : Option ℕ) → input_of t e ≡ o → input_fault n o ≡ None
    → e.node < size t.tree → IsInput (greatest_of t) e.value → IsEditOf t (edit_of t e)
by_input t n e (Some a) is none node value =
    record {
      node = node;
      input =
          named_input (greatest_of_width t.checked.width) t.checked.grammar (class_at t.tree (node_at t.tree e.node))
          e.name (edit_of t e).attr
          (is ∙ ap Some (sym (ap (λ (o : Option ℕ). unwrap_or o 0) is)));
      value = value;
    }
by_input t n e None is none node value = absurd cc

-- an edit without a fault
edit_is : (t : CheckedTree) (n : ℕ) (e : WrittenEdit) → edit_fault t n e ≡ None → IsInput (greatest_of t) e.value
    → IsEditOf t (edit_of t e)
edit_is t n e none value = go (nat_lt e.node (size t.tree)) refl none
  where
    go : (b : Bool) → nat_lt e.node (size t.tree) ≡ b
        → cond b (input_fault n (input_of t e)) (Some (fault.UnknownNode n)) ≡ None → IsEditOf t (edit_of t e)
    go true known none = by_input t n e (input_of t e) refl none (ltb-true e.node (size t.tree) known) value
    go false known none = absurd cc

-- ---- all

-- none of two
first_none : (o r : Option EditFault) → option_or o r ≡ None → (o ≡ None) × (r ≡ None)
first_none None r none = (refl, none)
first_none (Some x) r none = absurd cc

all_are : (t : CheckedTree) (n : ℕ) (written : List WrittenEdit) → first_faulty t n written ≡ None
    → AreWithin (greatest_of t) written → AreEditsOf t (map (edit_of t) written)
all_are t n [] none within = All-nil (IsEditOf t)
all_are t n (e ∷ written) none within =
    let both = first_none (edit_fault t n e) (first_faulty t (n + 1) written) none in
    All-cons (IsEditOf t) (edit_of t e) (map (edit_of t) written)
    (edit_is t n e both.0 (All-head (λ (x : WrittenEdit). IsInput (greatest_of t) x.value) e written within))
    (all_are t (n + 1) written both.1
    (All-tail (λ (x : WrittenEdit). IsInput (greatest_of t) x.value) e written within))

-- the edits that written ones stand for
pub editable : (t : CheckedTree) (written : List WrittenEdit) (edits : List Edit) → AreWithin (greatest_of t) written
    → edits_of t written ≡ Ok edits → AreEditsOf t edits
editable t written edits within is =
    by_count (nat_lt most_edits (length written)) is
  where
    by_fault : (o : Option EditFault) → first_faulty t 1 written ≡ o → edits_by o (map (edit_of t) written) ≡ Ok edits
        → AreEditsOf t edits
    by_fault (Some x) found is = absurd cc
    by_fault None found is =
        let same : map (edit_of t) written ≡ edits = cc in
        subst (AreEditsOf t) same (all_are t 1 written found within)

    by_count : (b : Bool)
        → cond b (Err (fault.TooMany (length written)))
        (edits_by (first_faulty t 1 written) (map (edit_of t) written)) ≡ Ok edits
        → AreEditsOf t edits
    by_count true is = absurd cc
    by_count false is = by_fault (first_faulty t 1 written) refl is
