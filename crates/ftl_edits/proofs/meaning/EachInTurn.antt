-- The first faulty edit and the edits that written ones stand for, one after the other.
use Rattle.std.proofs.Common.{◌≡◌, ℕ, ◌+◌, ◌<◌, ◌≤◌, List, [], ◌∷◌, ◌++◌, length, drop, take, map, get_or, Some, None}
use Rattle.std.proofs.Common.{refl, sym, ◌∙◌, ap, add-one}
use Rattle.std.specs.Option.{option_or}
use Rattle.std.proofs.Math.Seq.{drop-cons, take-suc}
use Rattle.std.proofs.lemmas.List.{drop_all, map-append, take_all}
use Rattle.ftl_tree.specs.trees.CheckedTree.{CheckedTree}
use Rattle.ftl_edits.specs.declared.syntax.written.WrittenEdit.{WrittenEdit}
use Rattle.ftl_edits.specs.declared.meaning.types.Edit.{Edit}
use Rattle.ftl_edits.specs.declared.meaning.fault.EditFault.{EditFault}
use Rattle.ftl_edits.specs.meaning.Meaning.{edit_fault, edit_of, first_faulty}

-- before the edit at this place none is faulty, and these are the edits that they stand for
pub record AreFound (t : CheckedTree) (written : List WrittenEdit) (i : ℕ) (found : List Edit) : Type 0 where
  pub left : first_faulty t 1 written ≡ first_faulty t (i + 1) (drop i written)
  pub all : found ≡ map (edit_of t) (take i written)

module _ (t : CheckedTree) (written : List WrittenEdit) (i : ℕ) (found : List Edit)
    (are : AreFound t written i found) where
  module _ (d : WrittenEdit) (within : i < length written) where
    next : first_faulty t 1 written
        ≡ option_or (edit_fault t (i + 1) (get_or written i d)) (first_faulty t (i + 1 + 1) (drop (i + 1) written))
    next =
        are.left
        ∙ ap (first_faulty t (i + 1))
        (drop-cons written i d within ∙ ap (λ n. get_or written i d ∷ drop n written) (sym (add-one i)))

    -- this one isn't faulty
    pub one_more : edit_fault t (i + 1) (get_or written i d) ≡ None
        → AreFound t written (i + 1) (found ++ (edit_of t (get_or written i d) ∷ []))
    one_more none = record {
      left = next ∙ ap (λ o. option_or o (first_faulty t (i + 1 + 1) (drop (i + 1) written))) none;
      all =
          ap (λ l. l ++ (edit_of t (get_or written i d) ∷ [])) are.all
          ∙ sym (map-append (edit_of t) (take i written) (get_or written i d ∷ []))
          ∙ ap (map (edit_of t)) (sym (take-suc written i d within))
          ∙ ap (λ n. map (edit_of t) (take n written)) (sym (add-one i));
    }

    -- this one is
    pub one_faulty : (x : EditFault) → edit_fault t (i + 1) (get_or written i d) ≡ Some x
        → first_faulty t 1 written ≡ Some x
    one_faulty x is = next ∙ ap (λ o. option_or o (first_faulty t (i + 1 + 1) (drop (i + 1) written))) is

  -- none is left
  module _ (past : length written ≤ i) where
    pub none_faulty : first_faulty t 1 written ≡ None
    none_faulty = are.left ∙ ap (first_faulty t (i + 1)) (drop_all i written past)

    pub all_found : found ≡ map (edit_of t) written
    all_found = are.all ∙ ap (map (edit_of t)) (take_all i written past)

pub none_found : (t : CheckedTree) (written : List WrittenEdit) → AreFound t written 0 []
none_found t written = record { left = refl; all = refl }
