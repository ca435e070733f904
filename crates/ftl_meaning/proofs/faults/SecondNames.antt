-- The first name that stands before, in one list and then in another.
use Rattle.std.proofs.Common.{◌≡◌, Bool, true, false, if◌then◌else◌, List, [], ◌∷◌, ◌++◌, Some, None, sym, ◌∙◌, ap, append_assoc}
use Rattle.std.proofs.lemmas.List.{append-nil}
use Rattle.ftl_grammar.specs.syntax.Trees.{NameText}
use Rattle.ftl_meaning.specs.faults.FirstFault.{second_name}
use Rattle.ftl_meaning.specs.faults.Numbering.{is_among}

-- names in one list and then in another: a second place in the first
pub second_in_first : (before xs ys : List NameText) (n : NameText) → second_name before xs ≡ Some n
    → second_name before (xs ++ ys) ≡ Some n
second_in_first before [] ys n e = absurd (cc e)
second_in_first before (x ∷ xs) ys n e = by_test (is_among before x) e (second_in_first (before ++ (x ∷ [])) xs ys n)
  where
    by_test : (b : Bool) → (if b then Some x else second_name (before ++ (x ∷ [])) xs) ≡ Some n
        → (second_name (before ++ (x ∷ [])) xs ≡ Some n → second_name (before ++ (x ∷ [])) (xs ++ ys) ≡ Some n)
        → (if b then Some x else second_name (before ++ (x ∷ [])) (xs ++ ys)) ≡ Some n
    by_test true e rest = e
    by_test false e rest = rest e

-- or none there
pub second_in_then : (before xs ys : List NameText) → second_name before xs ≡ None
    → second_name before (xs ++ ys) ≡ second_name (before ++ xs) ys
second_in_then before [] ys e = ap (λ bs. second_name bs ys) (sym (append-nil before))
second_in_then before (x ∷ xs) ys e =
    by_test (is_among before x) e (second_in_then (before ++ (x ∷ [])) xs ys)
    ∙ ap (λ bs. second_name bs ys) (append_assoc before (x ∷ []) xs)
  where
    by_test : (b : Bool) → (if b then Some x else second_name (before ++ (x ∷ [])) xs) ≡ None
        → (second_name (before ++ (x ∷ [])) xs ≡ None → second_name (before ++ (x ∷ [])) (xs ++ ys) ≡ second_name ((before ++ (x ∷ [])) ++ xs) ys)
        → (if b then Some x else second_name (before ++ (x ∷ [])) (xs ++ ys)) ≡ second_name ((before ++ (x ∷ [])) ++ xs) ys
    by_test true e rest = absurd (cc e)
    by_test false e rest = rest e
