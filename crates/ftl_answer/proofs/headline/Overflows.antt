-- A table shows Overflow exactly where its summary counts some.
use Rattle.std.proofs.Common.{◌≡◌, refl, ap, Bool, true, false, List, [], ◌∷◌, map, length, ◌∙◌, arith}
use Rattle.std.specs.Prelude.{◌||◌, filter, flat_map, if◌then◌else◌, nat_lt}
use Rattle.std.specs.List.{list_any}
use Rattle.std.proofs.lemmas.Bool.{lt-ltb}
use Rattle.std.proofs.lemmas.List.Folds.{list_any-append}
use Rattle.ftl_deps.specs.reads.Meant.{meant}
use Rattle.ftl_meaning.specs.grammars.GrammarOf.{names_of}
use Rattle.ftl_model.specs.layout.Boxes.{Names, is_overflow}
use Rattle.ftl_model.specs.layout.Path.{Path, class_at, preorder}
use Rattle.ftl_model.specs.layout.Solves.{Instance, instance_of}
use Rattle.ftl_model.specs.layout.Table.{value_in}
use Rattle.ftl_model.specs.layout.Tree.{Forest}
use Rattle.ftl_model.specs.layout.Values.{Value}
use Rattle.ftl_answer.specs.answers.Summary.{shown_values, values_at}
use Rattle.ftl_answer.specs.headline.Promises.{SummariesCountOverflow}

some_left : (here : Bool) (v : Value) (rest : List Value)
    → nat_lt 0 (length (if here then v ∷ rest else rest)) ≡ (here || nat_lt 0 (length rest))
some_left true v rest = lt-ltb 0 (length (v ∷ rest)) (omega (arith))
some_left false v rest = refl

some_counted : (values : List Value) → nat_lt 0 (length (filter is_overflow values)) ≡ list_any is_overflow values
some_counted [] = refl
some_counted (v ∷ values) =
    some_left (is_overflow v) v (filter is_overflow values)
    ∙ ap (λ b. is_overflow v || b) (some_counted values)

any_mapped : {X : Type 0} (f : X → Value) (xs : List X)
    → list_any is_overflow (map f xs) ≡ list_any (λ x. is_overflow (f x)) xs
any_mapped f [] = refl
any_mapped f (x ∷ xs) = ap (λ b. is_overflow (f x) || b) (any_mapped f xs)

module _ (names : Names) (t : Forest) (s : Instance → Value) where
  any_at : (nodes : List Path)
      → list_any is_overflow (flat_map (values_at names t s) nodes)
      ≡ list_any (λ p. list_any (λ a. is_overflow (s (instance_of p a))) (names.shown (class_at t p))) nodes
  any_at [] = refl
  any_at (p ∷ nodes) =
      list_any-append is_overflow (values_at names t s p) (flat_map (values_at names t s) nodes)
      ∙ (ap (λ b. b || list_any is_overflow (flat_map (values_at names t s) nodes))
      (any_mapped (λ a. s (instance_of p a)) (names.shown (class_at t p)))
      ∙ ap (λ b. list_any (λ a. is_overflow (s (instance_of p a))) (names.shown (class_at t p)) || b) (any_at nodes))

pub summaries_count_overflow : SummariesCountOverflow
summaries_count_overflow c t values =
    some_counted (shown_values (names_of c.grammar) t (value_in (meant c) t values))
    ∙ any_at (names_of c.grammar) t (value_in (meant c) t values) (preorder t)
