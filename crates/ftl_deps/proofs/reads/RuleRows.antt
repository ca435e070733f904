-- What the rules of a checked grammar have, by number, is what they have as they are written.
use Rattle.std.proofs.Common.{◌≡◌, ℕ, suc, ◌+◌, ◌<◌, List, [], ◌∷◌, ◌++◌, length, map, flat_map, take, get_or, Contains, Option, Some, None, refl, sym, ◌∙◌, ap, ap₂, subst, arith, add-one}
use Rattle.std.specs.List.{slice_get}
use Rattle.std.specs.Option.{option_and_then, option_map, option_to_list}
use Rattle.std.proofs.lemmas.List.{get_or-map, length-map, map-append}
use Rattle.std.proofs.Math.Seq.{take-length, take-suc}
use Rattle.ftl_model.proofs.lists.Elements.{here_in, later_in}
use Rattle.ftl_model.specs.layout.AttributeGrammar.{RuleName}
use Rattle.ftl_grammar.specs.syntax.Trees as trees
use Rattle.ftl_grammar.specs.declared.syntax.rules.Class.{Class}
use Rattle.ftl_grammar.specs.declared.syntax.rules.Grammar.{Grammar}
use Rattle.ftl_grammar.specs.declared.syntax.rules.Rule.{Rule}
use Rattle.ftl_meaning.specs.faults.Allowed.{Leaf, Position}
use Rattle.ftl_meaning.specs.faults.Checked.{all_rules}
use Rattle.ftl_meaning.specs.faults.FirstFault.{first_fault}
use Rattle.ftl_meaning.specs.faults.Numbering.{class_at, numbered}
use Rattle.ftl_meaning.specs.faults.RuleForms.{Slot, form_of, parts_of, slot_of}
use Rattle.ftl_checked.specs.grammars.ReadNumbers.{rule_leaves_at, part_leaves, parts_by, rule_leaves, rule_parts}
use Rattle.ftl_meaning.specs.grammars.GrammarOf.{name_of_rule, rules_of_class}
use Rattle.ftl_meaning.specs.lawful.Kept.{IsKept}
use Rattle.ftl_meaning.proofs.lawful.KeptRules.{rule_kept}
use Rattle.ftl_meaning.proofs.lawful.Numbers.{in_numbered}

-- entries that each give one
each_one : {X Y : Type 0} (f : X → List Y) (h : X → Y) (xs : List X)
    → ((n : ℕ) (x : X) → slice_get xs n ≡ Some x → f x ≡ h x ∷ []) → flat_map f xs ≡ map h xs
each_one f h [] one = refl
each_one f h (x ∷ xs) one =
    ap₂ (λ a b. a ++ b) (one 0 x refl) (each_one f h xs (λ n y at. one (suc n) y at))

-- entries that give the same
each_same : {X Y : Type 0} (f h : X → List Y) (xs : List X) → ((x : X) → Contains xs x → f x ≡ h x)
    → flat_map f xs ≡ flat_map h xs
each_same f h [] same = refl
each_same f h (x ∷ xs) same =
    ap₂ (λ a b. a ++ b) (same x (here_in x xs)) (each_same f h xs (λ y there. same y (later_in x y xs there)))

map-flat_map : {X Y Z : Type 0} (f : Y → Z) (h : X → List Y) (xs : List X)
    → map f (flat_map h xs) ≡ flat_map (λ x. map f (h x)) xs
map-flat_map f h [] = refl
map-flat_map f h (x ∷ xs) =
    map-append f (h x) (flat_map h xs) ∙ ap (λ rest. map f (h x) ++ rest) (map-flat_map f h xs)

pub map-map : {X Y Z : Type 0} (f : Y → Z) (h : X → Y) (xs : List X) → map f (map h xs) ≡ map (λ x. f (h x)) xs
map-map f h [] = refl
map-map f h (x ∷ xs) = ap (λ rest. f (h x) ∷ rest) (map-map f h xs)

module _ (g : Grammar) (none : first_fault g ≡ None) where
  -- the rules by number
  abbrev rules : List RuleName
  rules = flat_map (λ (p : ℕ × Class). rules_of_class g p.0) (numbered 0 g.classes)

  module _ {Y : Type 0} (of_name : RuleName → Y) (of_text : ℕ × Rule → Y)
      (same : (k n : ℕ) (r : Rule) (kept : IsKept g k n r) → of_name (name_of_rule k kept.slot) ≡ of_text (k, r)) where
    -- the rule by number that a rule as it is written is
    abbrev named : (class : ℕ) → Rule → List RuleName
    named k r = option_to_list (option_map (name_of_rule k) (slot_of g k r.target))

    of_class : (k : ℕ) → k < length g.classes
        → map of_name (rules_of_class g k) ≡ map (λ (r : Rule). of_text (k, r)) (class_at g k).rules
    of_class k known =
        map-flat_map of_name (named k) (class_at g k).rules
        ∙ each_one (λ (r : Rule). map of_name (named k r)) (λ (r : Rule). of_text (k, r)) (class_at g k).rules
        (λ n r at.
        let kept = rule_kept g none k known n r at in
        ap (λ (o : Option Slot). map of_name (option_to_list (option_map (name_of_rule k) o))) kept.is_for
        ∙ ap (λ (y : Y). y ∷ []) (same k n r kept))

    of_numbered : (p : ℕ × Class) → Contains (numbered 0 g.classes) p
        → map of_name (rules_of_class g p.0) ≡ map of_text (map (λ r. (p.0, r)) p.1.rules)
    of_numbered p there =
        let s = in_numbered 0 g.classes p there in
        let number = s.number in
        let within = s.known in
        let known : p.0 < length g.classes = omega (arith, number, within) in
        let place : p.0 ≡ s.place = omega (arith, number) in
        of_class p.0 known
        ∙ ap (λ (x : Class). map (λ (r : Rule). of_text (p.0, r)) x.rules)
        (ap (class_at g) place ∙ s.is (trees.class [] [] [] [] []))
        ∙ sym (map-map of_text (λ r. (p.0, r)) p.1.rules)

    -- what the rules have, one by one
    pub rows_are : map of_name rules ≡ map of_text (all_rules g)
    rows_are =
        map-flat_map of_name (λ (p : ℕ × Class). rules_of_class g p.0) (numbered 0 g.classes)
        ∙ each_same (λ (p : ℕ × Class). map of_name (rules_of_class g p.0))
        (λ p. map of_text (map (λ r. (p.0, r)) p.1.rules)) (numbered 0 g.classes) of_numbered
        ∙ sym (map-flat_map of_text (λ (p : ℕ × Class). map (λ r. (p.0, r)) p.1.rules) (numbered 0 g.classes))

  parts_kept : (k n : ℕ) (r : Rule) (kept : IsKept g k n r) → rule_parts g k r ≡ parts_of kept.form
  parts_kept k n r kept =
      ap (λ (o : Option Slot). parts_by (option_and_then (λ slot. form_of g k slot r.body) o)) kept.is_for
      ∙ ap parts_by kept.has_form

  -- what depends on the reads alone
  module _ {Y : Type 0} (of_name : RuleName → Y) (by_leaves : List (Position × List Leaf) → Y)
      (same : (k n : ℕ) (r : Rule) (kept : IsKept g k n r)
      → of_name (name_of_rule k kept.slot) ≡ by_leaves (map (part_leaves g k) (parts_of kept.form))) where
    abbrev leaves : List (List (Position × List Leaf))
    leaves = map (rule_leaves g) (all_rules g)

    rows_by_leaves : map of_name rules ≡ map by_leaves leaves
    rows_by_leaves =
        rows_are of_name (λ (q : ℕ × Rule). by_leaves (rule_leaves g q))
        (λ k n r kept. same k n r kept ∙ ap (λ ps. by_leaves (map (part_leaves g k) ps)) (sym (parts_kept k n r kept)))
        ∙ sym (map-map by_leaves (rule_leaves g) (all_rules g))

    rows_long : length (map of_name rules) ≡ length (all_rules g)
    rows_long = ap length rows_by_leaves ∙ length-map leaves by_leaves ∙ length-map (all_rules g) (rule_leaves g)

    row_at : (n : ℕ) → n < length (all_rules g) → get_or (map of_name rules) n (by_leaves []) ≡ by_leaves (rule_leaves_at g n)
    row_at n within =
        ap (λ ys. get_or ys n (by_leaves [])) rows_by_leaves
        ∙ get_or-map by_leaves leaves n [] (by_leaves [])
        (subst (λ m. n < m) (sym (length-map (all_rules g) (rule_leaves g))) within)

    -- a row more
    pub rows_more : (n : ℕ) → n < length (all_rules g)
        → take (n + 1) (map of_name rules) ≡ take n (map of_name rules) ++ by_leaves (rule_leaves_at g n) ∷ []
    rows_more n within =
        ap (λ m. take m (map of_name rules)) (add-one n)
        ∙ take-suc (map of_name rules) n (by_leaves []) (subst (λ m. n < m) (sym rows_long) within)
        ∙ ap (λ y. take n (map of_name rules) ++ y ∷ []) (row_at n within)

    -- all of them
    pub rows_all : take (length (all_rules g)) (map of_name rules) ≡ map of_name rules
    rows_all = ap (λ n. take n (map of_name rules)) (sym rows_long) ∙ take-length (map of_name rules)
