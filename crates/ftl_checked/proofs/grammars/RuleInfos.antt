-- What is known of all rules, class by class.
use Rattle.std.proofs.Common.{◌≡◌, ℕ, ◌+◌, ◌<◌, List, [], ◌∷◌, ◌++◌, length, map, flat_map, drop, get_or, Option, Some, None, refl, sym, ◌∙◌, ap, ap₂, subst, add-one, append_assoc}
use Rattle.std.proofs.lemmas.List.{get_or-map, length-map, map-append}
use Rattle.ftl_grammar.specs.declared.syntax.rules.Class.{Class}
use Rattle.ftl_grammar.specs.declared.syntax.rules.Grammar.{Grammar}
use Rattle.ftl_grammar.specs.declared.syntax.rules.Rule.{Rule}
use Rattle.ftl_grammar.specs.syntax.Trees as trees
use Rattle.ftl_meaning.specs.declared.faults.fault.GrammarFault.{GrammarFault}
use Rattle.ftl_meaning.specs.declared.faults.info.RuleInfo.{RuleInfo}
use Rattle.ftl_checked.specs.declarations.FlatRules.{rule_in, rules_in, rules_of_each}
use Rattle.ftl_checked.specs.declared.declarations.flat.FlatRule.{FlatRule}
use Rattle.ftl_meaning.specs.faults.Allowed.{Leaf, Position}
use Rattle.ftl_meaning.specs.faults.Checked.{all_rules, rule_info}
use Rattle.ftl_meaning.specs.faults.FirstFault.{class_fault, first_there, missing_rule, rule_faults}
use Rattle.ftl_checked.specs.grammars.MissingRules.{infos_of, reads_of_class}
use Rattle.ftl_checked.specs.grammars.ReadNumbers.{rule_leaves}
use Rattle.ftl_meaning.specs.faults.Numbering.{class_at, numbered}
use Rattle.ftl_meaning.proofs.faults.Counting.{left_is}
use Rattle.ftl_meaning.proofs.faults.FirstLists.{there_append}
use Rattle.ftl_meaning.proofs.faults.FirstNumbered.{placed_first_passes, placed_first_stops, numbered_first_ends}

module _ {X : Type 0} (tell : ℕ × Rule → X) where
  -- what is known of the rules of a class
  abbrev infos_by : ℕ × Class → List X
  infos_by k = map (λ (r : Rule). tell (k.0, r)) k.1.rules

  -- the rules of one class
  of_class : (k : ℕ) (rs : List Rule)
      → map tell (map (λ (r : Rule). (let p : ℕ × Rule = (k, r) in p)) rs) ≡ map (λ (r : Rule). tell (k, r)) rs
  of_class k [] = refl
  of_class k (r ∷ rs) = ap (λ is. tell (k, r) ∷ is) (of_class k rs)

  -- those of all
  of_classes : (ks : List (ℕ × Class))
      → map tell (flat_map (λ k. map (λ r. (k.0, r)) k.1.rules) ks) ≡ flat_map infos_by ks
  of_classes [] = refl
  of_classes (k ∷ ks) =
      map-append tell (map (λ r. (k.0, r)) k.1.rules) (flat_map (λ k. map (λ r. (k.0, r)) k.1.rules) ks)
      ∙ ap₂ (λ a b. a ++ b) (of_class k.0 k.1.rules) (of_classes ks)

  -- one class more
  infos_by_more : (g : Grammar) (told : List X) (k : ℕ) → k < length g.classes
      → (told ++ infos_by (k, class_at g k)) ++ flat_map infos_by (numbered (k + 1) (drop (k + 1) g.classes))
      ≡ told ++ flat_map infos_by (numbered k (drop k g.classes))
  infos_by_more g told k within =
      append_assoc told (infos_by (k, class_at g k)) (flat_map infos_by (numbered (k + 1) (drop (k + 1) g.classes)))
      ∙ ap (λ n. told ++ (infos_by (k, class_at g k) ++ flat_map infos_by (numbered n (drop (k + 1) g.classes)))) (add-one k)
      ∙ ap (λ xs. told ++ flat_map infos_by (numbered k xs)) (sym (left_is g.classes k (trees.class [] [] [] [] []) within))

  -- none are left
  infos_by_end : (n : ℕ) (xs : List Class) → flat_map infos_by (numbered n (drop (length xs) xs)) ≡ []
  infos_by_end n [] = refl
  infos_by_end n (x ∷ xs) = infos_by_end n xs

-- what is known of all rules is what is known class by class
pub infos_are : (g : Grammar) → map (rule_info g) (all_rules g) ≡ flat_map (infos_of g) (numbered 0 g.classes)
infos_are g = of_classes (rule_info g) (numbered 0 g.classes)

-- one class more
pub infos_more : (g : Grammar) (told : List RuleInfo) (k : ℕ) → k < length g.classes
    → (told ++ infos_of g (k, class_at g k)) ++ flat_map (infos_of g) (numbered (k + 1) (drop (k + 1) g.classes))
    ≡ told ++ flat_map (infos_of g) (numbered k (drop k g.classes))
infos_more g told k within = infos_by_more (rule_info g) g told k within

-- none are left
pub infos_end : (g : Grammar) (n : ℕ) (xs : List Class) → flat_map (infos_of g) (numbered n (drop (length xs) xs)) ≡ []
infos_end g n xs = infos_by_end (rule_info g) n xs

-- the same of what they read
pub reads_are : (g : Grammar) → map (rule_leaves g) (all_rules g) ≡ flat_map (reads_of_class g) (numbered 0 g.classes)
reads_are g = of_classes (rule_leaves g) (numbered 0 g.classes)

pub reads_more : (g : Grammar) (read : List (List (Position × List Leaf))) (k : ℕ) → k < length g.classes
    → (read ++ reads_of_class g (k, class_at g k))
    ++ flat_map (reads_of_class g) (numbered (k + 1) (drop (k + 1) g.classes))
    ≡ read ++ flat_map (reads_of_class g) (numbered k (drop k g.classes))
reads_more g read k within = infos_by_more (rule_leaves g) g read k within

pub reads_end : (g : Grammar) (n : ℕ) (xs : List Class)
    → flat_map (reads_of_class g) (numbered n (drop (length xs) xs)) ≡ []
reads_end g n xs = infos_by_end (rule_leaves g) n xs

-- how many classes are flattened
pub flat_long : (flat : List (List FlatRule)) (xs : List Class) → rules_in flat ≡ rules_of_each xs
    → length flat ≡ length xs
flat_long flat xs are = sym (length-map flat (map rule_in)) ∙ ap length are ∙ length-map xs (λ x. x.rules)

-- the rules of one of them
pub flat_at : (flat : List (List FlatRule)) (xs : List Class) (k : ℕ) (d : Class) → rules_in flat ≡ rules_of_each xs
    → k < length xs → map rule_in (get_or flat k []) ≡ (get_or xs k d).rules
flat_at flat xs k d are within =
    sym (get_or-map (map rule_in) flat k [] [] (subst (λ n. k < n) (sym (flat_long flat xs are)) within))
    ∙ ap (λ rs. get_or rs k []) are
    ∙ get_or-map (λ x. x.rules) xs k d [] within

-- the fault of a class, by its rules and what they miss
pub class_fault_is : (g : Grammar) (k : ℕ) → class_fault g k
    ≡ first_there (first_there (rule_faults g k [] (class_at g k).rules) ∷ missing_rule g k ∷ [])
class_fault_is g k =
    there_append (rule_faults g k [] (class_at g k).rules) (missing_rule g k ∷ [])
    ∙ by_missing (first_there (rule_faults g k [] (class_at g k).rules)) (missing_rule g k)
  where
    by_missing : (a b : Option GrammarFault) → first_there (a ∷ first_there (b ∷ []) ∷ []) ≡ first_there (a ∷ b ∷ [])
    by_missing (Some x) b = refl
    by_missing None (Some x) = refl
    by_missing None None = refl

-- the steps of a loop over all classes
pub ruleset class_steps = (placed_first_passes, placed_first_stops, numbered_first_ends, infos_more, infos_end, reads_more, reads_end, flat_long, flat_at)

-- what all classes tell of their rules
pub ruleset all_steps = (infos_are, reads_are)
