-- The numbers of rules by what they define, class by class.
use Rattle.std.specs.Prelude.{ℕ, List, map, Option, Some, None}
use Rattle.std.specs.List.{range_with_len}
use Rattle.ftl_model.specs.layout.AttributeGrammar.{AttributeGrammar}
use Rattle.ftl_visit.specs.visits.Visits.{rule_number}

-- the numbers below this one, each with what a function gives it
abbrev pub by_number : {X : Type 0} → (ℕ → X) → (count : ℕ) → List X
by_number f n = map f (range_with_len 0 n)

-- the rules of a class for the kids in a child, or for the node itself, by attribute
abbrev pub rules_by_attribute : AttributeGrammar → (class : ℕ) → (child : Option ℕ) → List (Option ℕ)
rules_by_attribute g class child = by_number (rule_number g class child) g.attribute_count

-- the rules for the nodes themselves, by class and attribute
abbrev pub own_rules : AttributeGrammar → List (List (Option ℕ))
own_rules g = by_number (λ k. rules_by_attribute g k None) g.class_count

-- the rules of a class for the kids in each child
abbrev pub class_kid_rules : AttributeGrammar → (class : ℕ) → List (List (Option ℕ))
class_kid_rules g k = by_number (λ c. rules_by_attribute g k (Some c)) (g.child_count k)

-- the rules for kids, by class, child and attribute
abbrev pub kid_rules : AttributeGrammar → List (List (List (Option ℕ)))
kid_rules g = by_number (class_kid_rules g) g.class_count
