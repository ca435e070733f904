-- The visit of a node in a pass: the rules of its class by key, each for the node itself or for all kids of a child.
use Rattle.std.specs.Prelude.{ℕ, if◌then◌else◌, List, [], ◌∷◌, filter, map, flat_map}
use Rattle.std.specs.List.{range_with_len}
use Rattle.ftl_model.specs.lists.Lists.{is_listed}
use Rattle.ftl_model.specs.layout.AttributeGrammar.{AttributeGrammar, RuleName, Sort, attributes_of, for_child, for_self}
use Rattle.ftl_model.specs.layout.AttributeGrammar.{inherited, input, local, synthesized}
use Rattle.ftl_model.specs.layout.Path.{Path, class_at, down, kids_at}
use Rattle.ftl_model.specs.layout.Solves.{Instance, instance_of}
use Rattle.ftl_model.specs.layout.Tree.{Forest}

-- the children of a class whose kids have the attribute, in the order of their declaration
abbrev pub children_with : AttributeGrammar → (class attribute : ℕ) → List ℕ
children_with g class a =
    filter (λ c. is_listed (g.shared (g.child_interface class c)) a) (range_with_len 0 (g.child_count class))

-- the rules of a class for an attribute of this sort
abbrev pub rules_for : AttributeGrammar → (class : ℕ) → Sort → (attribute : ℕ) → List RuleName
rules_for g class input a = []
rules_for g class inherited a = map (λ c. for_child class c a) (children_with g class a)
rules_for g class synthesized a = if is_listed (attributes_of g class) a then for_self class a ∷ [] else []
rules_for g class local a = if is_listed (attributes_of g class) a then for_self class a ∷ [] else []

-- the rules of a class whose targets are in a pass's list, by key
abbrev pub rules_by_key : AttributeGrammar → (attributes : List ℕ) → (class : ℕ) → List RuleName
rules_by_key g attributes class = flat_map (λ a. rules_for g class (g.sort a) a) attributes

-- the steps of a rule that runs at a node: one, or one for each kid of the child, from the first to the last
abbrev pub steps_of_rule : Forest → Path → RuleName → List Instance
steps_of_rule t p (for_self class a) = instance_of p a ∷ []
steps_of_rule t p (for_child class c a) = map (λ k. instance_of (down c k p) a) (range_with_len 0 (kids_at t p c))

-- the steps of a visit of a topdown or bottomup pass
abbrev pub visit : AttributeGrammar → Forest → (attributes : List ℕ) → Path → List Instance
visit g t attributes p = flat_map (steps_of_rule t p) (rules_by_key g attributes (class_at t p))
