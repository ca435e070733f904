-- A key of each step that is found in constant time and rises along the reads: the stage, when the step's rule runs in
-- its pass, the place in the pass's list, the node and the attribute.
use Rattle.std.specs.Prelude.{ℕ, suc, ◌+◌, ◌*◌, ◌-◌, List, [], ◌∷◌}
use Rattle.ftl_model.specs.lists.Lists.{Before}
use Rattle.ftl_model.specs.layout.AttributeGrammar.{AttributeGrammar, Sort, inherited, input, local, synthesized}
use Rattle.ftl_model.specs.layout.Path.{Path, number_of, size_at}
use Rattle.ftl_model.specs.layout.Solves.{Instance, rule_node}
use Rattle.ftl_model.specs.layout.Tree.{Forest, size}
use Rattle.ftl_model.specs.layout.TreeOf.{IsTreeOf}
use Rattle.ftl_order.specs.orders.Lawful.{IsLawful}
use Rattle.ftl_order.specs.orders.LegalOrder.{IsStep}
use Rattle.ftl_order.specs.orders.Ordered.{IsOrdered}
use Rattle.ftl_order.specs.orders.Reads.{Reads}
use Rattle.ftl_order.specs.orders.Schedule.{PassKind, Placing, Schedule, bottomup, inorder, placing_of, topdown}

-- the time of an attribute of this kind at a node: topdown when its rule's node comes, bottomup from the last node on;
-- inorder when the node comes, or for a synthesized one when the next node behind its tree does
abbrev pub time_of : PassKind → Forest → Sort → Path → ℕ
time_of topdown t sort p = number_of t (rule_node sort p)
time_of bottomup t sort p = size t - number_of t (rule_node sort p)
time_of inorder t input p = number_of t p
time_of inorder t inherited p = number_of t p
time_of inorder t synthesized p = number_of t p + size_at t p
time_of inorder t local p = number_of t p

-- at one time of an inorder pass: the trees that end, the inner ones first; what the node inherits; its locals
abbrev pub tie_of : PassKind → Forest → Sort → Path → ℕ
tie_of topdown t sort p = 0
tie_of bottomup t sort p = 0
tie_of inorder t input p = 0
tie_of inorder t inherited p = suc (size t)
tie_of inorder t synthesized p = size t - number_of t p
tie_of inorder t local p = suc (suc (size t))

abbrev pub digits_in : PassKind → Placing → Forest → Sort → Path → ℕ → List ℕ
digits_in kind at t sort p a =
    time_of kind t sort p ∷ (tie_of kind t sort p ∷ ((at a).index ∷ (number_of t p ∷ (a ∷ []))))

-- the digits of an instance
abbrev pub key_digits : AttributeGrammar → Placing → Forest → Instance → List ℕ
key_digits g at t i =
    (at i.attribute).stage ∷ digits_in (at i.attribute).kind at t (g.sort i.attribute) i.node i.attribute

-- what a step reads, unless it is an input, has a smaller key
abbrev pub KeysRise : Type 0
KeysRise =
    (g : AttributeGrammar) (s : Schedule) (t : Forest) → IsLawful g → IsOrdered g s → IsTreeOf g t
    → (i j : Instance) → IsStep g t i → Reads g t i j → IsStep g t j
    → Before (key_digits g (placing_of s) t j) (key_digits g (placing_of s) t i)

-- numbers below 2 ^ 21 as the digits of one
abbrev pub packed : List ℕ → ℕ
packed (a ∷ (b ∷ (c ∷ (d ∷ (e ∷ (f ∷ [])))))) =
    ((((a * 2097152 + b) * 2097152 + c) * 2097152 + d) * 2097152 + e) * 2097152 + f
packed _ = 0

-- the key of an instance
abbrev pub key_of : AttributeGrammar → Placing → Forest → Instance → ℕ
key_of g at t i = packed (key_digits g at t i)
