-- The steps of the sequence of an inorder pass: at a node its locals; for each child and each kid the rules for the
-- kid and the kid's steps; the synthesized attributes.
use Rattle.std.specs.Prelude.{◌≡◌, ℕ, List, [], ◌∷◌, ◌++◌, flat_map, map, Contains}
use Rattle.std.specs.List.{range_with_len}
use Rattle.ftl_model.specs.layout.AttributeGrammar.{AttributeGrammar}
use Rattle.ftl_model.specs.layout.Path.{Has, Path, at as tree_at, class_at, down, kids_at, number_of, one_more}
use Rattle.ftl_model.specs.layout.Path.{top}
use Rattle.ftl_model.specs.layout.Tree.{Forest, below_of, none, tree}
use Rattle.ftl_model.specs.layout.TreeOf.{IsTreeOf}
use Rattle.ftl_order.specs.orders.Lawful.{IsLawful}
use Rattle.ftl_order.specs.orders.Schedule.{EachStandsOnce, Schedule, pass_at, placing_of}
use Rattle.ftl_order.specs.orders.Sequence.{sequence}
use Rattle.ftl_items.specs.stage_items.Items.{pass_place}
use Rattle.ftl_order.specs.steps.Steps.{IsStepOf, target_of}
use Rattle.ftl_order.specs.declared.steps.step.Step.{Step}
use Rattle.ftl_visit.specs.visits.Visits.{children, inherited_rules, locals, synthesized_rules}
use Rattle.ftl_visit.specs.declared.visits.visit_op.VisitOp.{VisitOp}
use Rattle.ftl_visit.specs.declared.visits.visit_op.VisitOp.TheVariants.{Begin, Rule, Visit}

-- the step of an operation at a node for the kid of this number; none where it is no rule
abbrev pub step_of : (node kid : ℕ) → VisitOp → List Step
step_of n k (Rule r) = record { node = n; rule = r; kid = k } ∷ []
step_of n k (Begin c) = []
step_of n k (Visit c) = []

-- the steps of these operations
abbrev pub steps_of_ops : (node kid : ℕ) → List VisitOp → List Step
steps_of_ops n k ops = flat_map (step_of n k) ops

-- for trees side by side below a node, so many kids of each child having come
abbrev pub steps_below : AttributeGrammar → Forest → (attributes : List ℕ) → Path → (ℕ → ℕ) → Forest → List Step
steps_below g t attributes p seen none = []
steps_below g t attributes p seen (tree class child inputs below beside) =
    steps_of_ops (number_of t p) (seen child) (inherited_rules g (class_at t p) child attributes)
    ++ (steps_of_ops (number_of t (down child (seen child) p)) 0 (locals g class attributes)
    ++ (steps_below g t attributes (down child (seen child) p) (λ c. 0) below
    ++ (steps_of_ops (number_of t (down child (seen child) p)) 0 (synthesized_rules g class attributes)
    ++ steps_below g t attributes p (one_more child seen) beside)))

-- the steps of the node itself before its kids, which are its locals
abbrev pub first_steps : AttributeGrammar → Forest → (attributes : List ℕ) → Path → List Step
first_steps g t attributes p = steps_of_ops (number_of t p) 0 (locals g (class_at t p) attributes)

-- and after them, its synthesized attributes
abbrev pub last_steps : AttributeGrammar → Forest → (attributes : List ℕ) → Path → List Step
last_steps g t attributes p = steps_of_ops (number_of t p) 0 (synthesized_rules g (class_at t p) attributes)

-- the steps at a node and all below it
abbrev pub inorder_steps : AttributeGrammar → Forest → (attributes : List ℕ) → Path → List Step
inorder_steps g t attributes p =
    first_steps g t attributes p
    ++ (steps_below g t attributes p (λ c. 0) (below_of (tree_at t p)) ++ last_steps g t attributes p)

-- the steps of a pass compute its sequence
abbrev pub StepsComputeTheSequence : Type 0
StepsComputeTheSequence =
    (g : AttributeGrammar) (s : Schedule) (t : Forest) → IsLawful g → EachStandsOnce g s → IsTreeOf g t
    → (stage pass : ℕ)
    → map (target_of g t) (inorder_steps g t (pass_at s stage pass).attributes top)
    ≡ sequence g (placing_of s) (pass_place stage pass) t

-- and are steps of the tree
abbrev pub StepsAreOfTheTree : Type 0
StepsAreOfTheTree =
    (g : AttributeGrammar) (t : Forest) → IsLawful g → IsTreeOf g t → (attributes : List ℕ)
    → (x : Step) → Contains (inorder_steps g t attributes top) x → IsStepOf g t x

-- ---- kid by kid

-- what is done for a kid: the rules for it, and then its steps
abbrev pub kid_steps : AttributeGrammar → Forest → (attributes : List ℕ) → Path → (child kid : ℕ) → List Step
kid_steps g t attributes p c k =
    steps_of_ops (number_of t p) k (inherited_rules g (class_at t p) c attributes)
    ++ inorder_steps g t attributes (down c k p)

-- for the kids in a child, first to last
abbrev pub child_steps : AttributeGrammar → Forest → (attributes : List ℕ) → Path → (child : ℕ) → List Step
child_steps g t attributes p c = flat_map (kid_steps g t attributes p c) (range_with_len 0 (kids_at t p c))

-- the steps at a node are its locals, what is done for the kids of each child, and its synthesized attributes
abbrev pub StepsGoKidByKid : Type 0
StepsGoKidByKid =
    (g : AttributeGrammar) (t : Forest) → IsTreeOf g t → (attributes : List ℕ) (p : Path) → Has t p
    → inorder_steps g t attributes p
    ≡ first_steps g t attributes p
    ++ (flat_map (child_steps g t attributes p) (children g (class_at t p)) ++ last_steps g t attributes p)
