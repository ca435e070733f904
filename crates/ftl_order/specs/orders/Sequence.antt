-- The sequence of an inorder pass over a tree, as a list: at a node the locals; for each child and each kid the kid's
-- inherited attributes and the kid's sequence; the synthesized attributes. Attributes of one kind stand by key.
use Rattle.std.specs.Prelude.{ℕ, Bool, true, false, ◌&&◌, ◌==◌, List, [], ◌++◌, map, filter}
use Rattle.ftl_model.specs.lists.Lists.{sorted_by}
use Rattle.ftl_model.specs.layout.AttributeGrammar.{AttributeGrammar, Sort, attributes_of, inherited, input, local}
use Rattle.ftl_model.specs.layout.AttributeGrammar.{synthesized}
use Rattle.ftl_model.specs.layout.Path.{Path, at as tree_at, class_at, down, one_more, top}
use Rattle.ftl_model.specs.layout.Solves.{Instance, instance_of}
use Rattle.ftl_model.specs.layout.Tree.{Forest, below_of, none, tree}
use Rattle.ftl_order.specs.orders.Schedule.{Placing, SchedulePlace}

-- whether two kinds are the same
abbrev pub is_same_sort : Sort → Sort → Bool
is_same_sort input input = true
is_same_sort inherited inherited = true
is_same_sort synthesized synthesized = true
is_same_sort local local = true
is_same_sort _ _ = false

-- the attribute stands in the pass of this place
abbrev pub is_in_pass : Placing → SchedulePlace → ℕ → Bool
is_in_pass at x a = ((at a).stage == x.stage) && ((at a).pass == x.pass)

-- the attributes of a class that are of this kind and stand in the pass, by key
abbrev pub keyed : AttributeGrammar → Placing → SchedulePlace → Sort → (class : ℕ) → List ℕ
keyed g at x sort class =
    sorted_by (λ a. (at a).index)
    (filter (λ a. is_same_sort (g.sort a) sort && is_in_pass at x a) (attributes_of g class))

-- the steps of these at a node
abbrev pub steps_at : AttributeGrammar → Placing → SchedulePlace → Sort → (class : ℕ) → Path → List Instance
steps_at g at x sort class p = map (instance_of p) (keyed g at x sort class)

-- for trees side by side below a node, so many kids of each child having come
abbrev pub sequence_below : AttributeGrammar → Placing → SchedulePlace → Path → (ℕ → ℕ) → Forest → List Instance
sequence_below g at x p seen none = []
sequence_below g at x p seen (tree class child inputs below beside) =
    steps_at g at x inherited class (down child (seen child) p)
    ++ (steps_at g at x local class (down child (seen child) p)
    ++ (sequence_below g at x (down child (seen child) p) (λ c. 0) below
    ++ (steps_at g at x synthesized class (down child (seen child) p)
    ++ sequence_below g at x p (one_more child seen) beside)))

-- the sequence of the pass of this place at a node, over the node and all below it
abbrev pub sequence_at : AttributeGrammar → Placing → SchedulePlace → Forest → Path → List Instance
sequence_at g at x t p =
    steps_at g at x local (class_at t p) p
    ++ (sequence_below g at x p (λ c. 0) (below_of (tree_at t p)) ++ steps_at g at x synthesized (class_at t p) p)

-- the sequence of the pass over the whole tree
abbrev pub sequence : AttributeGrammar → Placing → SchedulePlace → Forest → List Instance
sequence g at x t = sequence_at g at x t top
