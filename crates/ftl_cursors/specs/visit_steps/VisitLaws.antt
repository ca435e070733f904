-- What the operations of a visit run: the rules that the items of a stage have.
use Rattle.std.specs.Prelude.{◌≡◌, ℕ, ◌<◌, List, [], ◌∷◌, flat_map, length, slice_index_or, Contains}
use Rattle.ftl_model.specs.layout.AttributeGrammar.{AttributeGrammar, RuleName, for_self}
use Rattle.ftl_order.specs.orders.Lawful.{IsLawful}
use Rattle.ftl_items.specs.stage_items.Visits.{rules_by_key}
use Rattle.ftl_schedule.specs.declared.syntax.kind.PassKind.TheVariants.{TopDown, BottomUp}
use Rattle.ftl_visit.specs.visits.Visits.{visit_of}
use Rattle.ftl_visit.specs.declared.visits.visit_op.VisitOp.{VisitOp}
use Rattle.ftl_visit.specs.declared.visits.visit_op.VisitOp.TheVariants.{Rule, Begin, Visit}

-- the rule that an operation runs; none where it begins or visits a kid
abbrev pub rules_run : AttributeGrammar → VisitOp → List RuleName
rules_run g (Rule r) = slice_index_or g.rules r (for_self 0 0) ∷ []
rules_run g (Begin c) = []
rules_run g (Visit c) = []

-- the operation runs a rule of the grammar
abbrev pub IsRuleOp : AttributeGrammar → VisitOp → Type 0
IsRuleOp g op = (r : ℕ) × (op ≡ Rule r) × (r < length g.rules)

-- of each class of a lawful grammar, and each list of attributes
abbrev pub OfClasses : (AttributeGrammar → (class : ℕ) → (attributes : List ℕ) → Type 0) → Type 0
OfClasses P =
    (g : AttributeGrammar) → IsLawful g → (class : ℕ) → class < g.class_count → (attributes : List ℕ)
    → P g class attributes

-- a topdown visit runs the rules of its class by key
abbrev pub TopdownRunsByKey : AttributeGrammar → (class : ℕ) → (attributes : List ℕ) → Type 0
TopdownRunsByKey g class attributes =
    flat_map (rules_run g) (visit_of g TopDown attributes class) ≡ rules_by_key g attributes class

-- and a bottomup visit does
abbrev pub BottomupRunsByKey : AttributeGrammar → (class : ℕ) → (attributes : List ℕ) → Type 0
BottomupRunsByKey g class attributes =
    flat_map (rules_run g) (visit_of g BottomUp attributes class) ≡ rules_by_key g attributes class

-- and they have no other operations
abbrev pub RunsRulesAlone : AttributeGrammar → (class : ℕ) → (attributes : List ℕ) → Type 0
RunsRulesAlone g class attributes =
    (op : VisitOp) → Contains (visit_of g TopDown attributes class) op → IsRuleOp g op
