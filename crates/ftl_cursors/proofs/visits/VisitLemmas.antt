-- The operations of the visits of a topdown or bottomup pass.
use Rattle.std.proofs.Common.{◌≡◌, ◌≢◌, ℕ, ◌+◌, ◌<◌, Bool, true, false, if◌then◌else◌, List, [], ◌∷◌, get_or, Contains, refl, sym, ◌∙◌, subst, ⊎_elim, arith}
use Rattle.std.specs.List.{range_with_len}
use Rattle.std.proofs.lemmas.List.FromFn.{get_or-map-range_with_len, length-map-range_with_len}
use Rattle.ftl_model.specs.lists.Lists.{is_listed}
use Rattle.ftl_model.proofs.lists.Elements.{flat_map_has, here_in, in_cases, in_filter, in_flat_map, in_range_from, nothing_in}
use Rattle.ftl_model.proofs.lists.Rising.{in_map}
use Rattle.ftl_model.specs.layout.AttributeGrammar.{AttributeGrammar, RuleName, Sort, attributes_of, for_child, for_self, inherited, input, local, synthesized}
use Rattle.ftl_order.specs.orders.Lawful.{IsLawful}
use Rattle.ftl_schedule.specs.declared.syntax.kind.PassKind.{PassKind}
use Rattle.ftl_schedule.specs.declared.syntax.kind.PassKind.TheVariants.{BottomUp, InOrder, TopDown}
use Rattle.ftl_items.specs.stage_items.Visits as items
use Rattle.ftl_order.specs.steps.Steps.{rule_at}
use Rattle.ftl_visit.specs.visits.Visits.{rules_by_key, visit_of}
use Rattle.ftl_visit.specs.declared.visits.visit_op.VisitOp.{VisitOp}
use Rattle.ftl_visit.specs.declared.visits.visit_op.VisitOp.TheVariants.{Rule}
use Rattle.ftl_visit.specs.passes.VisitRows.{visits_of}
use Rattle.ftl_cursors.specs.visit_steps.VisitLaws.{rules_run}
use Rattle.ftl_cursors.proofs.visit_steps.Runs.{ops_are_rules, runs_by_key}
use Rattle.ftl_cursors.specs.visits.VisitSteps.{AreVisits, IsOpOf, IsRuleOf}

-- the rules of a class are for its nodes, or for kids in its children
own_rules : (g : AttributeGrammar) (class a : ℕ) (w : RuleName) (b : Bool)
    → Contains (if b then for_self class a ∷ [] else []) w → IsRuleOf g class w
own_rules g class a w true there =
    ⊎_elim (λ same. subst (IsRuleOf g class) same refl) (λ later. absurd (nothing_in w later))
    (in_cases (for_self class a) w [] there)
own_rules g class a w false there = absurd (nothing_in w there)

rules_of_sort : (g : AttributeGrammar) (class : ℕ) (sort : Sort) (a : ℕ) (w : RuleName)
    → Contains (items.rules_for g class sort a) w → IsRuleOf g class w
rules_of_sort g class input a w there = absurd (nothing_in w there)
rules_of_sort g class inherited a w there =
    let m = in_map (λ c. for_child class c a) (items.children_with g class a) w there in
    let declared =
    in_filter (λ c. is_listed (g.shared (g.child_interface class c)) a) (range_with_len 0 (g.child_count class))
    m.from m.there in
    let below = (in_range_from 0 (g.child_count class) m.from declared.0).1 in
    subst (IsRuleOf g class) m.is (refl, (let z : m.from < g.child_count class = omega arith in z))
rules_of_sort g class synthesized a w there = own_rules g class a w (is_listed (attributes_of g class) a) there
rules_of_sort g class local a w there = own_rules g class a w (is_listed (attributes_of g class) a) there

pub rules_are_of : (g : AttributeGrammar) (class : ℕ) (attributes : List ℕ) (w : RuleName)
    → Contains (items.rules_by_key g attributes class) w → IsRuleOf g class w
rules_are_of g class attributes w there =
    let i = in_flat_map (λ a. items.rules_for g class (g.sort a) a) attributes w there in
    rules_of_sort g class (g.sort i.0) i.0 w i.2

-- the visit in a pass that is no inorder one
pub by_key : (g : AttributeGrammar) (kind : PassKind) → kind ≢ InOrder → (attributes : List ℕ) (class : ℕ)
    → visit_of g kind attributes class ≡ rules_by_key g class attributes
by_key g TopDown other attributes class = refl
by_key g BottomUp other attributes class = refl
by_key g InOrder other attributes class = absurd (other refl)

-- the visit of a class, in the list
pub visit_at : (g : AttributeGrammar) (kind : PassKind) (attributes : List ℕ) (class : ℕ) → class < g.class_count
    → get_or (visits_of g kind attributes) class [] ≡ visit_of g kind attributes class
visit_at g kind attributes class known =
    get_or-map-range_with_len (visit_of g kind attributes) 0 g.class_count class class [] known
    (let z : 0 + class ≡ class = omega arith in z)

module _ (g : AttributeGrammar) (law : IsLawful g) (class : ℕ) (known : class < g.class_count) where
  -- an operation is a rule of its class
  pub op_of : (attributes : List ℕ) (op : VisitOp) → Contains (rules_by_key g class attributes) op → IsOpOf g class op
  op_of attributes op there =
      let is = ops_are_rules g law class known attributes op there in
      let ops = rules_by_key g class attributes in
      let rule : Contains ops (Rule is.0) = subst (Contains ops) is.1 there in
      let run = flat_map_has (rules_run g) ops (Rule is.0) (rule_at g is.0) rule (here_in (rule_at g is.0) []) in
      subst (IsOpOf g class) (sym is.1) (
        is.2,
        rules_are_of g class attributes (rule_at g is.0)
            (subst (λ ws. Contains ws (rule_at g is.0)) (runs_by_key g law class known attributes) run),
      )

pub visits_of_classes : (g : AttributeGrammar) → IsLawful g → (kind : PassKind) → kind ≢ InOrder
    → (attributes : List ℕ) → AreVisits g (visits_of g kind attributes)
visits_of_classes g law kind other attributes =
    record {
      count = length-map-range_with_len (visit_of g kind attributes) 0 g.class_count;
      ops = λ class known op there.
          op_of g law class known attributes op
          (subst (λ ops. Contains ops op)
          (visit_at g kind attributes class known ∙ by_key g kind other attributes class) there);
    }
