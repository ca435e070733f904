-- What the operations of a visit run.
use Rattle.std.proofs.Common.{◌≡◌, ℕ, ◌<◌, true, false, if◌then◌else◌, List, [], ◌∷◌, ◌++◌, flat_map, filter, map, get_or, Contains, Option, Some, None, refl, sym, ◌∙◌, ap, ap₂, subst, inl, inr, ⊎_elim, arith}
use Rattle.std.specs.Option.{option_map, option_to_list}
use Rattle.std.proofs.lemmas.Bool.{false≢true}
use Rattle.std.proofs.lemmas.Grind.{flat_map-append}
use Rattle.std.proofs.lemmas.List.Elements.{Contains-get_or}
use Rattle.std.proofs.lemmas.List.Quantifiers.{position-Some}
use Rattle.ftl_model.specs.lists.Lists.{is_listed}
use Rattle.ftl_model.proofs.lists.Elements.{here_in, in_cases, in_flat_map, in_range_from, later_in, nothing_in}
use Rattle.ftl_model.proofs.lists.Listed.{is_there, listed}
use Rattle.ftl_model.specs.layout.AttributeGrammar.{AttributeGrammar, RuleName, Sort, attributes_of, for_child, for_self, inherited, input, local, synthesized}
use Rattle.ftl_order.specs.orders.Lawful.{IsLawful, IsOwnSort}
use Rattle.ftl_order.specs.dependencies.Writers.{is_of_class}
use Rattle.ftl_order.proofs.dependencies.ClassRules.{kid_is, kid_passes, own_is, own_passes}
use Rattle.ftl_order.proofs.dependencies.Places.{none_passes}
use Rattle.ftl_items.specs.stage_items.Visits as items
use Rattle.ftl_visit.specs.visits.Visits.{children, rule_in, rule_number, rules_by_key, operations_for}
use Rattle.ftl_visit.specs.declared.visits.visit_op.VisitOp.{VisitOp}
use Rattle.ftl_visit.specs.declared.visits.visit_op.VisitOp.TheVariants.{Rule}
use Rattle.ftl_cursors.specs.visit_steps.VisitLaws.{IsRuleOp, rules_run}

module _ (g : AttributeGrammar) (law : IsLawful g) (class : ℕ) (known : class < g.class_count) where
  abbrev run : List VisitOp → List RuleName
  run ops = flat_map (rules_run g) ops

  -- a rule stands where its test passes first
  module _ (child : Option ℕ) (a : ℕ) (w : RuleName) (only : (v : RuleName) → is_of_class class child a v ≡ true →
      v ≡ w)
      (passes : is_of_class class child a w ≡ true) where
    there : Contains g.rules w → run (rule_in g class child a) ≡ w ∷ []
    there h = by (rule_number g class child a) refl
      where
        by : (o : Option ℕ) → rule_number g class child a ≡ o → run (option_to_list (option_map Rule o)) ≡ w ∷ []
        by (Some r) is =
            let at = position-Some (is_of_class class child a) g.rules r (for_self 0 0) is in
            ap (λ v. v ∷ []) (only (get_or g.rules r (for_self 0 0)) at.1)
        by None is = absurd (none_passes (is_of_class class child a) g.rules is w h passes)

    gone : (Contains g.rules w → ⊥) → run (rule_in g class child a) ≡ []
    gone none = by (rule_number g class child a) refl
      where
        by : (o : Option ℕ) → rule_number g class child a ≡ o → run (option_to_list (option_map Rule o)) ≡ []
        by None is = refl
        by (Some r) is =
            let at = position-Some (is_of_class class child a) g.rules r (for_self 0 0) is in
            absurd
            (none
            (subst (Contains g.rules) (only (get_or g.rules r (for_self 0 0)) at.1)
            (Contains-get_or g.rules r (for_self 0 0) at.0)))

  -- an operation is a rule of the grammar
  in_rule : (child : Option ℕ) (a : ℕ) (op : VisitOp) → Contains (rule_in g class child a) op → IsRuleOp g op
  in_rule child a op h = by (rule_number g class child a) refl h
    where
      by : (o : Option ℕ) → rule_number g class child a ≡ o → Contains (option_to_list (option_map Rule o)) op
          → IsRuleOp g op
      by None is h = absurd (nothing_in op h)
      by (Some r) is h =
          ⊎_elim
          (λ same.
          (r, sym same, (position-Some (is_of_class class child a) g.rules r (for_self 0 0) is).0))
          (λ later. absurd (nothing_in op later)) (in_cases (Rule r) op [] h)

  runs_own : (a : ℕ) → IsOwnSort (g.sort a)
      → run (rule_in g class None a) ≡ (if is_listed (attributes_of g class) a then for_self class a ∷ [] else [])
  runs_own a own =
      elim (is_listed (attributes_of g class) a) as
      (λ b. (is_listed (attributes_of g class) a ≡ b)
      → run (rule_in g class None a) ≡ (if b then for_self class a ∷ [] else [])) [
        | true ↦ λ e.
            there None a (for_self class a) (own_is class a) (own_passes class a)
            (law.rules_have (for_self class a) (known, is_there (attributes_of g class) a e, own))
        | false ↦ λ e.
            gone None a (for_self class a) (own_is class a) (own_passes class a)
            (λ h.
            let is = law.rules_are (for_self class a) h in
            false≢true (sym e ∙ listed (attributes_of g class) a is.1))
      ]
      refl

  -- the attributes of the interface of the kids in a child
  abbrev shared : ℕ → List ℕ
  shared c = g.shared (g.child_interface class c)

  runs_kid : (c a : ℕ) → c < g.child_count class → g.sort a ≡ inherited
      → run (rule_in g class (Some c) a) ≡ (if is_listed (shared c) a then for_child class c a ∷ [] else [])
  runs_kid c a within sort =
      elim (is_listed (shared c) a) as
      (λ b. (is_listed (shared c) a ≡ b)
      → run (rule_in g class (Some c) a) ≡ (if b then for_child class c a ∷ [] else [])) [
        | true ↦ λ e.
            there (Some c) a (for_child class c a) (kid_is class c a) (kid_passes class c a)
            (law.rules_have (for_child class c a) (known, within, is_there (shared c) a e, sort))
        | false ↦ λ e.
            gone (Some c) a (for_child class c a) (kid_is class c a) (kid_passes class c a)
            (λ h.
            let is = law.rules_are (for_child class c a) h in
            false≢true (sym e ∙ listed (shared c) a is.2))
      ]
      refl

  runs_kids : (a : ℕ) → g.sort a ≡ inherited → (cs : List ℕ) → ((c : ℕ) → Contains cs c → c < g.child_count class)
      → run (flat_map (λ c. rule_in g class (Some c) a) cs)
      ≡ map (λ c. for_child class c a) (filter (λ c. is_listed (shared c) a) cs)
  runs_kids a sort [] below = refl
  runs_kids a sort (c ∷ cs) below =
      flat_map-append (rules_run g) (rule_in g class (Some c) a) (flat_map (λ c. rule_in g class (Some c) a) cs)
      ∙ ap₂ (λ xs ys. xs ++ ys) (runs_kid c a (below c (here_in c cs)) sort)
      (runs_kids a sort cs (λ d h. below d (later_in c d cs h)))
      ∙ (elim (is_listed (shared c) a) as
      (λ b. (if b then for_child class c a ∷ [] else [])
      ++ map (λ c. for_child class c a) (filter (λ c. is_listed (shared c) a) cs)
      ≡ map (λ c. for_child class c a)
      (if b then c ∷ filter (λ c. is_listed (shared c) a) cs else filter (λ c. is_listed (shared c) a) cs))
      [ true ↦ refl | false ↦ refl ])

  in_children : (c : ℕ) → Contains (children g class) c → c < g.child_count class
  in_children c h = (let e = (in_range_from 0 (g.child_count class) c h).1 in omega (arith, e))

  runs_for : (sort : Sort) (a : ℕ) → g.sort a ≡ sort
      → run (operations_for g class sort a) ≡ items.rules_for g class sort a
  runs_for input a is = refl
  runs_for inherited a is = runs_kids a is (children g class) in_children
  runs_for synthesized a is = runs_own a (inl is)
  runs_for local a is = runs_own a (inr is)

  -- the rules of a list run as the items have them
  pub runs_by_key : (attributes : List ℕ)
      → run (rules_by_key g class attributes) ≡ items.rules_by_key g attributes class
  runs_by_key [] = refl
  runs_by_key (a ∷ attributes) =
      flat_map-append (rules_run g) (operations_for g class (g.sort a) a) (rules_by_key g class attributes)
      ∙ ap₂ (λ xs ys. xs ++ ys) (runs_for (g.sort a) a refl) (runs_by_key attributes)

  op_for : (sort : Sort) (a : ℕ) (op : VisitOp) → Contains (operations_for g class sort a) op → IsRuleOp g op
  op_for input a op h = absurd (nothing_in op h)
  op_for inherited a op h =
      let i = in_flat_map (λ c. rule_in g class (Some c) a) (children g class) op h in
      in_rule (Some i.0) a op i.2
  op_for synthesized a op h = in_rule None a op h
  op_for local a op h = in_rule None a op h

  -- and there is nothing else
  pub ops_are_rules : (attributes : List ℕ) (op : VisitOp) → Contains (rules_by_key g class attributes) op
      → IsRuleOp g op
  ops_are_rules attributes op h =
      let i = in_flat_map (λ a. operations_for g class (g.sort a) a) attributes op h in
      op_for (g.sort i.0) i.0 op i.2
