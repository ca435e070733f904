-- The rules that the operations of an inorder visit run, kind by kind.
use Rattle.std.proofs.Common.{◌≡◌, ℕ, ◌<◌, ◌==◌, ◌&&◌, Bool, true, false, if◌then◌else◌, List, [], ◌∷◌, ◌++◌, filter, flat_map, get_or, map, Contains, Option, Some, None, refl, sym, ◌∙◌, ap, ap₂, subst, eqb-true, eq-eqb}
use Rattle.std.specs.Option.{option_map, option_to_list}
use Rattle.std.proofs.lemmas.Bool.{and_parts, false≢true}
use Rattle.std.proofs.lemmas.Grind.{flat_map-append}
use Rattle.std.proofs.lemmas.List.{append-nil}
use Rattle.std.proofs.lemmas.List.Elements.{Contains-get_or}
use Rattle.std.proofs.lemmas.List.Quantifiers.{position-Some}
use Rattle.ftl_model.specs.lists.Lists.{is_listed}
use Rattle.ftl_model.proofs.lists.Listed.{is_there, listed}
use Rattle.ftl_model.specs.layout.AttributeGrammar.{AttributeGrammar, RuleName, Sort, attributes_of, for_child, for_self, inherited, input, local, synthesized}
use Rattle.ftl_order.specs.orders.Lawful.{IsLawful}
use Rattle.ftl_order.specs.orders.Sequence.{is_same_sort}
use Rattle.ftl_order.specs.dependencies.Writers.{is_of_class}
use Rattle.ftl_order.proofs.dependencies.Places.{none_passes}
use Rattle.ftl_items.specs.stage_items.Visits as items
use Rattle.ftl_visit.specs.visits.Visits.{inherited_rule, inherited_rules, local_rule, locals, rule_in, rule_number, operations_for, synthesized_rule, synthesized_rules}
use Rattle.ftl_visit.specs.declared.visits.visit_op.VisitOp.{VisitOp}
use Rattle.ftl_visit.specs.declared.visits.visit_op.VisitOp.TheVariants.{Rule}
use Rattle.ftl_cursors.specs.visit_steps.VisitLaws.{rules_run}
use Rattle.ftl_cursors.proofs.visit_steps.Runs.{runs_by_key}
use Rattle.ftl_cursors.proofs.inorder.ListedRules.{is_kept}

-- the rule of each attribute of a kind, where it is among some
abbrev pub rule_for : (kept : Bool) → RuleName → List RuleName
rule_for true w = w ∷ []
rule_for false w = []

module _ (g : AttributeGrammar) where
  abbrev pub run : List VisitOp → List RuleName
  run ops = flat_map (rules_run g) ops

  -- attribute by attribute
  pub runs_listed : (sort : Sort) (among : List ℕ) (piece : Sort → ℕ → List VisitOp) (name : ℕ → RuleName)
      → ((a : ℕ) (so : Sort) → g.sort a ≡ so
      → run (piece so a) ≡ rule_for (is_same_sort so sort && is_listed among a) (name a))
      → (attributes : List ℕ)
      → run (flat_map (λ a. piece (g.sort a) a) attributes) ≡ map name (filter (is_kept g sort among) attributes)
  runs_listed sort among piece name one [] = refl
  runs_listed sort among piece name one (a ∷ attributes) =
      flat_map-append (rules_run g) (piece (g.sort a) a) (flat_map (λ b. piece (g.sort b) b) attributes)
      ∙ ap₂ (λ xs ys. xs ++ ys) (one a (g.sort a) refl) (runs_listed sort among piece name one attributes)
      ∙ (elim (is_kept g sort among a) as
      (λ b. rule_for b (name a) ++ map name (filter (is_kept g sort among) attributes)
      ≡ map name
      (if b then a ∷ filter (is_kept g sort among) attributes else filter (is_kept g sort among) attributes))
      [ true ↦ refl | false ↦ refl ])

  module _ (law : IsLawful g) (class : ℕ) (known : class < g.class_count) where
    as_rule_for : (b : Bool) (w : RuleName) → (if b then w ∷ [] else []) ≡ rule_for b w
    as_rule_for true w = refl
    as_rule_for false w = refl

    -- those of one attribute are those that a topdown visit of it alone runs
    alone : (a : ℕ) (so : Sort) → g.sort a ≡ so → run (operations_for g class so a) ≡ items.rules_for g class so a
    alone a so is =
        ap (λ w. run (operations_for g class w a)) (sym is)
        ∙ ap run (sym (append-nil (operations_for g class (g.sort a) a)))
        ∙ runs_by_key g law class known (a ∷ [])
        ∙ append-nil (items.rules_for g class (g.sort a) a)
        ∙ ap (λ w. items.rules_for g class w a) is

    local_runs : (a : ℕ) (so : Sort) → g.sort a ≡ so
        → run (local_rule g class so a)
        ≡ rule_for (is_same_sort so local && is_listed (attributes_of g class) a) (for_self class a)
    local_runs a input is = refl
    local_runs a inherited is = refl
    local_runs a synthesized is = refl
    local_runs a local is = alone a local is ∙ as_rule_for (is_listed (attributes_of g class) a) (for_self class a)

    synthesized_runs : (a : ℕ) (so : Sort) → g.sort a ≡ so
        → run (synthesized_rule g class so a)
        ≡ rule_for (is_same_sort so synthesized && is_listed (attributes_of g class) a) (for_self class a)
    synthesized_runs a input is = refl
    synthesized_runs a inherited is = refl
    synthesized_runs a local is = refl
    synthesized_runs a synthesized is =
        alone a synthesized is ∙ as_rule_for (is_listed (attributes_of g class) a) (for_self class a)

    pub runs_locals : (attributes : List ℕ)
        → run (locals g class attributes)
        ≡ map (for_self class) (filter (is_kept g local (attributes_of g class)) attributes)
    runs_locals = runs_listed local (attributes_of g class) (local_rule g class) (for_self class) local_runs

    pub runs_synthesized : (attributes : List ℕ)
        → run (synthesized_rules g class attributes)
        ≡ map (for_self class) (filter (is_kept g synthesized (attributes_of g class)) attributes)
    runs_synthesized =
        runs_listed synthesized (attributes_of g class) (synthesized_rule g class) (for_self class) synthesized_runs

    -- ---- those for the kids in a child

    kid_is : (c a : ℕ) (w : RuleName) → is_of_class class (Some c) a w ≡ true → w ≡ for_child class c a
    kid_is c a (for_self l b) h = absurd (false≢true h)
    kid_is c a (for_child l d b) h =
        let p = and_parts (class == l) (c == d && a == b) h in
        let q = and_parts (c == d) (a == b) p.1 in
        sym (ap (λ n. for_child n c a) (eqb-true class l p.0) ∙ ap₂ (for_child l) (eqb-true c d q.0) (eqb-true a b q.1))

    same_test : (n : ℕ) → (n == n) ≡ true
    same_test n = eq-eqb n n refl

    kid_passes : (c a : ℕ) → is_of_class class (Some c) a (for_child class c a) ≡ true
    kid_passes c a = ap₂ (λ x y. x && y) (same_test class) (ap₂ (λ x y. x && y) (same_test c) (same_test a))

    kid_there : (c a : ℕ) → Contains g.rules (for_child class c a)
        → run (rule_in g class (Some c) a) ≡ for_child class c a ∷ []
    kid_there c a h = by (rule_number g class (Some c) a) refl
      where
        by : (o : Option ℕ) → rule_number g class (Some c) a ≡ o
            → run (option_to_list (option_map Rule o)) ≡ for_child class c a ∷ []
        by (Some r) is =
            let at = position-Some (is_of_class class (Some c) a) g.rules r (for_self 0 0) is in
            ap (λ v. v ∷ []) (kid_is c a (get_or g.rules r (for_self 0 0)) at.1)
        by None is =
            absurd
            (none_passes (is_of_class class (Some c) a) g.rules is (for_child class c a) h (kid_passes c a))

    kid_gone : (c a : ℕ) → (Contains g.rules (for_child class c a) → ⊥) → run (rule_in g class (Some c) a) ≡ []
    kid_gone c a none = by (rule_number g class (Some c) a) refl
      where
        by : (o : Option ℕ) → rule_number g class (Some c) a ≡ o → run (option_to_list (option_map Rule o)) ≡ []
        by None is = refl
        by (Some r) is =
            let at = position-Some (is_of_class class (Some c) a) g.rules r (for_self 0 0) is in
            absurd
            (none
            (subst (Contains g.rules) (kid_is c a (get_or g.rules r (for_self 0 0)) at.1)
            (Contains-get_or g.rules r (for_self 0 0) at.0)))

    module _ (c : ℕ) (declared : c < g.child_count class) where
      abbrev shared : List ℕ
      shared = g.shared (g.child_interface class c)

      kid_runs : (a : ℕ) → g.sort a ≡ inherited
          → run (rule_in g class (Some c) a) ≡ rule_for (is_listed shared a) (for_child class c a)
      kid_runs a sort =
          elim (is_listed shared a) as
          (λ b. (is_listed shared a ≡ b)
          → run (rule_in g class (Some c) a) ≡ rule_for b (for_child class c a)) [
            | true ↦ λ e.
                kid_there c a (law.rules_have (for_child class c a) (known, declared, is_there shared a e, sort))
            | false ↦ λ e.
                kid_gone c a
                (λ h.
                let is = law.rules_are (for_child class c a) h in
                false≢true (sym e ∙ listed shared a is.2))
          ]
          refl

      inherited_runs : (a : ℕ) (so : Sort) → g.sort a ≡ so
          → run (inherited_rule g class c so a)
          ≡ rule_for (is_same_sort so inherited && is_listed shared a) (for_child class c a)
      inherited_runs a input is = refl
      inherited_runs a synthesized is = refl
      inherited_runs a local is = refl
      inherited_runs a inherited is = kid_runs a is

      pub runs_inherited : (attributes : List ℕ)
          → run (inherited_rules g class c attributes)
          ≡ map (for_child class c) (filter (is_kept g inherited shared) attributes)
      runs_inherited = runs_listed inherited shared (inherited_rule g class c) (for_child class c) inherited_runs
