-- Grammars that agree number by number have the same trees, and the same tables solve them.
use Rattle.std.proofs.Common.{◌≡◌, ◌↔◌, inl, inr, ℕ, ◌<◌, Bool, cond, refl, sym, ◌∙◌, ap, ap₂, subst, ⊎_elim, List, [], ◌∷◌, ◌++◌, length, get_or, filter, Contains, ℤ, pos}
use Rattle.std.proofs.lemmas.List.Elements.{Contains-append_cases}
use Rattle.ftl_model.specs.lists.Lists.{place_in}
use Rattle.ftl_model.proofs.lists.Elements.{here_in, later_in}
use Rattle.ftl_model.specs.layout.AttributeGrammar.{AttributeGrammar, RuleName, Sort, attributes_of, class_inputs, for_child, for_self, inherited, input, is_input, local, synthesized}
use Rattle.ftl_model.specs.layout.Path.{Has, Path, class_at, down, inputs_at, kids_at, top}
use Rattle.ftl_model.specs.layout.Solves.{Instance, IsInstance, Solves, equation_value, rule_named, seen_from}
use Rattle.ftl_model.specs.layout.Tree.{Forest, none, tree}
use Rattle.ftl_model.specs.layout.TreeOf.{AreInputs, FitBelow, FitsClass, IsTreeOf}
use Rattle.ftl_model.specs.layout.Values.{Value, number}
use Rattle.ftl_model.proofs.layout.Fits.{fits_at}
use Rattle.ftl_order.specs.orders.Lawful.{IsLawful, IsRule, OfClass, class_owner, interface_owner}
use Rattle.ftl_order.proofs.orders.Owners.{attribute_known}
use Rattle.ftl_order.proofs.orders.TreeEquations.{kid_rule, own_rule, root_inherits_nothing}
use Rattle.ftl_meaning.specs.grammars.Alike.{IsAlike}

-- two tests that agree on a list filter it alike
filter_same : {X : Type 0} (p q : X → Bool) (xs : List X) → ((x : X) → Contains xs x → p x ≡ q x)
    → filter p xs ≡ filter q xs
filter_same p q [] h = refl
filter_same p q (x ∷ xs) h =
    ap₂ (λ b ys. cond b (x ∷ ys) ys) (h x (here_in x xs)) (filter_same p q xs (λ y c. h y (later_in x y xs c)))

-- what trees ask of a grammar is the same in both
record Agree (g h : AttributeGrammar) : Type 0 where
  greatest : g.greatest ≡ h.greatest
  root : g.root ≡ h.root
  classes : g.class_count ≡ h.class_count
  interface : (k : ℕ) → k < g.class_count → g.interface k ≡ h.interface k
  children : (k : ℕ) → k < g.class_count → g.child_count k ≡ h.child_count k
  child_interface :
      (k c : ℕ) → k < g.class_count → c < g.child_count k → g.child_interface k c ≡ h.child_interface k c
  is_list : (k c : ℕ) → k < g.class_count → c < g.child_count k → g.is_list k c ≡ h.is_list k c
  inputs : (k : ℕ) → k < g.class_count → class_inputs g k ≡ class_inputs h k

-- agreement goes both ways
turned : (g h : AttributeGrammar) → Agree g h → Agree h g
turned g h agree =
    record {
      greatest = sym agree.greatest;
      root = sym agree.root;
      classes = sym agree.classes;
      interface = λ k known. sym (agree.interface k (back k known));
      children = λ k known. sym (agree.children k (back k known));
      child_interface = λ k c known below. sym (agree.child_interface k c (back k known) (down_to k c known below));
      is_list = λ k c known below. sym (agree.is_list k c (back k known) (down_to k c known below));
      inputs = λ k known. sym (agree.inputs k (back k known));
    }
  where
    back : (k : ℕ) → k < h.class_count → k < g.class_count
    back k known = subst (λ n. k < n) (sym agree.classes) known

    down_to : (k c : ℕ) → k < h.class_count → c < h.child_count k → c < g.child_count k
    down_to k c known below = subst (λ n. c < n) (sym (agree.children k (back k known))) below

module _ (g h : AttributeGrammar) (agree : Agree g h) where
  -- a node of a class of one is a node of that class in the other
  fits_class : (k : ℕ) (inputs : List ℤ) (below : Forest) → FitsClass g k inputs below → FitsClass h k inputs below
  fits_class k inputs below fits =
      record {
        known = subst (λ n. k < n) agree.classes fits.known;
        count = fits.count ∙ ap length (agree.inputs k fits.known);
        numbers = subst (λ w. AreInputs w inputs) agree.greatest fits.numbers;
        singles =
            λ c declared one.
            let there = subst (λ n. c < n) (sym (agree.children k fits.known)) declared in
            fits.singles c there (agree.is_list k c fits.known there ∙ one);
      }

  -- and so are the trees below it
  fit_below : (above : ℕ) → above < g.class_count → (f : Forest) → FitBelow g above f → FitBelow h above f
  fit_below above known none fits = tt
  fit_below above known (tree class child inputs below beside) fits = (
    record {
      declared = subst (λ n. child < n) (agree.children above known) fits.0.declared;
      interface =
          sym (agree.interface class fits.1.known) ∙ fits.0.interface
          ∙ agree.child_interface above child known fits.0.declared;
    },
    fits_class class inputs below fits.1,
    fit_below class fits.1.known below fits.2,
    fits.3,
    fit_below above known beside fits.4,
  )

  -- a tree of one is a tree of the other
  tree_in : (t : Forest) → IsTreeOf g t → IsTreeOf h t
  tree_in none fits = fits
  tree_in (tree class child inputs below beside) fits = (
    sym (agree.interface class fits.1.known) ∙ fits.0 ∙ agree.root,
    fits_class class inputs below fits.1,
    fit_below class fits.1.known below fits.2,
    fits.3,
    fits.4,
  )

module _ (g h : AttributeGrammar) (law : IsLawful g) (alike : IsAlike g h) where
  -- each class has the same attributes in both
  same_attributes : (k : ℕ) → k < g.class_count → attributes_of g k ≡ attributes_of h k
  same_attributes k known =
      ap₂ (λ (ns ms : List ℕ). ns ++ ms)
      (alike.shared (g.interface k) (law.interfaces_known k known) ∙ ap h.shared (alike.interface k known))
      (alike.private k known)

  -- of the same kinds
  same_sort : (k a : ℕ) → k < g.class_count → OfClass g k a → g.sort a ≡ h.sort a
  same_sort k a known of =
      alike.sort a
      (⊎_elim
      (λ shared. attribute_known g law (interface_owner (g.interface k)) a (law.interfaces_known k known, shared))
      (λ own. attribute_known g law (class_owner k) a (known, own))
      (Contains-append_cases (g.shared (g.interface k)) (g.private k) a of))

  -- and the same inputs
  same_inputs : (k : ℕ) → k < g.class_count → class_inputs g k ≡ class_inputs h k
  same_inputs k known =
      filter_same (λ a. is_input (g.sort a)) (λ a. is_input (h.sort a)) (attributes_of g k)
      (λ a of. ap is_input (same_sort k a known of))
      ∙ ap (filter (λ a. is_input (h.sort a))) (same_attributes k known)

  agree : Agree g h
  agree =
      record {
        greatest = alike.greatest;
        root = alike.root;
        classes = alike.class_count;
        interface = alike.interface;
        children = alike.child_count;
        child_interface = alike.child_interface;
        is_list = alike.is_list;
        inputs = same_inputs;
      }

  -- both have the same trees
  pub same_trees : (t : Forest) → IsTreeOf g t ↔ IsTreeOf h t
  same_trees t = (tree_in g h agree t, tree_in h g (turned g h agree) t)

  module _ (t : Forest) (fits : IsTreeOf g t) (s : Instance → Value) where
    class_known : (p : Path) → Has t p → class_at t p < g.class_count
    class_known p has = (fits_at g t p fits has).class.known

    same_rule : (w : RuleName) → IsRule g w → (p : Path) (n : ℕ)
        → (rule_named g w).value (kids_at t p) n (λ o. s (seen_from p o)) ≡ (rule_named h w).value (kids_at t p) n (λ o. s (seen_from p o))
    same_rule w rule p n = (alike.each_rule w (law.rules_have w rule)).value (kids_at t p) n (λ o. s (seen_from p o))

    by_sort : (sort : Sort) (p : Path) (a : ℕ) → g.sort a ≡ sort → Has t p → OfClass g (class_at t p) a
        → equation_value g t s sort p a ≡ equation_value h t s sort p a
    by_sort input p a is has of =
        ap (λ (ns : List ℕ). number (get_or (inputs_at t p) (place_in ns a) (pos 0)))
        (same_inputs (class_at t p) (class_known p has))
    by_sort inherited top a is has of = absurd (root_inherits_nothing g law t fits a has of is)
    by_sort inherited (down c k p) a is has of =
        same_rule (for_child (class_at t p) c a) (kid_rule g law t fits c k p a has of is) p k
    by_sort synthesized p a is has of =
        same_rule (for_self (class_at t p) a) (own_rule g t fits p a has of (inl is)) p 0
    by_sort local p a is has of =
        same_rule (for_self (class_at t p) a) (own_rule g t fits p a has of (inr is)) p 0

    same_equation : (i : Instance) → IsInstance g t i
        → equation_value g t s (g.sort i.attribute) i.node i.attribute ≡ equation_value h t s (h.sort i.attribute) i.node i.attribute
    same_equation i valid =
        by_sort (g.sort i.attribute) i.node i.attribute refl valid.0 valid.1
        ∙ ap (λ x. equation_value h t s x i.node i.attribute)
        (same_sort (class_at t i.node) i.attribute (class_known i.node valid.0) valid.1)

    instance_to : (i : Instance) → IsInstance g t i → IsInstance h t i
    instance_to i valid = (
      valid.0,
      subst (λ (ns : List ℕ). Contains ns i.attribute) (same_attributes (class_at t i.node) (class_known i.node valid.0)) valid.1,
    )

    instance_from : (i : Instance) → IsInstance h t i → IsInstance g t i
    instance_from i valid = (
      valid.0,
      subst (λ (ns : List ℕ). Contains ns i.attribute) (sym (same_attributes (class_at t i.node) (class_known i.node valid.0))) valid.1,
    )

    pub same_solutions : Solves g t s ↔ Solves h t s
    same_solutions = (
      (λ solves i valid. solves i (instance_from i valid) ∙ same_equation i (instance_from i valid)),
      (λ solves i valid. solves i (instance_to i valid) ∙ sym (same_equation i valid)),
    )
