-- The steps of an inorder pass are steps of the tree.
use Rattle.std.proofs.Common.{◌≡◌, ℕ, suc, ◌+◌, ◌<◌, List, [], ◌++◌, filter, flat_map, length, map, Contains, Some, refl, sym, ◌∙◌, ap, subst, ⊎_elim, arith}
use Rattle.std.specs.List.{range_with_len}
use Rattle.std.proofs.lemmas.List.Elements.{Contains-append_cases}
use Rattle.ftl_model.proofs.lists.Elements.{flat_map_has, here_in, in_cases, in_flat_map, nothing_in, range_has}
use Rattle.ftl_model.proofs.lists.Rising.{in_map}
use Rattle.ftl_model.specs.layout.AttributeGrammar.{AttributeGrammar, RuleName, Sort, attributes_of, for_child, for_self, inherited, input, local, synthesized}
use Rattle.ftl_model.specs.layout.Path.{Has, Path, at as tree_at, class_at, down, number_of, one_more, top}
use Rattle.ftl_model.specs.layout.Tree.{Forest, IsTree, below_of, class_of, none, size, tree}
use Rattle.ftl_model.specs.layout.TreeOf.{FitBelow, IsTreeOf}
use Rattle.ftl_model.proofs.layout.Fits.{fits_at}
use Rattle.ftl_model.proofs.layout.Numbering.{Left, at-left, left_all, left_below, left_next}
use Rattle.ftl_model.proofs.layout.Standing.{node_at-number_of, number_of-lt}
use Rattle.ftl_order.specs.orders.Lawful.{IsLawful, class_of_rule}
use Rattle.ftl_order.proofs.orders.Kids.{class_known, kid_counted, root_there}
use Rattle.ftl_order.specs.steps.Steps.{IsKidFor, IsStepOf, rule_at}
use Rattle.ftl_order.specs.declared.steps.step.Step.{Step}
use Rattle.ftl_visit.specs.visits.Visits.{inherited_rule, inherited_rules, local_rule, locals, rule_in, rules_by_key, operations_for, synthesized_rule, synthesized_rules}
use Rattle.ftl_visit.specs.declared.visits.visit_op.VisitOp.{VisitOp}
use Rattle.ftl_visit.specs.declared.visits.visit_op.VisitOp.TheVariants.{Rule}
use Rattle.ftl_cursors.specs.visit_steps.VisitLaws.{rules_run}
use Rattle.ftl_cursors.proofs.visit_steps.Runs.{ops_are_rules}
use Rattle.ftl_cursors.specs.inorder.InorderSteps.{inorder_steps, step_of, steps_below, steps_of_ops}
use Rattle.ftl_cursors.proofs.inorder.ListedRules.{is_kept}
use Rattle.ftl_cursors.proofs.inorder.RunRules.{run, runs_inherited, runs_locals, runs_synthesized}

-- what holds of the entries of two lists holds of the entries of both
both : {X : Type 0} (P : X → Type 0) (xs ys : List X) → ((x : X) → Contains xs x → P x)
    → ((x : X) → Contains ys x → P x) → (x : X) → Contains (xs ++ ys) x → P x
both P xs ys front back x there = ⊎_elim (front x) (back x) (Contains-append_cases xs ys x there)

module _ (g : AttributeGrammar) (law : IsLawful g) where
  -- the operation is a rule of the grammar, for a node of this class and a kid that passes
  pub record IsRuleFor (class : ℕ) (Kid : RuleName → Type 0) (op : VisitOp) : Type 0 where
    pub rule : ℕ
    pub is : op ≡ Rule rule
    pub known : rule < length g.rules
    pub of_class : class_of_rule (rule_at g rule) ≡ class
    pub kid : Kid (rule_at g rule)

  module _ (class : ℕ) (known : class < g.class_count) (attributes : List ℕ) where
    -- a rule of a visit in which the attributes are those of a list
    as_rule : (Kid : RuleName → Type 0) (ops : List VisitOp) (name : ℕ → RuleName) (kept : List ℕ)
        → ((a : ℕ) → (class_of_rule (name a) ≡ class) × Kid (name a))
        → run g ops ≡ map name kept
        → ((op : VisitOp) → Contains ops op → Contains (rules_by_key g class attributes) op)
        → (op : VisitOp) → Contains ops op → IsRuleFor class Kid op
    as_rule Kid ops name kept right runs among op there =
        let is = ops_are_rules g law class known attributes op (among op there) in
        let rule : Contains ops (Rule is.0) = subst (Contains ops) is.1 there in
        let ran = flat_map_has (rules_run g) ops (Rule is.0) (rule_at g is.0) rule (here_in (rule_at g is.0) []) in
        let m = in_map name kept (rule_at g is.0) (subst (λ ws. Contains ws (rule_at g is.0)) runs ran) in
        let fit = right m.from in
        record {
          rule = is.0;
          is = is.1;
          known = is.2;
          of_class = subst (λ w. class_of_rule w ≡ class) m.is fit.0;
          kid = subst Kid m.is fit.1;
        }

    -- the operations for single attributes are among those by key
    among_key : (piece : Sort → ℕ → List VisitOp)
        → ((so : Sort) (a : ℕ) (op : VisitOp) → Contains (piece so a) op → Contains (operations_for g class so a) op)
        → (op : VisitOp) → Contains (flat_map (λ a. piece (g.sort a) a) attributes) op
        → Contains (rules_by_key g class attributes) op
    among_key piece inside op there =
        let i = in_flat_map (λ a. piece (g.sort a) a) attributes op there in
        flat_map_has (λ a. operations_for g class (g.sort a) a) attributes i.0 op i.1 (inside (g.sort i.0) i.0 op i.2)

    local_inside : (so : Sort) (a : ℕ) (op : VisitOp) → Contains (local_rule g class so a) op
        → Contains (operations_for g class so a) op
    local_inside input a op h = h
    local_inside inherited a op h = absurd (nothing_in op h)
    local_inside synthesized a op h = absurd (nothing_in op h)
    local_inside local a op h = h

    synthesized_inside : (so : Sort) (a : ℕ) (op : VisitOp) → Contains (synthesized_rule g class so a) op
        → Contains (operations_for g class so a) op
    synthesized_inside input a op h = h
    synthesized_inside inherited a op h = absurd (nothing_in op h)
    synthesized_inside synthesized a op h = h
    synthesized_inside local a op h = absurd (nothing_in op h)

    inherited_inside : (c : ℕ) → c < g.child_count class → (so : Sort) (a : ℕ) (op : VisitOp)
        → Contains (inherited_rule g class c so a) op → Contains (operations_for g class so a) op
    inherited_inside c declared input a op h = h
    inherited_inside c declared synthesized a op h = absurd (nothing_in op h)
    inherited_inside c declared local a op h = absurd (nothing_in op h)
    inherited_inside c declared inherited a op h =
        flat_map_has (λ d. rule_in g class (Some d) a) (range_with_len 0 (g.child_count class)) c op
        (range_has 0 (g.child_count class) c (omega arith) (omega arith)) h

    pub locals_are : (Kid : RuleName → Type 0) → ((a : ℕ) → Kid (for_self class a))
        → (op : VisitOp) → Contains (locals g class attributes) op → IsRuleFor class Kid op
    locals_are Kid right =
        as_rule Kid (locals g class attributes) (for_self class)
        (filter (is_kept g local (attributes_of g class)) attributes)
        (λ a. (refl, right a)) (runs_locals g law class known attributes) (among_key (local_rule g class) local_inside)

    pub synthesized_are : (Kid : RuleName → Type 0) → ((a : ℕ) → Kid (for_self class a))
        → (op : VisitOp) → Contains (synthesized_rules g class attributes) op → IsRuleFor class Kid op
    synthesized_are Kid right =
        as_rule Kid (synthesized_rules g class attributes) (for_self class)
        (filter (is_kept g synthesized (attributes_of g class)) attributes)
        (λ a. (refl, right a)) (runs_synthesized g law class known attributes)
        (among_key (synthesized_rule g class) synthesized_inside)

    pub inherited_are : (c : ℕ) → c < g.child_count class → (Kid : RuleName → Type 0)
        → ((a : ℕ) → Kid (for_child class c a))
        → (op : VisitOp) → Contains (inherited_rules g class c attributes) op → IsRuleFor class Kid op
    inherited_are c declared Kid right =
        as_rule Kid (inherited_rules g class c attributes) (for_child class c)
        (filter (is_kept g inherited (g.shared (g.child_interface class c))) attributes)
        (λ a. (refl, right a)) (runs_inherited g law class known c declared attributes)
        (among_key (inherited_rule g class c) (inherited_inside c declared))

  module _ (t : Forest) (fits : IsTreeOf g t) (attributes : List ℕ) where
    -- the steps of such operations are steps of the tree
    steps_are : (p : Path) → Has t p → (class : ℕ) → class_at t p ≡ class → (k : ℕ) (ops : List VisitOp)
        → ((op : VisitOp) → Contains ops op → IsRuleFor class (λ w. IsKidFor t p w k) op)
        → (x : Step) → Contains (steps_of_ops (number_of t p) k ops) x → IsStepOf g t x
    steps_are p there class is k ops rules x among =
        let i = in_flat_map (step_of (number_of t p) k) ops x among in
        let r = rules i.0 i.1 in
        let here = node_at-number_of t p there in
        let one : Contains (step_of (number_of t p) k (Rule r.rule)) x =
        subst (λ op. Contains (step_of (number_of t p) k op) x) r.is i.2 in
        let made : Step = record { node = number_of t p; rule = r.rule; kid = k } in
        let step : IsStepOf g t made =
        record {
          node = (let less = number_of-lt t p there in let all = whole t fits in omega arith);
          rule = r.known;
          class = r.of_class ∙ sym is ∙ ap (class_at t) (sym here);
          kid = subst (λ q. IsKidFor t q (rule_at g r.rule) k) (sym here) r.kid;
        } in
        ⊎_elim (λ same. subst (IsStepOf g t) same step) (λ later. absurd (nothing_in x later)) (in_cases made x [] one)
      where
        whole : (f : Forest) → IsTreeOf g f → size f ≡ suc (size (below_of f))
        whole none h = absurd h
        whole (tree c d i b r) h = ap (λ f. suc (size b + size f)) h.4 ∙ (omega arith)

    own_locals : (p : Path) → Has t p → (class : ℕ) → class_at t p ≡ class → (x : Step)
        → Contains (steps_of_ops (number_of t p) 0 (locals g class attributes)) x → IsStepOf g t x
    own_locals p there class is =
        let known = subst (λ n. n < g.class_count) is (class_known g t fits p there) in
        steps_are p there class is 0 (locals g class attributes)
        (locals_are class known attributes (λ w. IsKidFor t p w 0) (λ a. refl))

    own_synthesized : (p : Path) → Has t p → (class : ℕ) → class_at t p ≡ class → (x : Step)
        → Contains (steps_of_ops (number_of t p) 0 (synthesized_rules g class attributes)) x → IsStepOf g t x
    own_synthesized p there class is =
        let known = subst (λ n. n < g.class_count) is (class_known g t fits p there) in
        steps_are p there class is 0 (synthesized_rules g class attributes)
        (synthesized_are class known attributes (λ w. IsKidFor t p w 0) (λ a. refl))

    for_kid : (p : Path) → Has t p → (c k : ℕ) → c < g.child_count (class_at t p) → Has t (down c k p) → (x : Step)
        → Contains (steps_of_ops (number_of t p) k (inherited_rules g (class_at t p) c attributes)) x → IsStepOf g t x
    for_kid p there c k declared kid =
        steps_are p there (class_at t p) refl k (inherited_rules g (class_at t p) c attributes)
        (inherited_are (class_at t p) (class_known g t fits p there) attributes c declared (λ w. IsKidFor t p w k)
        (λ a. kid_counted c k (below_of (tree_at t p)) kid))

    steps_are_below : (f : Forest) (p : Path) (seen : ℕ → ℕ) (passed : ℕ) → Has t p → Left t p seen f passed
        → FitBelow g (class_at t p) f
        → (x : Step) → Contains (steps_below g t attributes p seen f) x → IsStepOf g t x
    steps_are_below none p seen passed there left fit = λ x among. absurd (nothing_in x among)
    steps_are_below (tree k d i b r) p seen passed there left fit =
        let q = down d (seen d) p in
        let is = at-left t p seen passed k d i b r left in
        let kid : Has t q = subst IsTree (sym is) tt in
        let class : class_at t q ≡ k = ap class_of is in
        let fit_below : FitBelow g (class_at t q) b = subst (λ n. FitBelow g n b) (sym class) fit.2 in
        let P = IsStepOf g t in
        let first = steps_of_ops (number_of t p) (seen d) (inherited_rules g (class_at t p) d attributes) in
        let before = steps_of_ops (number_of t q) 0 (locals g k attributes) in
        let inner = steps_below g t attributes q (λ c. 0) b in
        let after = steps_of_ops (number_of t q) 0 (synthesized_rules g k attributes) in
        let rest = steps_below g t attributes p (one_more d seen) r in
        both P first (before ++ (inner ++ (after ++ rest))) (for_kid p there d (seen d) fit.0.declared kid)
        (both P before (inner ++ (after ++ rest)) (own_locals q kid k class)
        (both P inner (after ++ rest)
        (steps_are_below b q (λ c. 0) 0 kid (left_below t p seen passed k d i b r left) fit_below)
        (both P after rest (own_synthesized q kid k class)
        (steps_are_below r p (one_more d seen) (passed + suc (size b)) there (left_next t p seen passed k d i b r left)
        fit.4))))

    pub steps_at : (p : Path) → Has t p → (x : Step) → Contains (inorder_steps g t attributes p) x → IsStepOf g t x
    steps_at p there =
        let class = class_at t p in
        let before = steps_of_ops (number_of t p) 0 (locals g class attributes) in
        let inner = steps_below g t attributes p (λ c. 0) (below_of (tree_at t p)) in
        let after = steps_of_ops (number_of t p) 0 (synthesized_rules g class attributes) in
        both (IsStepOf g t) before (inner ++ after) (own_locals p there class refl)
        (both (IsStepOf g t) inner after
        (steps_are_below (below_of (tree_at t p)) p (λ c. 0) 0 there (left_all t p) (fits_at g t p fits there).below)
        (own_synthesized p there class refl))

    pub steps_of_tree : (x : Step) → Contains (inorder_steps g t attributes top) x → IsStepOf g t x
    steps_of_tree = steps_at top (root_there g t fits)
