-- The instances that the steps of an inorder pass compute.
use Rattle.std.proofs.Common.{◌≡◌, ℕ, suc, ◌+◌, ◌<◌, List, [], ◌∷◌, ◌++◌, map, refl, sym, ◌∙◌, ap, ap₂, subst}
use Rattle.std.proofs.lemmas.List.{map-append}
use Rattle.ftl_model.specs.layout.AttributeGrammar.{AttributeGrammar, inherited, local, synthesized}
use Rattle.ftl_model.specs.layout.Path.{Has, Path, at as tree_at, class_at, down, number_of, one_more, top}
use Rattle.ftl_model.specs.layout.Solves.{Instance}
use Rattle.ftl_model.specs.layout.Tree.{Forest, IsTree, below_of, class_of, none, size, tree}
use Rattle.ftl_model.specs.layout.TreeOf.{FitBelow, IsTreeOf}
use Rattle.ftl_model.proofs.layout.Fits.{fits_at}
use Rattle.ftl_model.proofs.layout.Numbering.{Left, at-left, left_all, left_below, left_next}
use Rattle.ftl_model.proofs.layout.Standing.{node_at-number_of}
use Rattle.ftl_order.specs.orders.Lawful.{IsLawful}
use Rattle.ftl_order.specs.orders.Schedule.{Placing, Schedule, SchedulePlace, pass_at, placing_of}
use Rattle.ftl_order.specs.orders.Sequence.{sequence, sequence_at, sequence_below, steps_at}
use Rattle.ftl_order.proofs.orders.Kids.{kid_counted, root_there}
use Rattle.ftl_items.specs.stage_items.Items.{pass_place}
use Rattle.ftl_order.specs.steps.Steps.{rule_at, target_of, target_of_rule}
use Rattle.ftl_order.specs.declared.steps.step.Step.{Step}
use Rattle.ftl_visit.specs.visits.Visits.{inherited_rules, locals, synthesized_rules}
use Rattle.ftl_visit.specs.declared.visits.visit_op.VisitOp.{VisitOp}
use Rattle.ftl_visit.specs.declared.visits.visit_op.VisitOp.TheVariants.{Begin, Rule, Visit}
use Rattle.ftl_cursors.specs.inorder.InorderSteps.{inorder_steps, steps_below, steps_of_ops}
use Rattle.ftl_cursors.specs.inorder.InorderVisits.{targets}
use Rattle.ftl_cursors.proofs.inorder.KeyedLists.{OwnsPass}
use Rattle.ftl_cursors.proofs.inorder.SequenceVisits.{inherited_targets, local_targets, synthesized_targets}

-- the instances of operations at a node
targets_are : (g : AttributeGrammar) (t : Forest) (p : Path) → Has t p → (k : ℕ) (ops : List VisitOp)
    → map (target_of g t) (steps_of_ops (number_of t p) k ops) ≡ targets g p k ops
targets_are g t p there k [] = refl
targets_are g t p there k (Rule r ∷ ops) =
    ap₂ (λ i is. i ∷ is) (ap (λ q. target_of_rule q (rule_at g r) k) (node_at-number_of t p there))
    (targets_are g t p there k ops)
targets_are g t p there k (Begin c ∷ ops) = targets_are g t p there k ops
targets_are g t p there k (Visit c ∷ ops) = targets_are g t p there k ops

module _ (g : AttributeGrammar) (law : IsLawful g) (s : Schedule) (stage pass : ℕ) (owns : OwnsPass g s stage pass)
    (t : Forest) (fits : IsTreeOf g t) where
  abbrev attributes : List ℕ
  attributes = (pass_at s stage pass).attributes

  abbrev place : Placing
  place = placing_of s

  abbrev here : SchedulePlace
  here = pass_place stage pass

  abbrev instances_of : List Step → List Instance
  instances_of xs = map (target_of g t) xs

  locals_at : (p : Path) → Has t p → (class : ℕ) → class_at t p ≡ class
      → instances_of (steps_of_ops (number_of t p) 0 (locals g class attributes)) ≡ steps_at g place here local class p
  locals_at p there class is =
      subst
      (λ k. instances_of (steps_of_ops (number_of t p) 0 (locals g k attributes)) ≡ steps_at g place here local k p) is
      (targets_are g t p there 0 (locals g (class_at t p) attributes)
      ∙ local_targets g law s stage pass owns t fits p there)

  synthesized_at : (p : Path) → Has t p → (class : ℕ) → class_at t p ≡ class
      → instances_of (steps_of_ops (number_of t p) 0 (synthesized_rules g class attributes))
      ≡ steps_at g place here synthesized class p
  synthesized_at p there class is =
      subst
      (λ k. instances_of (steps_of_ops (number_of t p) 0 (synthesized_rules g k attributes))
      ≡ steps_at g place here synthesized k p)
      is
      (targets_are g t p there 0 (synthesized_rules g (class_at t p) attributes)
      ∙ synthesized_targets g law s stage pass owns t fits p there)

  inherited_at : (p : Path) → Has t p → (c k : ℕ) → c < g.child_count (class_at t p) → Has t (down c k p)
      → (class : ℕ) → class_at t (down c k p) ≡ class
      → instances_of (steps_of_ops (number_of t p) k (inherited_rules g (class_at t p) c attributes))
      ≡ steps_at g place here inherited class (down c k p)
  inherited_at p there c k declared kid class is =
      targets_are g t p there k (inherited_rules g (class_at t p) c attributes)
      ∙ inherited_targets g law s stage pass owns t fits p there c k declared
      (kid_counted c k (below_of (tree_at t p)) kid)
      ∙ ap (λ n. steps_at g place here inherited n (down c k p)) is

  five_parts : (a b c d e : List Step)
      → instances_of (a ++ (b ++ (c ++ (d ++ e))))
      ≡ instances_of a ++ (instances_of b ++ (instances_of c ++ (instances_of d ++ instances_of e)))
  five_parts a b c d e = simp map-append

  below : (f : Forest) (p : Path) (seen : ℕ → ℕ) (passed : ℕ) → Has t p → Left t p seen f passed
      → FitBelow g (class_at t p) f
      → instances_of (steps_below g t attributes p seen f) ≡ sequence_below g place here p seen f
  below none p seen passed there left fit = refl
  below (tree k d i b r) p seen passed there left fit =
      let q = down d (seen d) p in
      let is = at-left t p seen passed k d i b r left in
      let kid : Has t q = subst IsTree (sym is) tt in
      let class : class_at t q ≡ k = ap class_of is in
      let fit_below : FitBelow g (class_at t q) b = subst (λ n. FitBelow g n b) (sym class) fit.2 in
      five_parts (steps_of_ops (number_of t p) (seen d) (inherited_rules g (class_at t p) d attributes))
      (steps_of_ops (number_of t q) 0 (locals g k attributes))
      (steps_below g t attributes q (λ c. 0) b)
      (steps_of_ops (number_of t q) 0 (synthesized_rules g k attributes))
      (steps_below g t attributes p (one_more d seen) r)
      ∙ ap₂ (λ x y. x ++ y) (inherited_at p there d (seen d) fit.0.declared kid k class)
      (ap₂ (λ x y. x ++ y) (locals_at q kid k class)
      (ap₂ (λ x y. x ++ y)
      (below b q (λ c. 0) 0 kid (left_below t p seen passed k d i b r left) fit_below)
      (ap₂ (λ x y. x ++ y) (synthesized_at q kid k class)
      (below r p (one_more d seen) (passed + suc (size b)) there (left_next t p seen passed k d i b r left) fit.4))))

  three_parts : (a b c : List Step)
      → instances_of (a ++ (b ++ c)) ≡ instances_of a ++ (instances_of b ++ instances_of c)
  three_parts a b c = simp map-append

  pub steps_at_node : (p : Path) → Has t p
      → instances_of (inorder_steps g t attributes p) ≡ sequence_at g place here t p
  steps_at_node p there =
      three_parts (steps_of_ops (number_of t p) 0 (locals g (class_at t p) attributes))
      (steps_below g t attributes p (λ c. 0) (below_of (tree_at t p)))
      (steps_of_ops (number_of t p) 0 (synthesized_rules g (class_at t p) attributes))
      ∙ ap₂ (λ x y. x ++ y) (locals_at p there (class_at t p) refl)
      (ap₂ (λ x y. x ++ y)
      (below (below_of (tree_at t p)) p (λ c. 0) 0 there (left_all t p) (fits_at g t p fits there).below)
      (synthesized_at p there (class_at t p) refl))

  pub steps_of_pass : instances_of (inorder_steps g t attributes top) ≡ sequence g place here t
  steps_of_pass = steps_at_node top (root_there g t fits)
