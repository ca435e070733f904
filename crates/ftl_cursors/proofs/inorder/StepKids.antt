-- The steps of trees side by side, child by child and kid by kid.
use Rattle.std.proofs.Common.{◌≡◌, ℕ, List, ◌++◌, flat_map, refl, sym, ◌∙◌, ap, append_assoc}
use Rattle.ftl_model.specs.layout.AttributeGrammar.{AttributeGrammar}
use Rattle.ftl_model.specs.layout.Path.{Has, Path, at as tree_at, class_at, down, number_of, one_more}
use Rattle.ftl_model.specs.layout.Tree.{Forest, below_of, class_of}
use Rattle.ftl_model.specs.layout.TreeOf.{IsTreeOf}
use Rattle.ftl_model.proofs.layout.Numbering.{at-left}
use Rattle.ftl_order.specs.declared.steps.step.Step.{Step}
use Rattle.ftl_visit.specs.visits.Visits.{children, inherited_rules, locals, synthesized_rules}
use Rattle.ftl_cursors.specs.inorder.InorderSteps.{child_steps, inorder_steps, kid_steps, steps_below, steps_of_ops}
use Rattle.ftl_cursors.proofs.inorder.KidByKid.{kid_by_kid}

module _ (g : AttributeGrammar) (t : Forest) (attributes : List ℕ) (p : Path) where
  -- what is done for a kid, by what stands there
  abbrev kid_part : (c k : ℕ) → Forest → List Step
  kid_part c k f =
      steps_of_ops (number_of t p) k (inherited_rules g (class_at t p) c attributes)
      ++ (steps_of_ops (number_of t (down c k p)) 0 (locals g (class_of f) attributes)
      ++ (steps_below g t attributes (down c k p) (λ c. 0) (below_of f)
      ++ steps_of_ops (number_of t (down c k p)) 0 (synthesized_rules g (class_of f) attributes)))

  regroup : (a b c d e : List Step) → a ++ (b ++ (c ++ (d ++ e))) ≡ (a ++ (b ++ (c ++ d))) ++ e
  regroup a b c d e = simp append_assoc

  below_kid_by_kid : IsTreeOf g t → Has t p
      → steps_below g t attributes p (λ c. 0) (below_of (tree_at t p))
      ≡ flat_map (child_steps g t attributes p) (children g (class_at t p))
  below_kid_by_kid fits there =
      kid_by_kid g t p (steps_below g t attributes p) (kid_steps g t attributes p) (λ seen. refl)
      (λ seen passed k d i b s left.
      let q = down d (seen d) p in
      regroup (steps_of_ops (number_of t p) (seen d) (inherited_rules g (class_at t p) d attributes))
      (steps_of_ops (number_of t q) 0 (locals g k attributes)) (steps_below g t attributes q (λ c. 0) b)
      (steps_of_ops (number_of t q) 0 (synthesized_rules g k attributes))
      (steps_below g t attributes p (one_more d seen) s)
      ∙ ap (λ f. kid_part d (seen d) f ++ steps_below g t attributes p (one_more d seen) s)
      (sym (at-left t p seen passed k d i b s left)))
      fits there

-- at a node, child by child
pub steps_kid_by_kid : (g : AttributeGrammar) (t : Forest) → IsTreeOf g t → (attributes : List ℕ) (p : Path) → Has t p
    → inorder_steps g t attributes p
    ≡ steps_of_ops (number_of t p) 0 (locals g (class_at t p) attributes)
    ++ (flat_map (child_steps g t attributes p) (children g (class_at t p))
    ++ steps_of_ops (number_of t p) 0 (synthesized_rules g (class_at t p) attributes))
steps_kid_by_kid g t fits attributes p there =
    ap
    (λ xs. steps_of_ops (number_of t p) 0 (locals g (class_at t p) attributes)
    ++ (xs ++ steps_of_ops (number_of t p) 0 (synthesized_rules g (class_at t p) attributes)))
    (below_kid_by_kid g t attributes p fits there)
