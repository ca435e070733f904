-- Trees without rules have no steps in an inorder pass.
use Rattle.std.proofs.Common.{◌≡◌, ℕ, suc, ◌+◌, ◌<◌, ◌≤◌, false, List, [], ◌++◌, get_or, refl, sym, ◌∙◌, ap, ap₂, subst, arith}
use Rattle.ftl_model.specs.layout.AttributeGrammar.{AttributeGrammar}
use Rattle.ftl_model.specs.layout.Path.{Has, Path, at as tree_at, class_at, down, number_of, one_more, size_at}
use Rattle.ftl_model.specs.layout.Tree.{Forest, IsTree, below_of, class_of as class_first, none, size, tree}
use Rattle.ftl_model.specs.layout.TreeOf.{FitBelow, IsTreeOf}
use Rattle.ftl_model.proofs.layout.Fits.{fits_at}
use Rattle.ftl_model.proofs.layout.Numbering.{Left, at-left, left_all, left_below, left_next, number-left}
use Rattle.ftl_model.proofs.layout.Standing.{node_at-number_of}
use Rattle.ftl_order.proofs.orders.Kids.{class_known}
use Rattle.ftl_order.specs.declared.steps.step.Step.{Step}
use Rattle.ftl_schedule.specs.declared.syntax.kind.PassKind.TheVariants.{InOrder}
use Rattle.ftl_visit.specs.passes.VisitRows.{visits_of}
use Rattle.ftl_visit.specs.visits.Visits.{inherited_rules, locals, synthesized_rules}
use Rattle.ftl_visit.specs.declared.visits.visit_op.VisitOp.{VisitOp}
use Rattle.ftl_cursors.specs.classes.ClassSets.{class_of, has_rule}
use Rattle.ftl_cursors.specs.inorder.InorderSteps.{inorder_steps, steps_below, steps_of_ops}
use Rattle.ftl_cursors.proofs.sequence.CursorMoves.{visit_in}
use Rattle.ftl_cursors.proofs.sequence.RulelessVisits.{IsRuleless, class_ruleless}

pub both_none : (xs ys : List Step) → xs ≡ [] → ys ≡ [] → xs ++ ys ≡ []
both_none xs ys a b = ap₂ (λ (x y : List Step). x ++ y) a b

module _ (g : AttributeGrammar) (t : Forest) (fits : IsTreeOf g t) (attributes : List ℕ) where
  -- the class of the node of this number has no rule
  abbrev pub HasNone : (node : ℕ) → Type 0
  HasNone n = has_rule (get_or (visits_of g InOrder attributes) (class_of t n) []) ≡ false

  ruleless_at : (p : Path) → Has t p → HasNone (number_of t p) → IsRuleless g (class_at t p) attributes
  ruleless_at p there has =
      let all : List (List VisitOp) = visits_of g InOrder attributes in
      class_ruleless g (class_at t p) attributes
      (sym
      (ap (λ r. has_rule (get_or all (class_at t r) [])) (node_at-number_of t p there)
      ∙ ap has_rule (visit_in g attributes (class_at t p) (class_known g t fits p there)))
      ∙ has)

  no_steps_below : (f : Forest) (p : Path) (seen : ℕ → ℕ) (passed : ℕ) → Left t p seen f passed
      → FitBelow g (class_at t p) f → IsRuleless g (class_at t p) attributes
      → ((n : ℕ) → suc (number_of t p + passed) ≤ n → n < suc (number_of t p + passed) + size f → HasNone n)
      → steps_below g t attributes p seen f ≡ []
  no_steps_below none p seen passed left fit own each = refl
  no_steps_below (tree k d i b s) p seen passed left fit own each =
      let q = down d (seen d) p in
      let is = at-left t p seen passed k d i b s left in
      let number = number-left t p seen passed k d i b s left in
      let there : Has t q = subst IsTree (sym is) tt in
      let class : class_at t q ≡ k = ap class_first is in
      let kid =
      subst (λ n. IsRuleless g n attributes) class
      (ruleless_at q there (each (number_of t q) (omega (arith, number)) (omega (arith, number)))) in
      let inner =
      no_steps_below b q (λ c. 0) 0 (left_below t p seen passed k d i b s left)
      (subst (λ n. FitBelow g n b) (sym class) fit.2) (subst (λ n. IsRuleless g n attributes) (sym class) kid)
      (λ n low high. each n (omega (arith, number, low)) (omega (arith, number, high))) in
      let rest =
      no_steps_below s p (one_more d seen) (passed + suc (size b)) (left_next t p seen passed k d i b s left) fit.4 own
      (λ n low high. each n (omega (arith, low)) (omega (arith, high))) in
      let rules = steps_of_ops (number_of t p) (seen d) (inherited_rules g (class_at t p) d attributes) in
      let before = steps_of_ops (number_of t q) 0 (locals g k attributes) in
      let below = steps_below g t attributes q (λ c. 0) b in
      let after = steps_of_ops (number_of t q) 0 (synthesized_rules g k attributes) in
      let beside = steps_below g t attributes p (one_more d seen) s in
      both_none rules (before ++ (below ++ (after ++ beside)))
      (ap (steps_of_ops (number_of t p) (seen d)) (own.inherited d fit.0.declared))
      (both_none before (below ++ (after ++ beside)) (ap (steps_of_ops (number_of t q) 0) kid.local)
      (both_none below (after ++ beside) inner
      (both_none after beside (ap (steps_of_ops (number_of t q) 0) kid.synthesized) rest)))

  -- at a node and below it
  pub no_steps : (p : Path) → Has t p
      → ((n : ℕ) → number_of t p ≤ n → n < number_of t p + size_at t p → HasNone n)
      → inorder_steps g t attributes p ≡ []
  no_steps p there each =
      let own = ruleless_at p there (each (number_of t p) (omega arith) (omega arith)) in
      let f = below_of (tree_at t p) in
      let before = steps_of_ops (number_of t p) 0 (locals g (class_at t p) attributes) in
      let below = steps_below g t attributes p (λ c. 0) f in
      let after = steps_of_ops (number_of t p) 0 (synthesized_rules g (class_at t p) attributes) in
      both_none before (below ++ after) (ap (steps_of_ops (number_of t p) 0) own.local)
      (both_none below after
      (no_steps_below f p (λ c. 0) 0 (left_all t p) (fits_at g t p fits there).below own
      (λ n low high. each n (omega (arith, low)) (omega (arith, high))))
      (ap (steps_of_ops (number_of t p) 0) own.synthesized))
