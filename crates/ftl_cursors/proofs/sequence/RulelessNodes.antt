-- Nodes whose classes have no rules, as the tables tell them, and what has no steps there.
use Rattle.std.proofs.Common.{◌≡◌, ℕ, ◌+◌, ◌*◌, ◌/◌, ◌<◌, ◌≤◌, true, false, bit_and, List, [], get_or, refl, sym, ◌∙◌, ap, subst, inl, inr, arith}
use Rattle.std.proofs.lemmas.Bool.{cases_eq, cases_lt}
use Rattle.ftl_cursors.specs.classes.ClassSets.{HasClass, block_of, class_of, has_rule}
use Rattle.ftl_cursors.specs.inorder.InorderSteps.{inorder_steps, steps_of_ops}
use Rattle.ftl_cursors.specs.sequence.Places.{grammar_of, node_of, tree_of}
use Rattle.ftl_cursors.specs.sequence.SparsePlaces.{AreKnown, AreSparseTables, HasNoKidRules, HasNoRule, HaveNoRulesIn, HaveNoSteps}
use Rattle.ftl_cursors.specs.declared.sequence.ruleless.RulelessNodes.{RulelessNodes}
use Rattle.ftl_cursors.specs.declared.sequence.ruleless.SparseTables.{SparseTables}
use Rattle.ftl_cursors.proofs.classes.SetLemmas.{none_in_both}
use Rattle.ftl_cursors.proofs.sequence.Above.{size_few}
use Rattle.ftl_cursors.proofs.sequence.KidOrder.{ends_before}
use Rattle.ftl_cursors.proofs.sequence.RulelessTrees.{both_none, no_steps}
use Rattle.ftl_model.specs.layout.AttributeGrammar.{AttributeGrammar}
use Rattle.ftl_model.specs.layout.Path.{Has, Path, at as tree_at, class_at, down, kids_at, number_of, size_at}
use Rattle.ftl_model.specs.layout.Tree.{Forest, below_of}
use Rattle.ftl_model.specs.layout.TreeOf.{IsTreeOf}
use Rattle.ftl_order.proofs.orders.Kids.{kid_exists}
use Rattle.ftl_tree.proofs.rows.Access.{size-one}
use Rattle.ftl_visit.specs.visits.Visits.{inherited_rules}
use Rattle.ftl_visit.specs.declared.visits.visit_op.VisitOp.{VisitOp}

module _ (x : SparseTables) where
  -- no nodes have no rules
  pub none_ruleless : (n : ℕ) → HaveNoRulesIn x n n
  none_ruleless n m low high known = absurd (let z : ⊥ = omega (arith, low, high) in z)

  -- nor have no kids steps
  pub none_passed : (node child kid : ℕ) → HaveNoSteps x node child kid kid
  none_passed node child kid k low high there = absurd (let z : ⊥ = omega (arith, low, high) in z)

  -- nodes without rules, and those behind them
  pub more_ruleless : (first middle end : ℕ) → HaveNoRulesIn x first middle → HaveNoRulesIn x middle end
      → HaveNoRulesIn x first end
  more_ruleless first middle end front back n low high known =
      elim (cases_lt n middle) [
        | inl before ↦ front n low before known
        | inr behind ↦ back n behind high known
      ]

module _ (x : SparseTables) (are : AreSparseTables x) where
  abbrev g : AttributeGrammar
  g = grammar_of x.all

  abbrev t : Forest
  t = tree_of x.all

  abbrev a : List ℕ
  a = x.all.attrs.now

  -- a class of a set that has no class with rules
  ruleless_class : (set class : ℕ) → HasClass set class → bit_and set x.ruled ≡ 0
      → has_rule (get_or x.all.visits.now class []) ≡ false
  ruleless_class set class has none =
      elim (has_rule (get_or x.all.visits.now class [])) as
      (λ b. has_rule (get_or x.all.visits.now class []) ≡ b → b ≡ false) [
        | true ↦ λ e. absurd (none_in_both set x.ruled class none has (are.ruled class e))
        | false ↦ λ e. refl
      ]
      refl

  -- the nodes of such a block from one on
  pub block_ruleless : (node : ℕ) → bit_and (get_or x.blocks.now (node / 64) 0) x.ruled ≡ 0
      → HaveNoRulesIn x node ((node / 64 + 1) * 64)
  block_ruleless node none n low high known =
      ruleless_class (get_or x.blocks.now (block_of n) 0) (class_of t n) (are.blocks.classes n known)
      (ap (λ m. bit_and (get_or x.blocks.now m 0) x.ruled)
      (let z : n / 64 ≡ node / 64 = omega (arith, low, high) in z)
      ∙ none)

  -- such a node
  pub one_ruleless : (node set : ℕ) → HasClass set (class_of t node) → bit_and set x.ruled ≡ 0
      → HaveNoRulesIn x node (node + 1)
  one_ruleless node set has none n low high known =
      let same : node ≡ n = omega (arith, low, high) in
      subst (HasNoRule x) same (ruleless_class set (class_of t node) has none)

  module _ (fits : IsTreeOf (grammar_of x.all) (tree_of x.all)) where
    -- a tree without rules
    pub tree_has_none : (p : Path) → Has t p → HaveNoRulesIn x (number_of t p) (number_of t p + size_at t p)
        → inorder_steps g t a p ≡ []
    tree_has_none p there none =
        let few = size_few t p there in
        let one = size-one g t fits in
        no_steps g t fits a p there
        (λ n low high.
        sym (ap (λ (vs : List (List VisitOp)). has_rule (get_or vs (class_of t n) [])) are.all.visits)
        ∙ none n low high (omega (arith, high, few, one)))

    -- kids up to one that is known not to lie behind the nodes without rules
    pub kids_have_none : (nodes : RulelessNodes) → AreKnown x nodes → (node c kid last : ℕ)
        → HasNoKidRules x.all node c → last < kids_at t (node_of x.all node) c
        → nodes.first ≤ number_of t (down c kid (node_of x.all node))
        → number_of t (down c last (node_of x.all node)) ≤ nodes.end → HaveNoSteps x node c kid last
    kids_have_none nodes known node c kid last no_rules within first_known end_known k low high there =
        let p = node_of x.all node in
        let f = below_of (tree_at t p) in
        let q = down c k p in
        let this : Has t q = kid_exists c k f there in
        let ends = ends_before t p c k last high (kid_exists c last f within) in
        let begins : number_of t (down c kid p) ≤ number_of t q =
        elim (cases_eq kid k) [
          | inl same ↦
              (let z : number_of t (down c kid p) ≡ number_of t q = ap (λ n. number_of t (down c n p)) same in
              omega (arith, z))
          | inr other ↦
              (let z = ends_before t p c kid k (let w : kid < k = omega (arith, other, low) in w) this in
              omega (arith, z))
        ] in
        both_none (steps_of_ops (number_of t p) k (inherited_rules g (class_at t p) c a)) (inorder_steps g t a q)
        (ap (steps_of_ops (number_of t p) k) no_rules)
        (tree_has_none q this
        (λ n least most.
        known n (omega (arith, least, begins, first_known)) (omega (arith, most, ends, end_known))))
