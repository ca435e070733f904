-- Under an ordered schedule what a step reads is an input, or stands near before it.
use Rattle.std.proofs.Common.{◌≡◌, ◌⊎◌, ℕ, refl, sym, ◌∙◌, ap, subst, subst₂, inl, inr, ⊎_elim}
use Rattle.ftl_model.specs.layout.AttributeGrammar.{AttributeGrammar, Read, Sort, inherited, input, local, synthesized}
use Rattle.ftl_model.specs.layout.Path.{Path, down, top}
use Rattle.ftl_model.specs.layout.Solves.{Instance, IsInstance, rule_name}
use Rattle.ftl_model.specs.layout.Tree.{Forest}
use Rattle.ftl_model.specs.layout.TreeOf.{IsTreeOf}
use Rattle.ftl_order.specs.orders.Lawful.{IsLawful}
use Rattle.ftl_order.specs.orders.LegalOrder.{PrecedesDirectlyBy, DirectlyFirstInPass, Turn, TurnPrecedesDirectly}
use Rattle.ftl_order.specs.orders.LegalOrder.{turn_by, turn_of}
use Rattle.ftl_order.specs.orders.Ordered.{EachPairOrdered, IsOrderedRead, Row, block_of, visit_place}
use Rattle.ftl_order.specs.orders.Pairs.{Pair, Where, child_class, child_read, is_by_prev, parent_class, same_class}
use Rattle.ftl_order.specs.orders.ReadPairs.{ReadsBy, Stand}
use Rattle.ftl_order.specs.orders.Reads.{Reads}
use Rattle.ftl_order.specs.orders.Schedule.{PassKind, Placing}
use Rattle.ftl_order.proofs.orders.ReadPairs.{read_pair}
use Rattle.ftl_order.proofs.orders.Rows.{child_direct, parent_direct, same_visit_direct, turn}

-- a row of the table puts turns that stand so near before each other
row_direct : (runs_at : Where) (kind : PassKind) (at : Placing) (r : Read) (x y : Turn) → Stand runs_at r x y
    → Row runs_at kind at r x.rule y.rule → DirectlyFirstInPass kind at x y
row_direct same_class kind at r x y stand row =
    subst (λ p. DirectlyFirstInPass kind at (turn p x.rule x.kid) y) (sym stand.0)
    (same_visit_direct kind at (is_by_prev r) y.visit x.rule y.rule x.kid y.kid row stand.1 (λ prev. (stand.2 prev).1))
row_direct parent_class kind at r x y stand row =
    subst (λ p. DirectlyFirstInPass kind at x (turn p y.rule y.kid)) (sym stand.1)
    (parent_direct kind at row x.visit x.rule.child x.kid x.rule y.rule y.kid stand.0 refl)
row_direct child_class kind at r x y stand row =
    subst (λ p. DirectlyFirstInPass kind at (turn p x.rule x.kid) y) (sym stand.1)
    (child_direct kind at (is_by_prev r) y.visit (child_read r) stand.0 x.rule y.rule x.kid y.kid row stand.2)

-- so does a read that is ordered
pub ordered_direct : (at : Placing) (runs_at : Where) (r : Read) (x y : Turn) → Stand runs_at r x y
    → IsOrderedRead at runs_at r x.rule y.rule → TurnPrecedesDirectly at x y
ordered_direct at runs_at r x y stand ordered =
    ⊎_elim (λ stage. inl stage)
    (λ here. inr (here.0, row_direct runs_at (at y.rule.attribute).kind at r x y stand here.1)) ordered

-- a rule stands in its visit where the turns of its steps say
pub place_of_rule : (g : AttributeGrammar) (t : Forest) (sort : Sort) (p : Path) (a : ℕ) → g.sort a ≡ sort
    → visit_place g (rule_name t sort p a) ≡ (turn_by sort p a).rule
place_of_rule g t input p a e = ap (λ s. record { attribute = a; block = block_of s; child = 0 }) e
place_of_rule g t inherited top a e = ap (λ s. record { attribute = a; block = block_of s; child = 0 }) e
place_of_rule g t inherited (down c k p) a e = refl
place_of_rule g t synthesized p a e = ap (λ s. record { attribute = a; block = block_of s; child = 0 }) e
place_of_rule g t local p a e = ap (λ s. record { attribute = a; block = block_of s; child = 0 }) e

module _ (g : AttributeGrammar) (law : IsLawful g) (at : Placing) (t : Forest) (fits : IsTreeOf g t)
    (pairs : EachPairOrdered g at) where
  direct_of : (i j : Instance) (pair : Pair) → ReadsBy g t i j pair → PrecedesDirectlyBy g at j i
  direct_of i j pair by =
      ordered_direct at pair.runs_at pair.read (turn_of g j) (turn_of g i) by.stand
      (subst₂ (λ x y. IsOrderedRead at pair.runs_at pair.read x y)
      (ap (visit_place g) by.writer ∙ place_of_rule g t (g.sort j.attribute) j.node j.attribute refl)
      (ap (visit_place g) by.reader ∙ place_of_rule g t (g.sort i.attribute) i.node i.attribute refl)
      (pairs pair by.is))

  -- what a step reads is an input, or stands near before it
  pub reads_direct : (i j : Instance) → IsInstance g t i → Reads g t i j
      → (g.sort j.attribute ≡ input) ⊎ PrecedesDirectlyBy g at j i
  reads_direct i j valid reads =
      ⊎_elim (λ e. inl e) (λ f. inr (direct_of i j f.0 f.1)) (read_pair g law t fits i j valid reads)
