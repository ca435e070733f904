-- Where a cursor stands when it goes on.
use Rattle.std.proofs.Common.{◌≡◌, ℕ, zero, suc, ◌+◌, ◌-◌, ◌<◌, List, [], ◌∷◌, ◌++◌, drop, get_or, length, take, Some, sym, ◌∙◌, ap, subst, arith}
use Rattle.std.proofs.Math.Seq.{take-length}
use Rattle.std.proofs.lemmas.List.FromFn.{get_or-map-range_with_len, length-map-range_with_len}
use Rattle.ftl_model.specs.layout.AttributeGrammar.{AttributeGrammar}
use Rattle.ftl_model.specs.layout.Path.{Path, class_at, kids_at, node_at}
use Rattle.ftl_model.specs.layout.Tree.{Forest, size}
use Rattle.ftl_model.specs.layout.TreeOf.{IsTreeOf}
use Rattle.ftl_order.proofs.orders.Kids.{class_known}
use Rattle.ftl_schedule.specs.declared.syntax.kind.PassKind.TheVariants.{InOrder}
use Rattle.ftl_tree.proofs.rows.Access.{has_at}
use Rattle.ftl_visit.specs.visits.Visits.{visit_of}
use Rattle.ftl_visit.specs.declared.visits.visit_op.VisitOp.{VisitOp}
use Rattle.ftl_visit.specs.declared.visits.visit_op.VisitOp.TheVariants.{Begin, Rule, Visit}
use Rattle.ftl_visit.specs.passes.VisitRows.{visits_of}
use Rattle.ftl_cursors.specs.sequence.Places.{FitOps, IsPlace, left, rule_first}
use Rattle.ftl_cursors.specs.declared.sequence.place.Place.{Place}
use Rattle.ftl_cursors.specs.declared.sequence.place.Tables.{Tables}
use Rattle.ftl_cursors.proofs.sequence.VisitShape.{AreRules, block_of, blocks_from, first_block, inherited_are, locals_are, synthesized_are, visit_is}
use Rattle.std.proofs.lemmas.List.{append-nil}
use Rattle.ftl_visit.specs.visits.Visits.{inherited_rules, locals, synthesized_rules}

-- a place at which as much is left
pub record IsAsFar (x : Tables) (old new : Place) : Type 0 where
  pub place : IsPlace x new
  pub left : left x new ≡ left x old

-- what comes after the first entry
abbrev pub after_first : List VisitOp → List VisitOp
after_first ops = take (length ops - 1) (drop 1 ops)

-- with the first it is the list
pub first_and_rest : (ops : List VisitOp) (d : VisitOp) → 0 < length ops → ops ≡ get_or ops 0 d ∷ after_first ops
first_and_rest [] d some = absurd (let z : ⊥ = omega arith in z)
first_and_rest (op ∷ ops) d some =
    ap (λ (rest : List VisitOp). op ∷ rest)
    (sym (ap (λ n. take n ops) (let z : suc (length ops) - 1 ≡ length ops = omega arith in z) ∙ take-length ops))

-- so it is where a rule comes first
pub rule_and_rest : (ops : List VisitOp) (r : ℕ) → rule_first ops ≡ Some r → ops ≡ Rule r ∷ after_first ops
rule_and_rest [] r is = absurd (cc)
rule_and_rest (Rule s ∷ ops) r is =
    let same : s ≡ r = cc in
    first_and_rest (Rule s ∷ ops) (Rule 0) (omega arith) ∙ ap (λ n. Rule n ∷ after_first (Rule s ∷ ops)) same
rule_and_rest (Begin c ∷ ops) r is = absurd (cc)
rule_and_rest (Visit c ∷ ops) r is = absurd (cc)

-- the visit of a class of the grammar, in the list
pub visit_in : (g : AttributeGrammar) (attributes : List ℕ) (class : ℕ) → class < g.class_count
    → get_or (visits_of g InOrder attributes) class [] ≡ visit_of g InOrder attributes class
visit_in g attributes class known =
    get_or-map-range_with_len (visit_of g InOrder attributes) 0 g.class_count class class [] known
    (let z : 0 + class ≡ class = omega arith in z)

-- the class of a node is one of the visits
pub class_within : (g : AttributeGrammar) (t : Forest) → IsTreeOf g t → (n : ℕ) → n < size t
    → class_at t (node_at t n) < g.class_count
class_within g t fits n within = class_known g t fits (node_at t n) (has_at g t n fits within)

pub visits_count : (g : AttributeGrammar) (attributes : List ℕ)
    → length (visits_of g InOrder attributes) ≡ g.class_count
visits_count g attributes = length-map-range_with_len (visit_of g InOrder attributes) 0 g.class_count

-- ---- operations that fit

module _ (g : AttributeGrammar) (t : Forest) (p : Path) (attributes : List ℕ) where
  rules_fit : (k : ℕ) (rules ops : List VisitOp) → AreRules rules → FitOps g t p k ops
      → FitOps g t p k (rules ++ ops)
  rules_fit k [] ops are fit = fit
  rules_fit k (Rule r ∷ rules) ops are fit = rules_fit k rules ops are fit
  rules_fit k (Begin c ∷ rules) ops are fit = absurd are
  rules_fit k (Visit c ∷ rules) ops are fit = absurd are

  pub blocks_fit : (c count : ℕ) → c + count ≡ g.child_count (class_at t p)
      → FitOps g t p 0 (blocks_from g (class_at t p) attributes c count)
  blocks_fit c zero all =
      subst (FitOps g t p 0) (append-nil (synthesized_rules g (class_at t p) attributes))
      (rules_fit 0 (synthesized_rules g (class_at t p) attributes) []
      (synthesized_are g (class_at t p) attributes) tt)
  blocks_fit c (suc count) all =
      subst (FitOps g t p 0) (sym (first_block g (class_at t p) attributes c count))
      (let z : c < g.child_count (class_at t p) = omega arith in z)

  pub block_fits : (c k count : ℕ) → c < g.child_count (class_at t p) → k < kids_at t p c
      → FitOps g t p k (block_of g (class_at t p) attributes c count)
  block_fits c k count declared there =
      rules_fit k (inherited_rules g (class_at t p) c attributes)
      (Visit c ∷ blocks_from g (class_at t p) attributes (c + 1) count)
      (inherited_are g (class_at t p) attributes c) (declared, there)

  pub visit_fits : FitOps g t p 0 (visit_of g InOrder attributes (class_at t p))
  visit_fits =
      subst (FitOps g t p 0) (sym (visit_is g (class_at t p) attributes))
      (rules_fit 0 (locals g (class_at t p) attributes) (blocks_from g (class_at t p) attributes 0
      (g.child_count (class_at t p))) (locals_are g (class_at t p) attributes)
      (blocks_fit 0 (g.child_count (class_at t p)) (omega arith)))
