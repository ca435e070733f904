-- What is left when a cursor goes on.
use Rattle.std.proofs.Common.{◌≡◌, ℕ, suc, ◌+◌, ◌-◌, ◌<◌, List, [], ◌∷◌, ◌++◌, flat_map, map, refl, sym, ◌∙◌, ap, ap₂, append_assoc, arith}
use Rattle.std.specs.List.{range_with_len}
use Rattle.ftl_model.specs.layout.AttributeGrammar.{AttributeGrammar}
use Rattle.ftl_model.specs.layout.Path.{node_at}
use Rattle.ftl_model.specs.layout.Tree.{Forest}
use Rattle.ftl_order.specs.steps.Steps.{rule_at}
use Rattle.ftl_visit.specs.declared.visits.visit_op.VisitOp.{VisitOp}
use Rattle.ftl_visit.specs.declared.visits.visit_op.VisitOp.TheVariants.{Rule}
use Rattle.ftl_cursors.specs.visits.VisitSteps.{ops_at, rest_of, step, steps_of_nodes, steps_of_op, turns}

-- no kids are left where the next is the end
no_kids : (node rule kid end : ℕ) → kid ≡ end → map (step node rule) (range_with_len kid (end - kid)) ≡ []
no_kids node rule kid end is =
    ap (λ n. map (step node rule) (range_with_len kid n)) (let z : end - kid ≡ 0 = omega arith in z)

-- and else the next one comes first
next_kid : (node rule kid end : ℕ) → kid < end
    → map (step node rule) (range_with_len kid (end - kid))
    ≡ step node rule kid ∷ map (step node rule) (range_with_len (kid + 1) (end - (kid + 1)))
next_kid node rule kid end less =
    ap (λ n. map (step node rule) (range_with_len kid n)) (let z : end - kid ≡ suc (end - (kid + 1)) = omega arith in z)

module _ (g : AttributeGrammar) (t : Forest) (visits : List (List VisitOp)) where
  -- the first step is that of the next kid
  pub kid_taken : (node rule kid end : ℕ) (ops : List VisitOp) (nodes : List ℕ) → kid < end
      → rest_of g t visits node rule kid end ops nodes
      ≡ step node rule kid ∷ rest_of g t visits node rule (kid + 1) end ops nodes
  kid_taken node rule kid end ops nodes less =
      ap (λ xs. xs ++ (flat_map (steps_of_op g t node) ops ++ steps_of_nodes g t visits nodes))
      (next_kid node rule kid end less)

  -- without kids the operations come
  no_kids_left : (node rule kid end : ℕ) (ops : List VisitOp) (nodes : List ℕ) → kid ≡ end
      → rest_of g t visits node rule kid end ops nodes
      ≡ flat_map (steps_of_op g t node) ops ++ steps_of_nodes g t visits nodes
  no_kids_left node rule kid end ops nodes is =
      ap (λ xs. xs ++ (flat_map (steps_of_op g t node) ops ++ steps_of_nodes g t visits nodes))
      (no_kids node rule kid end is)

  -- the first steps are those of all kids that are left
  pub kids_taken : (node rule kid end : ℕ) (ops : List VisitOp) (nodes : List ℕ)
      → rest_of g t visits node rule kid end ops nodes
      ≡ map (step node rule) (range_with_len kid (end - kid)) ++ rest_of g t visits node rule end end ops nodes
  kids_taken node rule kid end ops nodes =
      ap (λ xs. map (step node rule) (range_with_len kid (end - kid)) ++ xs)
      (sym (no_kids_left node rule end end ops nodes refl))

  -- nothing is left without kids, operations and nodes
  pub all_done : (node rule kid end : ℕ) (ops : List VisitOp) (nodes : List ℕ) → kid ≡ end → ops ≡ [] → nodes ≡ []
      → rest_of g t visits node rule kid end ops nodes ≡ []
  all_done node rule kid end ops nodes is no_ops no_nodes =
      no_kids_left node rule kid end ops nodes is
      ∙ ap₂ (λ x y. flat_map (steps_of_op g t node) x ++ steps_of_nodes g t visits y) no_ops no_nodes

  -- the visit of the next node begins
  pub node_begun : (old node rule kid end : ℕ) (ops : List VisitOp) (nodes rest : List ℕ) → kid ≡ end → ops ≡ []
      → nodes ≡ node ∷ rest
      → rest_of g t visits node rule kid end (ops_at t visits node) rest ≡ rest_of g t visits old rule kid end ops nodes
  node_begun old node rule kid end ops nodes rest is no_ops first =
      no_kids_left node rule kid end (ops_at t visits node) rest is
      ∙ sym
      (no_kids_left old rule kid end ops nodes is
      ∙ ap₂ (λ x y. flat_map (steps_of_op g t old) x ++ steps_of_nodes g t visits y) no_ops first)

  -- a rule begins
  pub rule_begun : (node rule new kid end count : ℕ) (ops rest : List VisitOp) (nodes : List ℕ) → kid ≡ end
      → ops ≡ Rule new ∷ rest → count ≡ turns t (node_at t node) (rule_at g new)
      → rest_of g t visits node new 0 count rest nodes ≡ rest_of g t visits node rule kid end ops nodes
  rule_begun node rule new kid end count ops rest nodes is first all =
      ap
      (λ n. map (step node new) (range_with_len 0 n)
      ++ (flat_map (steps_of_op g t node) rest ++ steps_of_nodes g t visits nodes))
      (let z : count - 0 ≡ turns t (node_at t node) (rule_at g new) = omega arith in z)
      ∙ sym
      (append_assoc (steps_of_op g t node (Rule new)) (flat_map (steps_of_op g t node) rest)
      (steps_of_nodes g t visits nodes))
      ∙ sym
      (no_kids_left node rule kid end ops nodes is
      ∙ ap (λ x. flat_map (steps_of_op g t node) x ++ steps_of_nodes g t visits nodes) first)

  -- another operation is passed over
  pub op_passed : (node rule kid end : ℕ) (op : VisitOp) (ops rest : List VisitOp) (nodes : List ℕ) → kid ≡ end
      → ops ≡ op ∷ rest → steps_of_op g t node op ≡ []
      → rest_of g t visits node rule kid end rest nodes ≡ rest_of g t visits node rule kid end ops nodes
  op_passed node rule kid end op ops rest nodes is first none =
      no_kids_left node rule kid end rest nodes is
      ∙ sym
      (no_kids_left node rule kid end ops nodes is
      ∙ ap (λ x. flat_map (steps_of_op g t node) x ++ steps_of_nodes g t visits nodes) first
      ∙ ap (λ x. (x ++ flat_map (steps_of_op g t node) rest) ++ steps_of_nodes g t visits nodes) none)
