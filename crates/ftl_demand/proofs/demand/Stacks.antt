-- The stack of the steps that wait.
use Rattle.std.proofs.Common.{◌≡◌, ◌≢◌, ℕ, suc, ◌+◌, ◌-◌, ◌*◌, ◌<◌, ◌≤◌, List, [], ◌∷◌, ◌++◌, length, get_or, refl, sym, ap, ◌∙◌, subst, ⊎_elim, arith}
use lib.ListN.{set}
use Rattle.std.proofs.lemmas.List.{length-append, length-set}
use Rattle.ftl_deps.specs.reads.Meant.{meant}
use Rattle.ftl_model.proofs.lists.Elements.{nothing_in}
use Rattle.ftl_model.specs.layout.Solves.{Instance, IsInstance}
use Rattle.ftl_model.specs.layout.Table.{instance_count, instance_number}
use Rattle.ftl_model.specs.layout.TreeOf.{IsTreeOf}
use Rattle.ftl_model.specs.layout.Values.{Value, overflow, word_of_value}
use Rattle.ftl_order.specs.orders.Lawful.{IsLawful}
use Rattle.ftl_order.specs.orders.Reads.{EndsWithin, Reads}
use Rattle.ftl_order.specs.steps.Steps.{target_of}
use Rattle.ftl_step_value.proofs.cells.StepRules.{target_there}
use Rattle.ftl_tree.specs.trees.CheckedTree.{CheckedTree}
use Rattle.ftl_demand.specs.declared.demand.waiting.NodeAttr.{NodeAttr}
use Rattle.ftl_demand.specs.declared.demand.waiting.Outcome.TheVariants.{Done, Lacks}
use Rattle.ftl_demand.specs.declared.demand.waiting.Waiting.{Waiting}
use Rattle.ftl_demand.specs.demand.Frames.{IsWaiting}
use Rattle.ftl_demand.specs.demand.Outcomes.{IsStepOutcome}
use Rattle.ftl_demand.specs.demand.Sites.{AreWordsOf, instance_at, word_at}
use Rattle.ftl_demand.proofs.demand.WaitingSteps.{IsUnderWay, computed, first_waits, pushed, few_wait, top_is, top_within, zeros_fall}
use Rattle.ftl_demand.proofs.demand.Zeros.{less_to_do, more_waits, zeros}

-- the instance that a step computes
abbrev pub target : CheckedTree → Waiting → Instance
target t w = target_of (meant t.checked) t.tree w.step

-- steps that wait till an attribute's word is there
abbrev pub IsStack : CheckedTree → NodeAttr → (before words : List ℕ) → List Waiting → Type 0
IsStack t wanted before words waiting =
    IsUnderWay (meant t.checked) t.tree (target t) (λ w. w.cell) (IsWaiting t)
    (instance_number (meant t.checked) t.tree (instance_at t wanted)) before words waiting

-- what they compute is there
pub targets_there : (t : CheckedTree) → IsLawful (meant t.checked) → IsTreeOf (meant t.checked) t.tree
    → (w : Waiting) → IsWaiting t w → IsInstance (meant t.checked) t.tree (target t w)
targets_there t law fits w is = target_there (meant t.checked) law t.tree fits w.step is.step

-- and in these cells
pub cells_are : (t : CheckedTree) (w : Waiting) → IsWaiting t w
    → w.cell ≡ instance_number (meant t.checked) t.tree (target t w)
cells_are t w is = is.cell

-- what is left to do: words that are 0, and steps that may wait yet
abbrev pub left_to_do : (words : List ℕ) → (waiting : ℕ) → ℕ
left_to_do words waiting = zeros words * (length words + 2) + ((length words + 1) - waiting)

module _ (t : CheckedTree) (law : IsLawful (meant t.checked)) (fits : IsTreeOf (meant t.checked) t.tree)
    (ends : (i : Instance) → IsInstance (meant t.checked) t.tree i
    → EndsWithin (meant t.checked) t.tree (instance_count (meant t.checked) t.tree) i)
    (wanted : NodeAttr) (before words : List ℕ) (waiting front : List Waiting) (next : Waiting)
    (popped : waiting ≡ front ++ next ∷ []) (all : IsStack t wanted before words waiting) where
  abbrev start : ℕ
  start = instance_number (meant t.checked) t.tree (instance_at t wanted)

  abbrev cell : Waiting → ℕ
  cell w = w.cell

  h : IsStack t wanted before words (front ++ next ∷ [])
  h = subst (IsStack t wanted before words) popped all

  pub next_is : IsWaiting t next
  next_is =
      top_is (meant t.checked) t.tree (target t) cell (IsWaiting t) (targets_there t law fits) (cells_are t) ends start
      before words front next h

  pub next_within : next.cell < length words
  next_within =
      top_within (meant t.checked) t.tree (target t) cell (IsWaiting t) (targets_there t law fits) (cells_are t) ends
      start before words front next h

  waits : length waiting ≡ length front + 1
  waits = ap length popped ∙ length-append front (next ∷ [])

  -- where it lacks something, it goes on waiting below the step that computes that
  module _ (again above : Waiting) (more : List Waiting) (same_step : again.step ≡ next.step)
      (same_cell : again.cell ≡ next.cell) (are : more ≡ (front ++ again ∷ []) ++ above ∷ []) where
    pub next_pushed : (x : NodeAttr) → IsWaiting t again → IsWaiting t above
        → target t above ≡ instance_at t x → IsStepOutcome t words next.step (Lacks x)
        → IsStack t wanted before words more
    next_pushed x again_is above_is target_is lacking =
        subst (IsStack t wanted before words) (sym are)
        (pushed (meant t.checked) t.tree (target t) cell (IsWaiting t) (targets_there t law fits) (cells_are t) ends
        start before words front next h again above again_is
        (ap (target_of (meant t.checked) t.tree) same_step) same_cell above_is
        (subst (Reads (meant t.checked) t.tree (target t next)) (sym target_is) lacking.read)
        (ap (λ n. get_or words n 0)
        (cells_are t above above_is ∙ ap (instance_number (meant t.checked) t.tree) target_is)
        ∙ lacking.none))

    pub less_when_pushed : left_to_do words (length more) < left_to_do words (length waiting)
    less_when_pushed =
        let few : length waiting ≤ length words =
        few_wait (meant t.checked) t.tree (target t) cell (IsWaiting t) (targets_there t law fits) (cells_are t)
        ends start before words waiting all in
        let one = length-append front (again ∷ []) in
        let two = length-append (front ++ again ∷ []) (above ∷ []) in
        let more_long : length more ≡ length front + 2 = ap length are ∙ (let z : length ((front ++ again ∷ [])
        ++ above ∷ []) ≡ length front + 2 = omega (arith, one, two) in z) in
        let is = waits in
        subst (λ n. left_to_do words n < left_to_do words (length waiting)) (sym more_long)
        (subst (λ n. left_to_do words (length front + 2) < left_to_do words n) (sym is)
        (more_waits (zeros words * (length words + 2)) (length words) (length front) (omega (arith, few, is))))

  -- where it is done, its word is there
  module _ (value : Value) (at w : ℕ) (same_cell : at ≡ next.cell) (some : 0 < w) (is : w ≡ word_of_value value)
      (done : IsStepOutcome t words next.step (Done value)) where
    not_empty : w ≢ 0
    not_empty none = omega (arith, some, none)

    pub next_computed : IsStack t wanted before (set words at w) front
    next_computed =
        subst (λ n. IsStack t wanted before (set words n w) front) (sym same_cell)
        (computed (meant t.checked) t.tree (target t) cell (IsWaiting t) (targets_there t law fits) (cells_are t) ends
        start before words front next h w not_empty
        (λ values solved.
        is
        ∙ ap word_of_value (done values solved)
        ∙ ap (λ n. word_of_value (get_or values n overflow)) (sym next_is.cell)))

    pub less_when_computed : left_to_do (set words at w) (length front) < left_to_do words (length waiting)
    less_when_computed =
        let fall : suc (zeros (set words at w)) ≡ zeros words =
        subst (λ n. suc (zeros (set words n w)) ≡ zeros words) (sym same_cell)
        (zeros_fall (meant t.checked) t.tree (target t) cell (IsWaiting t) (targets_there t law fits) (cells_are t)
        ends start before words front next h w not_empty
        (λ values solved.
        is
        ∙ ap word_of_value (done values solved)
        ∙ ap (λ n. word_of_value (get_or values n overflow)) (sym next_is.cell))) in
        let long : length (set words at w) ≡ length words = length-set words at w in
        subst
        (λ n.
        zeros (set words at w) * (n + 2) + ((n + 1) - length front) < left_to_do words (length waiting)) (sym long)
        (subst
        (λ n.
        zeros (set words at w) * (length words + 2) + ((length words + 1) - length front) < left_to_do words n)
        (sym waits) (less_to_do (zeros words) (zeros (set words at w)) (length words) (length front) fall))

-- a step that lacks nothing never waits
module _ (t : CheckedTree) (law : IsLawful (meant t.checked)) (fits : IsTreeOf (meant t.checked) t.tree)
    (ends : (i : Instance) → IsInstance (meant t.checked) t.tree i
    → EndsWithin (meant t.checked) t.tree (instance_count (meant t.checked) t.tree) i)
    (wanted : NodeAttr) (words : List ℕ) (first : Waiting) (so_far : AreWordsOf t words) (is : IsWaiting t first)
    (at : target t first ≡ instance_at t wanted) (lacking : word_at t words (instance_at t wanted) ≡ 0) where
  pub alone : IsStack t wanted words words (first ∷ [])
  alone =
      first_waits (meant t.checked) t.tree (target t) (λ (w : Waiting). w.cell) (IsWaiting t)
      (instance_number (meant t.checked) t.tree (instance_at t wanted)) words first so_far is
      (cells_are t first is ∙ ap (instance_number (meant t.checked) t.tree) at) lacking

  pub first_within : first.cell < length words
  first_within = next_within t law fits ends wanted words words (first ∷ []) [] first refl alone

  module _ (value : Value) (w : ℕ) (some : 0 < w) (word : w ≡ word_of_value value)
      (done : IsStepOutcome t words first.step (Done value)) where
    pub none_waits : IsStack t wanted words (set words first.cell w) []
    none_waits =
        next_computed t law fits ends wanted words words (first ∷ []) [] first refl alone value first.cell w refl some
        word done

    pub first_there : word_at t (set words first.cell w) (instance_at t wanted) ≢ 0
    first_there =
        ⊎_elim (λ waits. absurd (nothing_in waits.0 waits.1)) (λ (there : word_at t (set words first.cell w)
        (instance_at t wanted) ≢ 0). there) none_waits.started
