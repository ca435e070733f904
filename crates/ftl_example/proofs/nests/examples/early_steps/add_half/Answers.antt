use Rattle.std.proofs.Common.{◌≡◌, ◌+◌, Bool, true, false, if◌then◌else◌, sym, ◌∙◌, ap, append_assoc, arith, List}
use Rattle.std.proofs.Common.{[], ◌∷◌, ◌++◌, drop, filter}
use Rattle.std.proofs.lemmas.Grind.{common_steps}
use Rattle.std.proofs.lemmas.List.{at_drop_more}
use Rattle.std.proofs.lemmas.List.Elements.{Contains-get_or}
use Rattle.ftl_cursors.specs.item_cursor.ItemSteps.{no_step}
use Rattle.ftl_deps.specs.reads.Meant.{meant}
use Rattle.ftl_example.specs.nests.examples.EarlySteps.{is_in_half}
use Rattle.ftl_example.specs.examples.ShownSteps.{step_in}
use Rattle.ftl_order.specs.declared.steps.step.Step.{Step}
use Rattle.ftl_nests.specs.Nests.{nest_placing_of}
use Rattle.ftl_nest_check.specs.stages.Nested.{nests_of}
use Rattle.ftl_example.proofs.nests.examples.early_steps.add_half.Goals as goal
use Rattle.ftl_example.proofs.nests.examples.early_steps.add_half.Goals.{then-is_in_half+in_ok-push, else-is_in_half}

pub is_in_half-requires-clause-step : goal.is_in_half-requires-clause-step
is_in_half-requires-clause-step c =
    c.requires.steps (step_in c.args.steps.now c.loop-place.place)
    (Contains-get_or c.args.steps.now c.loop-place.place no_step c.loop-place-test.true)

-- one step on, where the step is added and where it isn't
added : {X : Type 0} (p : X → Bool) (before : List X) (x : X) (rest : List X) → p x ≡ true
    → (before ++ x ∷ []) ++ filter p rest ≡ before ++ filter p (x ∷ rest)
added p before x rest holds =
    append_assoc before (x ∷ []) (filter p rest)
    ∙ ap (λ (b : Bool). before ++ (if b then x ∷ filter p rest else filter p rest)) (sym holds)

left_out : {X : Type 0} (p : X → Bool) (before : List X) (x : X) (rest : List X) → p x ≡ false
    → before ++ filter p rest ≡ before ++ filter p (x ∷ rest)
left_out p before x rest fails =
    ap (λ (b : Bool). before ++ (if b then x ∷ filter p rest else filter p rest)) (sym fails)

pub loop-place-preserved : goal.loop-place-preserved
loop-place-preserved c =
    let p =
    is_in_half (meant c.args.tree.now.checked) (nest_placing_of (nests_of c.args.placed.now)) c.args.tree.now.tree
    c.args.reader.step c.args.half in
    let steps = c.args.steps.now in
    let i = c.loop-place.place in
    let x = step_in steps i in
    let before = c.loop-place.order.items in
    let rest = drop (i + 1) steps in
    let here =
    sym (at_drop_more (λ (ys : List Step). before ++ filter p ys) steps i no_step c.loop-place-test.true)
    ∙ c.loop-place.invariant in
    elim c.if-is_in_half.branch [
      | then-is_in_half+in_ok-push w ↦
          let items : c.if-is_in_half.order.items ≡ before ++ x ∷ [] = grind (arith, common_steps) in
          ap (λ (ys : List Step). ys ++ filter p rest) items
          ∙ added p before x rest (sym c.is_in_half.ensures.half ∙ w.if-is_in_half.true) ∙ here
      | else-is_in_half w ↦
          let items : c.if-is_in_half.order.items ≡ before = grind (arith, common_steps) in
          ap (λ (ys : List Step). ys ++ filter p rest) items
          ∙ left_out p before x rest (sym c.is_in_half.ensures.half ∙ w.if-is_in_half.false) ∙ here
    ]
