-- The plain steps compute the plain order.
use Rattle.std.proofs.Common.{◌≡◌, ℕ, suc, ◌+◌, ◌<◌, refl, sym, ◌∙◌, ap, ap₂, arith, List, [], ◌∷◌, ◌++◌, flat_map}
use Rattle.std.proofs.Common.{get_or, length, map, reverse, Contains}
use Rattle.std.specs.List.{range_with_len}
use Rattle.std.proofs.lemmas.List.{get_or-map, length-map, map-append}
use Rattle.ftl_model.proofs.lists.Elements.{in_flat_map, in_range_from}
use Rattle.ftl_items.proofs.stage_items.Reverses.{in_reverse, reverse-cons}
use Rattle.ftl_items.specs.stage_items.Items.{passes_of}
use Rattle.ftl_items.specs.stage_items.Visits.{visit}
use Rattle.ftl_model.specs.layout.AttributeGrammar.{AttributeGrammar}
use Rattle.ftl_model.specs.layout.Path.{Path, node_at, preorder, top}
use Rattle.ftl_model.specs.layout.Tree.{Forest, size}
use Rattle.ftl_model.specs.layout.TreeOf.{IsTreeOf}
use Rattle.ftl_order.specs.declared.steps.step.Step.{Step}
use Rattle.ftl_order.specs.orders.Lawful.{IsLawful}
use Rattle.ftl_order.specs.orders.Schedule as order
use Rattle.ftl_order.specs.orders.Schedule.{EachStandsOnce, empty_pass, pass_at}
use Rattle.ftl_order.specs.steps.Steps.{IsStepOf, target_of}
use Rattle.ftl_schedule.specs.declared.stages.types.Pass.{Pass}
use Rattle.ftl_schedule.specs.declared.stages.types.Schedule.{Schedule}
use Rattle.ftl_schedule.specs.declared.stages.types.Stage.{Stage}
use Rattle.ftl_schedule.specs.declared.syntax.kind.PassKind.{PassKind}
use Rattle.ftl_schedule.specs.declared.syntax.kind.PassKind.TheVariants.{BottomUp, InOrder, TopDown}
use Rattle.ftl_schedule.specs.stages.Stages.{kind_of, pass_of, stages_of}
use Rattle.ftl_cursors.specs.inorder.InorderSteps.{StepsAreOfTheTree, StepsComputeTheSequence, inorder_steps}
use Rattle.ftl_cursors.specs.item_cursor.ItemSteps.{AreStepsOf}
use Rattle.ftl_cursors.specs.visits.StepLaws.{OfVisits, StepsAreSteps, TargetsAreTheItems}
use Rattle.ftl_example.specs.examples.PlainSteps.{plain_steps, steps_of_kind, steps_of_pass, steps_of_stage}
use Rattle.ftl_example.specs.orders.PlainOrder.{pass_steps, plain_order, stage_steps, steps_by_kind}

map-flat_map : {X Y Z : Type 0} (f : Y → Z) (h : X → List Y) (xs : List X)
    → map f (flat_map h xs) ≡ flat_map (λ x. map f (h x)) xs
map-flat_map f h [] = refl
map-flat_map f h (x ∷ xs) =
    map-append f (h x) (flat_map h xs) ∙ ap (λ ys. map f (h x) ++ ys) (map-flat_map f h xs)

map-reverse : {X Y : Type 0} (f : X → Y) (xs : List X) → map f (reverse xs) ≡ reverse (map f xs)
map-reverse f [] = refl
map-reverse f (x ∷ xs) =
    ap (map f) (reverse-cons x xs)
    ∙ map-append f (reverse xs) (x ∷ [])
    ∙ ap (λ ys. ys ++ f x ∷ []) (map-reverse f xs)
    ∙ sym (reverse-cons (f x) (map f xs))

-- one list after the other, by entry and by place
by_place : {X Y : Type 0} (h : X → List Y) (f : ℕ → List Y) (xs : List X) (from : ℕ)
    → ((n : ℕ) (d : X) → n < length xs → h (get_or xs n d) ≡ f (from + n))
    → flat_map h xs ≡ flat_map f (range_with_len from (length xs))
by_place h f [] from each = refl
by_place h f (x ∷ xs) from each =
    ap₂ (λ ys zs. ys ++ zs)
    (each 0 x (omega arith) ∙ ap f (let z : from + 0 ≡ from = omega arith in z))
    (by_place h f xs (from + 1)
    (λ n d less.
    each (suc n) d (omega (arith, less)) ∙ ap f (let z : from + suc n ≡ from + 1 + n = omega arith in z)))

-- the nodes of a range from 0 on are the first in preorder
nodes_from : (xs : List Path) (d : Path) → map (λ n. get_or xs n d) (range_with_len 0 (length xs)) ≡ xs
nodes_from xs d = go xs 0 (λ n. get_or xs n d) (λ n. ap (λ m. get_or xs m d) (let z : 0 + n ≡ n = omega arith in z))
  where
    go : (ys : List Path) (from : ℕ) (f : ℕ → Path) → ((n : ℕ) → f (from + n) ≡ get_or ys n d)
        → map f (range_with_len from (length ys)) ≡ ys
    go [] from f is = refl
    go (y ∷ ys) from f is =
        ap₂ (λ z zs. z ∷ zs) (ap f (let z : from ≡ from + 0 = omega arith in z) ∙ is 0)
        (go ys (from + 1) f (λ n. ap f (let z : from + 1 + n ≡ from + suc n = omega arith in z) ∙ is (suc n)))

module _ (g : AttributeGrammar) (s : Schedule) (t : Forest) (law : IsLawful g) (once : EachStandsOnce g (stages_of s))
    (fits : IsTreeOf g t) (steps : OfVisits StepsAreSteps) (targets : OfVisits TargetsAreTheItems)
    (of_tree : StepsAreOfTheTree) (computes : StepsComputeTheSequence) (long : length (preorder t) ≡ size t) where
  abbrev all_nodes : List ℕ
  all_nodes = range_with_len 0 (size t)

  known : (n : ℕ) → Contains all_nodes n → n < size t
  known n h = let z = (in_range_from 0 (size t) n h).1 in omega (arith, z)

  known_back : (n : ℕ) → Contains (reverse all_nodes) n → n < size t
  known_back n h = known n (in_reverse all_nodes n h)

  nodes_are : map (node_at t) all_nodes ≡ preorder t
  nodes_are = ap (λ n. map (node_at t) (range_with_len 0 n)) (sym long) ∙ nodes_from (preorder t) top

  -- ---- a pass

  kind_steps : (kind : PassKind) (attributes : List ℕ) (x : Step) → Contains (steps_of_kind g t kind attributes) x
      → IsStepOf g t x
  kind_steps TopDown attributes x h = steps g law TopDown (λ e. cc) attributes t fits all_nodes known x h
  kind_steps BottomUp attributes x h =
      steps g law BottomUp (λ e. cc) attributes t fits (reverse all_nodes) known_back x h
  kind_steps InOrder attributes x h = of_tree g t law fits attributes x h

  -- where the pass has this kind and this list, its steps compute what it has
  kind_targets : (stage m : ℕ) (kind : PassKind) (attributes : List ℕ) → (pass_at (stages_of s) stage m).attributes ≡ attributes
      → map (target_of g t) (steps_of_kind g t kind attributes)
      ≡ steps_by_kind g (stages_of s) t stage m (kind_of kind) attributes
  kind_targets stage m TopDown attributes has =
      targets g law TopDown (λ e. cc) attributes t fits all_nodes known ∙ ap (flat_map (visit g t attributes)) nodes_are
  kind_targets stage m BottomUp attributes has =
      targets g law BottomUp (λ e. cc) attributes t fits (reverse all_nodes) known_back
      ∙ ap (flat_map (visit g t attributes)) (map-reverse (node_at t) all_nodes ∙ ap reverse nodes_are)
  kind_targets stage m InOrder attributes has =
      ap (λ (list : List ℕ). map (target_of g t) (inorder_steps g t list top)) (sym has)
      ∙ computes g (stages_of s) t law once fits stage m

  pass_targets : (stage m : ℕ) (pass : Pass) → pass_at (stages_of s) stage m ≡ pass_of pass
      → map (target_of g t) (steps_of_pass g t pass) ≡ pass_steps g (stages_of s) t stage m
  pass_targets stage m pass is =
      kind_targets stage m pass.kind pass.attrs (ap (λ (p : order.Pass). p.attributes) is)
      ∙ ap (λ (p : order.Pass). steps_by_kind g (stages_of s) t stage m p.kind p.attributes) (sym is)

  -- ---- a stage

  stage_targets : (n : ℕ) (stage : Stage) → passes_of (stages_of s) n ≡ map pass_of stage.passes
      → map (target_of g t) (steps_of_stage g t stage) ≡ stage_steps g (stages_of s) t n
  stage_targets n stage is =
      map-flat_map (target_of g t) (steps_of_pass g t) stage.passes
      ∙ by_place (λ (pass : Pass). map (target_of g t) (steps_of_pass g t pass)) (pass_steps g (stages_of s) t n)
      stage.passes 0
      (λ m d less.
      pass_targets n m (get_or stage.passes m d)
      (ap (λ ps. get_or ps m empty_pass) is ∙ get_or-map pass_of stage.passes m d empty_pass less)
      ∙ ap (pass_steps g (stages_of s) t n) (let z : m ≡ 0 + m = omega arith in z))
      ∙ ap (λ k. flat_map (pass_steps g (stages_of s) t n) (range_with_len 0 k))
      (sym (ap length is ∙ length-map stage.passes pass_of))

  -- ---- all

  all_targets : map (target_of g t) (plain_steps g t s) ≡ plain_order g (stages_of s) t
  all_targets =
      map-flat_map (target_of g t) (steps_of_stage g t) s.stages
      ∙ by_place (λ (stage : Stage). map (target_of g t) (steps_of_stage g t stage)) (stage_steps g (stages_of s) t)
      s.stages 0
      (λ n d less.
      stage_targets n (get_or s.stages n d)
      (get_or-map (λ (stage : Stage). map pass_of stage.passes) s.stages n d [] less)
      ∙ ap (stage_steps g (stages_of s) t) (let z : n ≡ 0 + n = omega arith in z))
      ∙ ap (λ k. flat_map (stage_steps g (stages_of s) t) (range_with_len 0 k))
      (sym (length-map s.stages (λ (stage : Stage). map pass_of stage.passes)))

  pub plain_are : AreStepsOf g t (plain_order g (stages_of s) t) (plain_steps g t s)
  plain_are =
      record {
        steps_are = λ x h.
            let a = in_flat_map (steps_of_stage g t) s.stages x h in
            let b = in_flat_map (steps_of_pass g t) a.0.passes x a.2 in
            kind_steps b.0.kind b.0.attrs x b.2;
        targets = all_targets;
      }
