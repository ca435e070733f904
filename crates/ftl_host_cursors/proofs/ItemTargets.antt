-- What the steps of the visits of nodes compute, and those of an item.
use Rattle.std.proofs.Common.{◌≡◌, ◌≢◌, ℕ, ◌<◌, Bool, true, false, if◌then◌else◌, List, [], ◌∷◌, ◌++◌, flat_map, map, reverse, Contains, Option, refl, sym, ◌∙◌, ap, ap₂, subst, arith}
use Rattle.std.specs.List.{range_with_len}
use Rattle.std.proofs.lemmas.List.{map-append}
use Rattle.ftl_model.proofs.lists.Elements.{here_in, in_flat_map, later_in}
use Rattle.ftl_model.specs.layout.AttributeGrammar.{AttributeGrammar}
use Rattle.ftl_model.specs.layout.Path.{Has, Path, node_at, number_of, size_at}
use Rattle.ftl_model.specs.layout.Solves.{Instance}
use Rattle.ftl_model.specs.layout.Tree.{Forest, size}
use Rattle.ftl_model.specs.layout.TreeOf.{IsTreeOf}
use Rattle.ftl_model.proofs.layout.Standing.{node_at-number_of}
use Rattle.ftl_order.specs.declared.steps.step.Step.{Step}
use Rattle.ftl_order.specs.orders.Lawful.{IsLawful}
use Rattle.ftl_order.specs.steps.Steps.{IsStepOf, target_of}
use Rattle.ftl_schedule.specs.declared.stages.types.Pass.{Pass}
use Rattle.ftl_schedule.specs.declared.syntax.kind.PassKind.{PassKind}
use Rattle.ftl_schedule.specs.declared.syntax.kind.PassKind.TheVariants.{BottomUp, InOrder, TopDown}
use Rattle.ftl_schedule.specs.stages.Stages.{kind_of}
use Rattle.ftl_items.specs.stage_items.Cut.{nodes_by, subtree}
use Rattle.ftl_items.specs.stage_items.Items.{Item, form_steps, item_steps}
use Rattle.ftl_items.proofs.stage_items.Reverses.{reverse-cons}
use Rattle.ftl_nests.specs.NestItems.{is_whole_with, nest_form, visit_with}
use Rattle.ftl_nests.specs.Nests.{NestingPass, NestingSchedule, inner_stages, nesting_pass}
use Rattle.ftl_cursors.specs.item_cursor.ItemSteps.{AreStepsOf, order_of}
use Rattle.ftl_cursors.specs.visits.ItemSteps.{node_count_by}
use Rattle.ftl_cursors.specs.visits.NodeRanges.{nodes_in}
use Rattle.ftl_cursors.proofs.item_cursor.ItemVisits.{in_nodes}
use Rattle.ftl_cursors.proofs.visits.ItemLemmas.{nodes_within}
use Rattle.ftl_cursors.proofs.visits.RangeLemmas.{subtree_nodes}
use Rattle.ftl_host_cursors.proofs.HostTargets.{visit_in_tree, visit_targets}
use Rattle.ftl_host_cursors.specs.HostLaws.{StandFor, StandsAtMostOnce}
use Rattle.ftl_host_cursors.specs.HostSteps.{host_steps, visit_steps}

map-reverse : {X Y : Type 0} (f : X → Y) (xs : List X) → map f (reverse xs) ≡ reverse (map f xs)
map-reverse f [] = refl
map-reverse f (x ∷ xs) =
    ap (map f) (reverse-cons x xs)
    ∙ map-append f (reverse xs) (x ∷ [])
    ∙ ap (λ ys. ys ++ f x ∷ []) (map-reverse f xs)
    ∙ sym (reverse-cons (f x) (map f xs))

-- the nodes of the item that begins at a node
range_is : (is_whole : Path → Bool) (t : Forest) (p : Path) → Has t p
    → map (node_at t) (range_with_len (number_of t p) (node_count_by is_whole t p)) ≡ nodes_by is_whole t p
range_is is_whole t p there =
    elim (is_whole p) as
    (λ b. map (node_at t) (range_with_len (number_of t p) (if b then size_at t p else 1))
    ≡ (if b then subtree t p else p ∷ [])) [
      | true ↦ subtree_nodes t p there
      | false ↦ ap (λ q. q ∷ []) (node_at-number_of t p there)
    ]

module _ (g : AttributeGrammar) (t : Forest) (law : IsLawful g) (fits : IsTreeOf g t) (whole : NestingPass)
    (pass : Pass) (host : Option ℕ) (inner : List Pass) (stand : StandFor whole pass host inner)
    (kind : pass.kind ≢ InOrder) (few : StandsAtMostOnce g (inner_stages whole.nest)) where
  abbrev whole_visit : Path → List Instance
  whole_visit p = visit_with g t whole.kind whole.attributes whole.nest p

  nodes_targets : (nodes : List ℕ) → ((n : ℕ) → Contains nodes n → n < size t)
      → map (target_of g t) (host_steps g t pass host inner nodes) ≡ flat_map whole_visit (map (node_at t) nodes)
  nodes_targets [] known = refl
  nodes_targets (n ∷ nodes) known =
      map-append (target_of g t) (visit_steps g t pass host inner n) (host_steps g t pass host inner nodes)
      ∙ ap₂ (λ xs ys. xs ++ ys)
      (visit_targets g t law fits n (known n (here_in n nodes)) pass kind inner whole few host stand)
      (nodes_targets nodes (λ m h. known m (later_in n m nodes h)))

  nodes_in_tree : (nodes : List ℕ) → ((n : ℕ) → Contains nodes n → n < size t) → (x : Step)
      → Contains (host_steps g t pass host inner nodes) x → IsStepOf g t x
  nodes_in_tree nodes known x among =
      let f = in_flat_map (visit_steps g t pass host inner) nodes x among in
      visit_in_tree g t law fits f.0 (known f.0 f.1) pass kind inner host x f.2

  module _ (is_whole : Path → Bool) (p : Path) (there : Has t p) where
    abbrev nodes : List ℕ
    nodes = nodes_in (order_of pass.kind) (number_of t p) (node_count_by is_whole t p)

    nodes_known : (n : ℕ) → Contains nodes n → n < size t
    nodes_known n among =
        let less = in_nodes (order_of pass.kind) (number_of t p) (node_count_by is_whole t p) n among in
        let within = nodes_within g t fits is_whole p there in
        (let z : n < size t = omega (arith, less, within) in z)

    -- in the order of the pass, by what a form with these visits has
    by_kind : (k : PassKind) → k ≢ InOrder → (sequence : List Instance)
        → flat_map whole_visit
        (map (node_at t) (nodes_in (order_of k) (number_of t p) (node_count_by is_whole t p)))
        ≡ form_steps (kind_of k)
        (record {
          cut = record { kind = kind_of k; is_whole = is_whole };
          visit = whole_visit;
          sequence = sequence;
        }) t p
    by_kind TopDown ne sequence = ap (flat_map whole_visit) (range_is is_whole t p there)
    by_kind BottomUp ne sequence =
        ap (flat_map whole_visit)
        (map-reverse (node_at t) (range_with_len (number_of t p) (node_count_by is_whole t p))
        ∙ ap reverse (range_is is_whole t p there))
    by_kind InOrder ne sequence = absurd (ne refl)

    pub item_targets : (sequence : List Instance)
        → map (target_of g t) (host_steps g t pass host inner nodes)
        ≡ form_steps whole.kind
        (record {
          cut = record { kind = whole.kind; is_whole = is_whole };
          visit = whole_visit;
          sequence = sequence;
        }) t p
    item_targets sequence =
        nodes_targets nodes nodes_known
        ∙ by_kind pass.kind kind sequence
        ∙ ap
        (λ k. form_steps k
        (record { cut = record { kind = k; is_whole = is_whole }; visit = whole_visit; sequence = sequence }) t p)
        stand.kind

    pub item_in_tree : (x : Step) → Contains (host_steps g t pass host inner nodes) x → IsStepOf g t x
    item_in_tree x among = nodes_in_tree nodes nodes_known x among

module _ (g : AttributeGrammar) (t : Forest) (law : IsLawful g) (fits : IsTreeOf g t) (pass : Pass)
    (host : Option ℕ) (inner : List Pass) (kind : pass.kind ≢ InOrder)
    (s : NestingSchedule) (grain stage : ℕ) (x : Item) (there : Has t x.first) where
  abbrev steps_with : NestingPass → List Step
  steps_with w =
      host_steps g t pass host inner
      (nodes_in (order_of pass.kind) (number_of t x.first) (node_count_by (is_whole_with w.nest t grain) t x.first))

  abbrev instances : List Instance
  instances = item_steps (nest_form g s t grain stage) t x

  here : StandFor (nesting_pass s stage x.pass) pass host inner
      → StandsAtMostOnce g (inner_stages (nesting_pass s stage x.pass).nest)
      → AreStepsOf g t instances (steps_with (nesting_pass s stage x.pass))
  here stand few =
      let w = nesting_pass s stage x.pass in
      record {
        steps_are =
            item_in_tree g t law fits w pass host inner stand kind few (is_whole_with w.nest t grain) x.first there;
        targets =
            item_targets g t law fits w pass host inner stand kind few (is_whole_with w.nest t grain) x.first there
            (nest_form g s t grain stage x.pass).sequence;
      }

  pub item_is : (whole : NestingPass) → nesting_pass s stage x.pass ≡ whole → StandFor whole pass host inner
      → StandsAtMostOnce g (inner_stages whole.nest)
      → AreStepsOf g t instances (steps_with whole)
  item_is whole is stand few =
      subst (λ (w : NestingPass). AreStepsOf g t instances (steps_with w)) is
      (here (subst (λ (w : NestingPass). StandFor w pass host inner) (sym is) stand)
      (subst (λ (w : NestingPass). StandsAtMostOnce g (inner_stages w.nest)) (sym is) few))
