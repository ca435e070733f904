-- What the steps of the visit of a node compute.
use Rattle.std.proofs.Common.{◌≡◌, ◌≢◌, ◌⊎◌, ℕ, suc, ◌+◌, ◌<◌, ◌==◌, Bool, true, false, if◌then◌else◌, List, [], ◌∷◌, ◌++◌, flat_map, get_or, length, map, reverse, Contains, Option, None, Some, refl, sym, ◌∙◌, ap, ap₂, inl, inr, ⊎_elim, arith}
use Rattle.std.specs.List.{range_with_len}
use Rattle.std.proofs.lemmas.Grind.{flat_map-append}
use Rattle.std.proofs.lemmas.List.{append-nil, map-append}
use Rattle.std.proofs.lemmas.List.Elements.{Contains-append_cases}
use Rattle.ftl_model.proofs.lists.Elements.{in_cases, in_flat_map, nothing_in}
use Rattle.ftl_model.specs.layout.AttributeGrammar.{AttributeGrammar}
use Rattle.ftl_model.specs.layout.Path.{Has, Path, class_at, node_at, number_of, size_at}
use Rattle.ftl_model.specs.layout.Solves.{Instance}
use Rattle.ftl_model.specs.layout.Tree.{Forest, size}
use Rattle.ftl_model.specs.layout.TreeOf.{IsTreeOf}
use Rattle.ftl_order.specs.declared.steps.step.Step.{Step}
use Rattle.ftl_order.specs.orders.Lawful.{IsLawful}
use Rattle.ftl_order.specs.orders.Schedule as order
use Rattle.ftl_order.specs.orders.Schedule.{Schedule, bottomup, empty_pass, inorder, pass_at, topdown}
use Rattle.ftl_order.specs.steps.Steps.{IsStepOf, target_of}
use Rattle.ftl_schedule.specs.declared.stages.types.Pass.{Pass}
use Rattle.ftl_schedule.specs.declared.syntax.kind.PassKind.{PassKind}
use Rattle.ftl_schedule.specs.declared.syntax.kind.PassKind.TheVariants.{BottomUp, InOrder, TopDown}
use Rattle.ftl_schedule.specs.stages.Stages.{kind_of, pass_of}
use Rattle.ftl_tree.proofs.rows.Access.{has_at, number_at}
use Rattle.ftl_visit.specs.passes.VisitRows.{visits_of}
use Rattle.ftl_items.specs.stage_items.Cut.{subtree}
use Rattle.ftl_items.specs.stage_items.Items.{passes_of}
use Rattle.ftl_items.specs.stage_items.Visits.{visit}
use Rattle.ftl_nests.specs.NestItems as nests
use Rattle.ftl_nests.specs.NestItems.{hosted_visit, visit_with}
use Rattle.ftl_nests.specs.Nests.{Nest, NestingPass, host_of, inner_stages}
use Rattle.ftl_cursors.specs.declared.visits.nodes.NodeOrder.TheVariants.{Preorder, Reverse}
use Rattle.ftl_cursors.specs.item_cursor.ItemSteps.{AreStepsOf}
use Rattle.ftl_cursors.specs.visits.NodeRanges.{nodes_in}
use Rattle.ftl_cursors.specs.visits.VisitSteps.{steps_of_nodes}
use Rattle.ftl_cursors.specs.declared.visits.nodes.NodeOrder.{NodeOrder}
use Rattle.ftl_cursors.specs.inorder.InorderSteps.{inorder_steps}
use Rattle.ftl_cursors.proofs.inorder.InorderStepLemmas.{steps_at}
use Rattle.ftl_cursors.proofs.inorder.InorderTargets.{steps_at_node}
use Rattle.ftl_cursors.proofs.item_cursor.ItemVisits.{in_nodes}
use Rattle.ftl_cursors.proofs.visits.ItemLemmas.{bottomup_targets, topdown_targets}
use Rattle.ftl_cursors.proofs.visits.TargetLemmas.{steps_of_tree, targets_of_nodes}
use Rattle.ftl_host_cursors.proofs.NestLists.{nest_owns}
use Rattle.ftl_host_cursors.proofs.NodeLemmas.{tree_within}
use Rattle.ftl_host_cursors.specs.HostLaws.{StandFor, StandsAtMostOnce, passes_in_order}
use Rattle.ftl_host_cursors.specs.HostSteps.{hosted_steps, inner_pass_steps, inner_steps, is_host, own_steps, passes_at, tree_steps, visit_steps}

-- what a function gives at the places of a list, where it is what another one gives for the entries
by_places : {X Y : Type 0} (f : ℕ → List Y) (h : X → List Y) (d : X) (xs : List X) (a : ℕ)
    → ((k : ℕ) → k < length xs → f (k + a) ≡ h (get_or xs k d))
    → flat_map f (range_with_len a (length xs)) ≡ flat_map h xs
by_places f h d [] a same = refl
by_places f h d (x ∷ xs) a same =
    ap₂ (λ ys zs. ys ++ zs)
    (ap f (let z : a ≡ 0 + a = omega arith in z) ∙ same 0 (omega arith))
    (by_places f h d xs (a + 1)
    (λ k less. ap f (let z : k + (a + 1) ≡ suc k + a = omega arith in z) ∙ same (suc k) (omega (arith, less))))

-- piece by piece in one list
flat_map-flat_map : {X Y : Type 0} (f : X → List Y) (xss : List (List X))
    → flat_map f (flat_map (λ xs. xs) xss) ≡ flat_map (λ xs. flat_map f xs) xss
flat_map-flat_map f [] = refl
flat_map-flat_map f (xs ∷ xss) =
    flat_map-append f xs (flat_map (λ ys. ys) xss) ∙ ap (λ ys. flat_map f xs ++ ys) (flat_map-flat_map f xss)

-- without steps of inner passes, the own ones
only_own : (kind : PassKind) (own : List Step) → hosted_steps kind own [] ≡ own
only_own TopDown own = append-nil own
only_own BottomUp own = refl
only_own InOrder own = refl

-- what is among own and inner steps is among either
pub in_hosted : (kind : PassKind) (own inner : List Step) (x : Step) → Contains (hosted_steps kind own inner) x
    → Contains own x ⊎ Contains inner x
in_hosted TopDown own inner x among = Contains-append_cases own inner x among
in_hosted BottomUp own inner x among =
    ⊎_elim (λ h. inr h) (λ h. inl h) (Contains-append_cases inner own x among)
in_hosted InOrder own inner x among =
    ⊎_elim (λ h. inr h) (λ h. inl h) (Contains-append_cases inner own x among)

-- one node, which is there
one_known : (k n : ℕ) → n < k → (m : ℕ) → Contains (n ∷ []) m → m < k
one_known k n known m among =
    ⊎_elim (λ same. (let z : m < k = omega (arith, known, same) in z)) (λ none. absurd (nothing_in m none))
    (in_cases n m [] among)

module _ (g : AttributeGrammar) (t : Forest) (law : IsLawful g) (fits : IsTreeOf g t) where
  abbrev instances_of : List Step → List Instance
  instances_of xs = map (target_of g t) xs

  hosted_targets : (kind : PassKind) → kind ≢ InOrder → (own inner : List Step)
      → instances_of (hosted_steps kind own inner)
      ≡ hosted_visit (kind_of kind) (instances_of own) (instances_of inner)
  hosted_targets TopDown other own inner = map-append (target_of g t) own inner
  hosted_targets BottomUp other own inner = map-append (target_of g t) inner own
  hosted_targets InOrder other own inner = absurd (other refl)

  -- what an inner pass of this kind with this list has
  abbrev kind_instances : Path → order.PassKind → (attributes : List ℕ) → List Instance
  kind_instances h topdown attributes = flat_map (visit g t attributes) (subtree t h)
  kind_instances h bottomup attributes = flat_map (visit g t attributes) (reverse (subtree t h))
  kind_instances h inorder attributes = instances_of (inorder_steps g t attributes h)

  abbrev pass_instances : Path → order.Pass → List Instance
  pass_instances h p = kind_instances h p.kind p.attributes

  module _ (n : ℕ) (known : n < size t) where
    abbrev host : Path
    host = node_at t n

    own_targets : (pass : Pass) → pass.kind ≢ InOrder
        → instances_of (own_steps g t pass n) ≡ visit g t pass.attrs host
    own_targets pass other =
        targets_of_nodes g law pass.kind other pass.attrs t fits (n ∷ []) (one_known (size t) n known)
        ∙ append-nil (visit g t pass.attrs host)

    there : Has t host
    there = has_at g t n fits known

    pass_targets : (pass : Pass)
        → instances_of (inner_pass_steps g t n pass) ≡ pass_instances host (pass_of pass)
    pass_targets pass = by pass.kind
      where
        at_number : (kind : PassKind) (o : NodeOrder)
            → instances_of (steps_of_nodes g t (visits_of g kind pass.attrs) (nodes_in o n (size_at t host)))
            ≡ instances_of
            (steps_of_nodes g t (visits_of g kind pass.attrs) (nodes_in o (number_of t host) (size_at t host)))
        at_number kind o =
            ap
            (λ m. instances_of (steps_of_nodes g t (visits_of g kind pass.attrs) (nodes_in o m (size_at t host))))
            (sym (number_at g t n fits known))

        by : (kind : PassKind)
            → instances_of (tree_steps g t n kind pass.attrs) ≡ kind_instances host (kind_of kind) pass.attrs
        by TopDown = at_number TopDown Preorder ∙ topdown_targets g t fits (λ q. true) host there law pass.attrs
        by BottomUp = at_number BottomUp Reverse ∙ bottomup_targets g t fits (λ q. true) host there law pass.attrs
        by InOrder = refl

    inner_targets : (inner : List Pass)
        → instances_of (inner_steps g t n inner) ≡ flat_map (pass_instances host) (map pass_of inner)
    inner_targets [] = refl
    inner_targets (pass ∷ inner) =
        map-append (target_of g t) (inner_pass_steps g t n pass) (inner_steps g t n inner)
        ∙ ap₂ (λ xs ys. xs ++ ys) (pass_targets pass) (inner_targets inner)

    -- ---- stage by stage

    by_kind : (s : Schedule) → StandsAtMostOnce g s → (u m : ℕ) → u < length s → (kind : order.PassKind)
        → nests.inner_pass_steps g t s u m kind host ≡ kind_instances host kind (pass_at s u m).attributes
    by_kind s few u m stage_known topdown = refl
    by_kind s few u m stage_known bottomup = refl
    by_kind s few u m stage_known inorder =
        sym (steps_at_node g law s u m (nest_owns g s few u m stage_known) t fits host there)

    stages_are : (s : Schedule) → StandsAtMostOnce g s
        → nests.inner_steps g t s host ≡ flat_map (pass_instances host) (passes_in_order s)
    stages_are s few =
        by_places (nests.inner_stage_steps g t s host) (λ stage. flat_map (pass_instances host) stage) [] s 0
        (λ u stage_known.
        ap (nests.inner_stage_steps g t s host) (let z : u + 0 ≡ u = omega arith in z)
        ∙ by_places (λ m. nests.inner_pass_steps g t s u m (pass_at s u m).kind host) (pass_instances host) empty_pass
        (passes_of s u) 0
        (λ m pass_known.
        ap (λ k. nests.inner_pass_steps g t s u k (pass_at s u k).kind host) (let z : m + 0 ≡ m = omega arith in z)
        ∙ by_kind s few u m stage_known (pass_at s u m).kind))
        ∙ sym (flat_map-flat_map (pass_instances host) s)

    module _ (pass : Pass) (kind : pass.kind ≢ InOrder) (inner : List Pass) where
      abbrev own : List Step
      own = own_steps g t pass n

      nest_targets : (s : Schedule) → StandsAtMostOnce g s → map pass_of inner ≡ passes_in_order s
          → instances_of (inner_steps g t n inner) ≡ nests.inner_steps g t s host
      nest_targets s few are =
          inner_targets inner ∙ ap (flat_map (pass_instances host)) are ∙ sym (stages_are s few)

      alone : instances_of (hosted_steps pass.kind own []) ≡ visit g t pass.attrs host
      alone = ap instances_of (only_own pass.kind own) ∙ own_targets pass kind

      by_nest : (nest : Option Nest) → StandsAtMostOnce g (inner_stages nest)
          → map pass_of inner ≡ passes_in_order (inner_stages nest)
          → instances_of (visit_steps g t pass (host_of nest) inner n)
          ≡ visit_with g t (kind_of pass.kind) pass.attrs nest host
      by_nest None few are = alone
      by_nest (Some nest) few are =
          elim (class_at t host == nest.host) as
          (λ b. instances_of (hosted_steps pass.kind own (inner_steps g t n (if b then inner else [])))
          ≡ (if b then hosted_visit (kind_of pass.kind) (visit g t pass.attrs host) (nests.inner_steps g t nest.stages host)
          else visit g t pass.attrs host)) [
            | true ↦
                hosted_targets pass.kind kind own (inner_steps g t n inner)
                ∙ ap₂ (hosted_visit (kind_of pass.kind)) (own_targets pass kind) (nest_targets nest.stages few are)
            | false ↦ alone
          ]

      pub visit_targets : (whole : NestingPass) → StandsAtMostOnce g (inner_stages whole.nest)
          → (host_class : Option ℕ) → StandFor whole pass host_class inner
          → instances_of (visit_steps g t pass host_class inner n)
          ≡ visit_with g t whole.kind whole.attributes whole.nest host
      visit_targets whole few host_class stand =
          ap (λ c. instances_of (visit_steps g t pass c inner n)) stand.host
          ∙ by_nest whole.nest few stand.inner
          ∙ ap₂ (λ k attributes. visit_with g t k attributes whole.nest host) stand.kind stand.own

      -- ---- steps of the tree

      in_tree : (p : Pass) (x : Step) → p.kind ≢ InOrder → (nodes : List ℕ)
          → ((m : ℕ) → Contains nodes m → m < size t)
          → Contains (steps_of_nodes g t (visits_of g p.kind p.attrs) nodes) x → IsStepOf g t x
      in_tree p x other nodes within among = steps_of_tree g law p.kind other p.attrs t fits nodes within x among

      of_nodes : (attributes : List ℕ) (x : Step) (k : PassKind) → k ≢ InOrder → (o : NodeOrder)
          → Contains (steps_of_nodes g t (visits_of g k attributes) (nodes_in o n (size_at t host))) x → IsStepOf g t x
      of_nodes attributes x k ne o among =
          let within = tree_within g t fits n known in
          steps_of_tree g law k ne attributes t fits (nodes_in o n (size_at t host))
          (λ m h.
          let less = in_nodes o n (size_at t host) m h in
          (let z : m < size t = omega (arith, less, within) in z))
          x among

      of_kind : (attributes : List ℕ) (x : Step) (k : PassKind) → Contains (tree_steps g t n k attributes) x
          → IsStepOf g t x
      of_kind attributes x TopDown among = of_nodes attributes x TopDown (λ e. cc) Preorder among
      of_kind attributes x BottomUp among = of_nodes attributes x BottomUp (λ e. cc) Reverse among
      of_kind attributes x InOrder among = steps_at g law t fits attributes host there x among

      inner_in_tree : (x : Step) → Contains (inner_steps g t n inner) x → IsStepOf g t x
      inner_in_tree x among =
          let f = in_flat_map (inner_pass_steps g t n) inner x among in
          of_kind f.0.attrs x f.0.kind f.2

      pub visit_in_tree : (host_class : Option ℕ) (x : Step) → Contains (visit_steps g t pass host_class inner n) x
          → IsStepOf g t x
      visit_in_tree host_class x among =
          ⊎_elim (λ h. in_tree pass x kind (n ∷ []) (one_known (size t) n known) h)
          (λ h. at_host (is_host t host_class n) h)
          (in_hosted pass.kind own (inner_steps g t n (passes_at t host_class inner n)) x among)
        where
          at_host : (b : Bool) → Contains (inner_steps g t n (if b then inner else [])) x → IsStepOf g t x
          at_host true h = inner_in_tree x h
          at_host false h = absurd (nothing_in x h)

      pub visit_is : (whole : NestingPass) → StandsAtMostOnce g (inner_stages whole.nest)
          → (host_class : Option ℕ) → StandFor whole pass host_class inner
          → AreStepsOf g t (visit_with g t whole.kind whole.attributes whole.nest host)
          (visit_steps g t pass host_class inner n)
      visit_is whole few host_class stand = record {
        steps_are = visit_in_tree host_class;
        targets = visit_targets whole few host_class stand;
      }
