-- The forms of a stage of an ordered schedule with nests meet what makes a stage lawful work.
use Rattle.std.proofs.Common.{◌≡◌, ◌≢◌, ◌⊎◌, ℕ, zero, suc, ◌<◌, ◌≤◌, ◌==◌, true, false, if◌then◌else◌, refl, sym, ◌∙◌, ap, ap₂, subst, subst₂, inl, inr, ⊎_elim, arith, eqb-true, eq-eqb, List, [], ◌∷◌, get_or, length, Option, None, Some, Contains}
use Rattle.std.proofs.lemmas.List.Elements.{Contains-append_cases, Contains-append_left, Contains-append_right}
use Rattle.ftl_cells.specs.declared.shared.kind.CellKind.{CellKind}
use Rattle.ftl_cells.specs.declared.shared.kind.CellKind.TheVariants.{Given}
use Rattle.ftl_model.specs.lists.Lists.{AreDistinct, Before, StandsBefore, is_listed, place_in}
use Rattle.ftl_model.proofs.lists.Elements.{distinct-append}
use Rattle.ftl_model.proofs.lists.Listed.{counted_in, is_there, listed}
use Rattle.ftl_model.proofs.lists.Rising.{before_once}
use Rattle.ftl_model.specs.layout.AttributeGrammar.{AttributeGrammar, input}
use Rattle.ftl_model.specs.layout.Path.{Has, Path, class_at, parent_of, top}
use Rattle.ftl_model.specs.layout.Solves.{Instance}
use Rattle.ftl_model.specs.layout.Tree.{Forest, IsTree}
use Rattle.ftl_model.specs.layout.TreeOf.{IsTreeOf}
use Rattle.ftl_order.specs.orders.Lawful.{IsLawful}
use Rattle.ftl_order.specs.orders.LegalOrder.{IsStep, KeyFirst, DirectlyFirstInPass, Turn, TurnPrecedesDirectly, address, turn_of, way_to}
use Rattle.ftl_order.specs.orders.Ordered.{IsSameRule}
use Rattle.ftl_order.specs.orders.Reads.{Reads}
use Rattle.ftl_order.specs.orders.Schedule.{IsOnePass, Pass, PassKind, Placing, Schedule, SchedulePlace, bottomup, entries, inorder, pass_at, placing_of, topdown}
use Rattle.ftl_order.specs.orders.Sequence.{sequence_at}
use Rattle.ftl_order.proofs.orders.Kids.{root_there}
use Rattle.ftl_order.proofs.orders.SequenceAddresses.{EarlierAddress}
use Rattle.ftl_order.proofs.orders.SequenceOnly.{rising_distinct, sequence_only}
use Rattle.ftl_order.proofs.orders.SequenceOrder.{sequence_rises, stands_by_address, step_there, top_above}
use Rattle.ftl_items.specs.stage_items.Cut.{begins_by, is_open, tops_by}
use Rattle.ftl_items.specs.stage_items.Items.{PassForm, cuts_of, hands_on, is_next_by, item, kinds_of, pass_place}
use Rattle.ftl_items.specs.stage_items.StageWork.{form_items, kind_of}
use Rattle.ftl_items.specs.stage_items.VisitLaws.{StandsOnceAtMost}
use Rattle.ftl_items.specs.stage_items.Visits.{visit}
use Rattle.ftl_items.proofs.stage_items.Ahead.{Ahead, ahead_across, ahead_left, ahead_right, ahead_stands}
use Rattle.ftl_items.proofs.stage_items.ByKey.{key_ahead_by}
use Rattle.ftl_items.proofs.stage_items.HandingLaws.{both, kid_of}
use Rattle.ftl_items.proofs.stage_items.Passes.{listed_at, many, many-append, stage_here}
use Rattle.ftl_items.proofs.stage_items.VisitLaws.{in_visit, visit_has, visit_once}
use Rattle.ftl_items.proofs.stage_items.CellKinds.{kind_given, kind_target, target_kind_of}
use Rattle.ftl_items.specs.stage_items.FormLaws.{AreForms, IsOfPass, StandsDirectlyBefore, steps_at_node}
use Rattle.ftl_nests.specs.Hosted.{HostedDirectlyFirst, IsHost, nearest}
use Rattle.ftl_nests.specs.NestItems.{hosted_visit, inner_steps, is_whole_with, nest_form, pass_count, visit_with}
use Rattle.ftl_nests.specs.Nests.{IsNestOrdered, Nest, NestingPass, NestingSchedule, home_pass, host_in, host_of, inner_stages, nesting_pass, outer_schedule, nest_placing_of, whole_pass}
use Rattle.ftl_items.proofs.stage_items.CutItems.{in_tops_by, item_here}
use Rattle.ftl_nests.proofs.FlatLists.{place-append}
use Rattle.ftl_nests.proofs.HostedOrder.{nearest_host}
use Rattle.ftl_nests.proofs.InnerSteps.{inner_has, inner_near, inner_once, inner_only, placed, visit_of}
use Rattle.ftl_nests.proofs.RegionNodes.{one_host}
use Rattle.ftl_nests.proofs.Sides.{home_lists, host_some, hosts, many_outer, nest_lists, outer_length, outer_pass_at, own_lists, sides_kept}
use Rattle.ftl_nests.proofs.Writers.{HasSides, nest_near}

-- ---- a host's own rules and its inner steps

hosted_cases : (kind : PassKind) (xs ys : List Instance) (i : Instance) → Contains (hosted_visit kind xs ys) i
    → Contains xs i ⊎ Contains ys i
hosted_cases topdown xs ys i c = Contains-append_cases xs ys i c
hosted_cases bottomup xs ys i c = ⊎_elim (λ y. inr y) (λ x. inl x) (Contains-append_cases ys xs i c)
hosted_cases inorder xs ys i c = inl c

hosted_own : (kind : PassKind) (xs ys : List Instance) (i : Instance) → Contains xs i → Contains (hosted_visit kind xs ys) i
hosted_own topdown xs ys i c = Contains-append_left xs ys i c
hosted_own bottomup xs ys i c = Contains-append_right ys xs i c
hosted_own inorder xs ys i c = c

hosted_inner : (kind : PassKind) → kind ≢ inorder → (xs ys : List Instance) (i : Instance) → Contains ys i
    → Contains (hosted_visit kind xs ys) i
hosted_inner topdown some xs ys i c = Contains-append_right xs ys i c
hosted_inner bottomup some xs ys i c = Contains-append_left ys xs i c
hosted_inner inorder some xs ys i c = absurd (some refl)

hosted_once : (kind : PassKind) (xs ys : List Instance) → AreDistinct xs → AreDistinct ys
    → ((i : Instance) → Contains xs i → Contains ys i → ⊥)
    → AreDistinct (hosted_visit kind xs ys)
hosted_once topdown xs ys dx dy apart = distinct-append xs ys dx dy apart
hosted_once bottomup xs ys dx dy apart = distinct-append ys xs dy dx (λ i hy hx. apart i hx hy)
hosted_once inorder xs ys dx dy apart = dx

own_ahead : (kind : PassKind) (xs ys : List Instance) (i j : Instance) → Ahead xs i j → Ahead (hosted_visit kind xs ys) i j
own_ahead topdown xs ys i j a = ahead_left xs ys i j a
own_ahead bottomup xs ys i j a = ahead_right ys xs i j a
own_ahead inorder xs ys i j a = a

inner_ahead : (kind : PassKind) → kind ≢ inorder → (xs ys : List Instance) (i j : Instance) → Ahead ys i j
    → Ahead (hosted_visit kind xs ys) i j
inner_ahead topdown some xs ys i j a = ahead_right xs ys i j a
inner_ahead bottomup some xs ys i j a = ahead_left ys xs i j a
inner_ahead inorder some xs ys i j a = absurd (some refl)

-- what stands near by one placing does by another that has both attributes at the same spots
key_moves : (at other : Placing) (x y : Turn) → at x.rule.attribute ≡ other x.rule.attribute
    → at y.rule.attribute ≡ other y.rule.attribute
    → KeyFirst at x y
    → KeyFirst other x y
key_moves at other x y ex ey first =
    subst₂
    (λ (u v : SchedulePlace).
    ((u.index < v.index) ⊎ ((u.index ≡ v.index) × (x.rule.child < y.rule.child)))
    ⊎ (IsSameRule x.rule y.rule × (x.kid < y.kid)))
    ex ey first

near_moves : (kind : PassKind) (at other : Placing) (x y : Turn) → at x.rule.attribute ≡ other x.rule.attribute
    → at y.rule.attribute ≡ other y.rule.attribute
    → DirectlyFirstInPass kind at x y
    → DirectlyFirstInPass kind other x y
near_moves topdown at other x y ex ey near =
    ⊎_elim (λ here. inl (here.0, key_moves at other x y ex ey here.1)) (λ parent. inr parent) near
near_moves bottomup at other x y ex ey near =
    ⊎_elim (λ here. inl (here.0, key_moves at other x y ex ey here.1)) (λ parent. inr parent) near
near_moves inorder at other x y ex ey near =
    subst₂
    (λ (u v : SchedulePlace).
    Before (way_to x.visit (x.rule.block ∷ (x.rule.child ∷ (x.kid ∷ (0 ∷ (u.index ∷ []))))))
    (way_to y.visit (y.rule.block ∷ (y.rule.child ∷ (y.kid ∷ (0 ∷ (v.index ∷ [])))))))
    ex ey near

moved : (at other : Placing) (x y : Turn) → at x.rule.attribute ≡ other x.rule.attribute
    → at y.rule.attribute ≡ other y.rule.attribute
    → TurnPrecedesDirectly at x y
    → TurnPrecedesDirectly other x y
moved at other x y ex ey near =
    ⊎_elim (λ stage. inl (subst₂ (λ (u v : SchedulePlace). u.stage < v.stage) ex ey stage))
    (λ here.
    inr (
      subst₂ (λ (u v : SchedulePlace). IsOnePass u v) ex ey here.0,
      subst (λ (v : SchedulePlace). DirectlyFirstInPass v.kind other x y) ey
          (near_moves (at y.rule.attribute).kind at other x y ex ey here.1),
    )) near

-- the node in whose visit a step runs, where its attribute has this host class, if any
abbrev pub place_by : Forest → Option ℕ → Path → Path
place_by t None v = v
place_by t (Some k) v = nearest t k v

module _ (g : AttributeGrammar) (s : NestingSchedule) (t : Forest) (law : IsLawful g) (ordered : IsNestOrdered g s)
    (none_in_order : (m n : ℕ) (nest : Nest) → (nesting_pass s m n).nest ≡ Some nest
    → (nesting_pass s m n).kind ≢ inorder)
    (fits : IsTreeOf g t) (grain stage : ℕ) where
  root : IsTree t
  root = root_there g t fits

  abbrev outer : Schedule
  outer = outer_schedule s

  sides : HasSides g t (nest_placing_of s)
  sides = sides_kept g s ordered.once ordered.sides t law fits

  abbrev pub kind_at : Instance → CellKind
  kind_at i = kind_of g outer stage i

  -- the steps of a pass of the stage
  abbrev pub Of : ℕ → Instance → Type 0
  Of m i = IsStep g t i × IsOnePass (placing_of outer i.attribute) (pass_place stage m)

  -- the node in whose visit a step runs: its own, or its host
  abbrev pub place : Instance → Path
  place i = place_by t ((nest_placing_of s).host i.attribute) (turn_of g i).visit

  abbrev forms : ℕ → PassForm
  forms m = nest_form g s t grain stage m

  abbrev count : ℕ
  count = pass_count s stage

  step_known : (m : ℕ) (i : Instance) → Of m i → m < count
  step_known m i of =
      let l = (listed_at outer i.attribute (many_outer g s ordered.once t law fits i of.0)).known in
      let z : m < length (get_or outer stage []) =
      subst (λ n. m < length (get_or outer n [])) of.1.0
      (subst (λ n. n < length (get_or outer (placing_of outer i.attribute).stage [])) of.1.1 l) in
      let e = outer_length s stage in
      omega (arith, z, e)

  -- a step's host is the nearest node of its class
  host_is : (i : Instance) (k : ℕ) (h : Path) → IsStep g t i → (nest_placing_of s).host i.attribute ≡ Some k
      → IsHost t k h (turn_of g i).visit → place i ≡ h
  host_is i k h step e is =
      ap (λ o. place_by t o (turn_of g i).visit) e
      ∙ one_host g t fits k (sides.closed i.attribute k e) (nearest t k (turn_of g i).visit) h (turn_of g i).visit
      (nearest_host g t law fits (nest_placing_of s) sides i k step e) is

  own_place : (i : Instance) → (nest_placing_of s).host i.attribute ≡ None → place i ≡ (turn_of g i).visit
  own_place i e = ap (λ o. place_by t o (turn_of g i).visit) e

  place_there : (i : Instance) → IsStep g t i → Has t (place i)
  place_there i step = go ((nest_placing_of s).host i.attribute) refl
    where
      go : (o : Option ℕ) → (nest_placing_of s).host i.attribute ≡ o → Has t (place_by t o (turn_of g i).visit)
      go None e = visit_of g t i step
      go (Some k) e = (nearest_host g t law fits (nest_placing_of s) sides i k step e).there

  -- ---- one pass

  module _ (m : ℕ) where
    abbrev pass : NestingPass
    pass = nesting_pass s stage m

    abbrev own : List ℕ
    own = pass.attributes

    home_is : (i : Instance) → Of m i → home_pass s i.attribute ≡ pass
    home_is i of = ap₂ (λ u v. nesting_pass s u v) of.1.0 of.1.1

    host_here : (i : Instance) → Of m i → (nest_placing_of s).host i.attribute ≡ host_in pass i.attribute
    host_here i of = ap (λ p. host_in p i.attribute) (home_is i of)

    lists_here : (i : Instance) → Of m i → Contains (whole_pass pass).attributes i.attribute
    lists_here i of =
        subst (λ p. Contains (whole_pass p).attributes i.attribute) (home_is i of) (home_lists g s ordered.once t law fits i of.0)

    -- a step that the pass lists is of it
    of_whole : (i : Instance) → IsStep g t i → Contains (whole_pass pass).attributes i.attribute → Of m i
    of_whole i step c =
        let e = many_outer g s ordered.once t law fits i step in
        let here =
        stage_here outer stage m i.attribute (omega (arith, e))
        (subst (λ (p : Pass). Contains p.attributes i.attribute) (sym (outer_pass_at s stage m)) c) in
        (step, (here.stage, here.pass))

    few_whole : (a : ℕ) → a < g.attribute_count → g.sort a ≢ input → many a (whole_pass pass).attributes ≤ 1
    few_whole a known computed =
        subst (λ (p : Pass). many a p.attributes ≤ 1) (outer_pass_at s stage m)
        (go (many a (pass_at outer stage m).attributes) refl)
      where
        go : (n : ℕ) → many a (pass_at outer stage m).attributes ≡ n → many a (pass_at outer stage m).attributes ≤ 1
        go zero e = omega (arith, e)
        go (suc n) e =
            let c = ordered.once a known computed in
            (stage_here outer stage m a (omega (arith, c))
            (counted_in (pass_at outer stage m).attributes a (omega (arith, e)))).few

    few_own : StandsOnceAtMost g own
    few_own a known computed =
        let w = few_whole a known computed in
        let e = many-append a own (entries (inner_stages pass.nest)) in
        omega (arith, w, e)

    few_inner : (nest : Nest) → pass.nest ≡ Some nest → (a : ℕ) → a < g.attribute_count → g.sort a ≢ input
        → many a (entries nest.stages) ≤ 1
    few_inner nest e a known computed =
        let w = few_whole a known computed in
        let f = many-append a own (entries (inner_stages pass.nest)) in
        subst (λ n. many a (entries (inner_stages n)) ≤ 1) e (omega (arith, w, f))

    index_is : (i : Instance) → IsStep g t i → Contains own i.attribute
        → (placing_of outer i.attribute).index ≡ place_in own i.attribute
    index_is i step c =
        let a = i.attribute in
        let of = of_whole i step (Contains-append_left own (entries (inner_stages pass.nest)) a c) in
        ap₂ (λ u v. place_in (pass_at outer u v).attributes a) of.1.0 of.1.1
        ∙ ap (λ (p : Pass). place_in p.attributes a) (outer_pass_at s stage m)
        ∙ place-append own (entries (inner_stages pass.nest)) a (listed own a c)

    own_host : (a : ℕ) → Contains own a → host_in pass a ≡ None
    own_host a c = ap (λ b. if b then None else host_of pass.nest) (listed own a c)

    own_only : (p : Path) → Has t p → (i : Instance) → Contains (visit g t own p) i → Of m i × (place i ≡ p)
    own_only p there i c =
        let v = in_visit g law t fits own p there i c in
        let of = of_whole i v.0 (Contains-append_left own (entries (inner_stages pass.nest)) i.attribute v.1) in
        (of, own_place i (host_here i of ∙ own_host i.attribute v.1) ∙ v.2)

    module _ (nest : Nest) (is : pass.nest ≡ Some nest) where
      apart : (a : ℕ) → Contains own a → Contains (entries nest.stages) a → ⊥
      apart a own_a inner_a =
          let kept = ordered.sides stage m nest is in kept.own a own_a (kept.inner a inner_a)

      inner_host : (a : ℕ) → Contains (entries nest.stages) a → host_in pass a ≡ Some nest.host
      inner_host a c =
          elim (is_listed own a) as
          (λ b. (is_listed own a ≡ b) → (if b then None else host_of pass.nest) ≡ Some nest.host) [
            | true ↦ λ e. absurd (apart a (is_there own a e) c)
            | false ↦ λ e. ap host_of is
          ]
          refl

      inner_of : (i : Instance) → IsStep g t i → Contains (entries nest.stages) i.attribute → Of m i
      inner_of i step c =
          of_whole i step
          (Contains-append_right own (entries (inner_stages pass.nest)) i.attribute
          (subst (λ n. Contains (entries (inner_stages n)) i.attribute) (sym is) c))

      abbrev inner_at : Path → List Instance
      inner_at p = inner_steps g t nest.stages p

      nested_only : (p : Path) → Has t p → class_at t p ≡ nest.host → (i : Instance) → Contains (inner_at p) i
          → Of m i × (place i ≡ p)
      nested_only p there class i c =
          let f = inner_only g law t fits nest.stages (few_inner nest is) p there i c in
          let x = f.is in
          let of = inner_of i x.step x.listed in (
            of,
            host_is i nest.host p x.step (host_here i of ∙ inner_host i.attribute x.listed)
                (record { there = there; of_class = class; holds = x.below }),
          )

    only : (nest : Option Nest) → pass.nest ≡ nest → (p : Path) → Has t p → (i : Instance)
        → Contains (visit_with g t pass.kind own nest p) i
        → Of m i × (place i ≡ p)
    only None is p there i c = own_only p there i c
    only (Some nest) is p there i c =
        elim (class_at t p == nest.host) as
        (λ b. (class_at t p == nest.host ≡ b)
        → Contains
        (if b then hosted_visit pass.kind (visit g t own p) (inner_steps g t nest.stages p) else visit g t own p) i
        → Of m i × (place i ≡ p)) [
          | true ↦ λ e c.
              ⊎_elim (λ x. own_only p there i x)
              (λ y. nested_only nest is p there (eqb-true (class_at t p) nest.host e) i y)
              (hosted_cases pass.kind (visit g t own p) (inner_steps g t nest.stages p) i c)
          | false ↦ λ e c. own_only p there i c
        ]
        refl c

    own_has : (nest : Option Nest) (p : Path) (i : Instance) → Contains (visit g t own p) i
        → Contains (visit_with g t pass.kind own nest p) i
    own_has None p i c = c
    own_has (Some nest) p i c =
        elim (class_at t p == nest.host) as
        (λ b. Contains
        (if b then hosted_visit pass.kind (visit g t own p) (inner_steps g t nest.stages p) else visit g t own p) i)
        [ true ↦ hosted_own pass.kind (visit g t own p) (inner_steps g t nest.stages p) i c | false ↦ c ]

    own_goes_ahead : (nest : Option Nest) (p : Path) (i j : Instance) → Ahead (visit g t own p) i j
        → Ahead (visit_with g t pass.kind own nest p) i j
    own_goes_ahead None p i j a = a
    own_goes_ahead (Some nest) p i j a =
        elim (class_at t p == nest.host) as
        (λ b. Ahead
        (if b then hosted_visit pass.kind (visit g t own p) (inner_steps g t nest.stages p) else visit g t own p) i j)
        [ true ↦ own_ahead pass.kind (visit g t own p) (inner_steps g t nest.stages p) i j a | false ↦ a ]

    -- the visit of a host
    at_host : (nest : Nest) → pass.nest ≡ Some nest → (p : Path) → class_at t p ≡ nest.host
        → visit_with g t pass.kind own pass.nest p
        ≡ hosted_visit pass.kind (visit g t own p) (inner_steps g t nest.stages p)
    at_host nest is p class =
        ap (λ n. visit_with g t pass.kind own n p) is
        ∙ ap
        (λ b. if b then hosted_visit pass.kind (visit g t own p) (inner_steps g t nest.stages p) else visit g t own p)
        (eq-eqb (class_at t p) nest.host class)

    -- a step of the own list
    own_step : (i : Instance) → Of m i → host_in pass i.attribute ≡ None → Contains (visit g t own (turn_of g i).visit) i
    own_step i of e =
        visit_has g law t fits own (turn_of g i).visit i of.0 (own_lists pass i.attribute e (lists_here i of)) refl

    -- a step of the nest
    pub record Nested (k : ℕ) (i : Instance) : Type 0 where
      pub nest : Nest
      pub is : pass.nest ≡ Some nest
      pub host : nest.host ≡ k
      pub listed : Contains (entries nest.stages) i.attribute
      pub place_host : IsHost t k (place i) (turn_of g i).visit

    nested : (i : Instance) (k : ℕ) → Of m i → host_in pass i.attribute ≡ Some k → Nested k i
    nested i k of e =
        let h = hosts pass.nest k (host_some pass i.attribute k e).0 in
        let f = host_here i of ∙ e in
        record {
          nest = h.it;
          is = h.is;
          host = h.host;
          listed =
              subst (λ n. Contains (entries (inner_stages n)) i.attribute) h.is
              (nest_lists pass i.attribute k e (lists_here i of));
          place_host =
              subst (λ q. IsHost t k q (turn_of g i).visit) (sym (ap (λ o. place_by t o (turn_of g i).visit) f))
              (nearest_host g t law fits (nest_placing_of s) sides i k of.0 f);
        }

    abbrev visit_here : Path → List Instance
    visit_here p = visit_with g t pass.kind own pass.nest p

    has : pass.kind ≢ inorder → (i : Instance) → Of m i → Contains (visit_here (place i)) i
    has some i of = go (host_in pass i.attribute) refl
      where
        go : (o : Option ℕ) → host_in pass i.attribute ≡ o → Contains (visit_here (place i)) i
        go None e =
            subst (λ p. Contains (visit_here p) i) (sym (own_place i (host_here i of ∙ e)))
            (own_has pass.nest (turn_of g i).visit i (own_step i of e))
        go (Some k) e =
            let n = nested i k of e in
            subst (λ is. Contains is i)
            (sym (at_host n.nest n.is (place i) (n.place_host.of_class ∙ sym n.host)))
            (hosted_inner pass.kind some (visit g t own (place i)) (inner_steps g t n.nest.stages (place i)) i
            (inner_has g law t fits n.nest.stages (few_inner n.nest n.is) (place i) n.place_host.there i of.0 n.listed
            n.place_host.holds))

    once_with : (nest : Option Nest) → pass.nest ≡ nest → (p : Path) → Has t p
        → AreDistinct (visit_with g t pass.kind own nest p)
    once_with None is p there = visit_once g law t fits own p few_own there
    once_with (Some nest) is p there =
        elim (class_at t p == nest.host) as
        (λ b. AreDistinct
        (if b then hosted_visit pass.kind (visit g t own p) (inner_steps g t nest.stages p) else visit g t own p)) [
          | true ↦
              hosted_once pass.kind (visit g t own p) (inner_steps g t nest.stages p)
              (visit_once g law t fits own p few_own there)
              (inner_once g law t fits nest.stages (few_inner nest is) p there)
              (λ i x y.
              apart nest is i.attribute (in_visit g law t fits own p there i x).1
              (inner_only g law t fits nest.stages (few_inner nest is) p there i y).is.listed)
          | false ↦ visit_once g law t fits own p few_own there
        ]

    -- ---- near

    key_here : (i j : Instance) → Of m i → Of m j → host_in pass i.attribute ≡ None → host_in pass j.attribute ≡ None
        → (turn_of g j).visit ≡ (turn_of g i).visit → KeyFirst (placing_of outer) (turn_of g j) (turn_of g i)
        → Ahead (visit_here (turn_of g i).visit) j i
    key_here i j of_i of_j ei ej same first =
        own_goes_ahead pass.nest (turn_of g i).visit j i
        (key_ahead_by g law t fits (placing_of outer) own index_is (turn_of g i).visit j i (visit_of g t i of_i.0)
        (subst (λ v. Contains (visit g t own v) j) same (own_step j of_j ej)) (own_step i of_i ei) first)

    abbrev Near : PassKind → Instance → Instance → Type 0
    Near kind j i = StandsDirectlyBefore kind (forms m) place j i

    stands_at : (i j : Instance) → Ahead (visit_here (place i)) j i → StandsBefore (visit_here (place i)) j i
    stands_at i j ahead = ahead_stands (visit_here (place i)) j i ahead

    own_near : (kind : PassKind) (i j : Instance) → Of m i → Of m j → host_in pass i.attribute ≡ None
        → host_in pass j.attribute ≡ None → DirectlyFirstInPass kind (placing_of outer) (turn_of g j) (turn_of g i)
        → Near kind j i
    own_near topdown i j of_i of_j ei ej near =
        let pi = own_place i (host_here i of_i ∙ ei) in
        let pj = own_place j (host_here j of_j ∙ ej) in
        ⊎_elim
        (λ here. inl (
          pj ∙ here.0 ∙ sym pi,
          stands_at i j (subst (λ p. Ahead (visit_here p) j i) (sym pi) (key_here i j of_i of_j ei ej here.0 here.1)),
        ))
        (λ parent. inr (ap parent_of pi ∙ parent ∙ ap Some (sym pj))) near
    own_near bottomup i j of_i of_j ei ej near =
        let pi = own_place i (host_here i of_i ∙ ei) in
        let pj = own_place j (host_here j of_j ∙ ej) in
        ⊎_elim
        (λ here. inl (
          pj ∙ here.0 ∙ sym pi,
          stands_at i j (subst (λ p. Ahead (visit_here p) j i) (sym pi) (key_here i j of_i of_j ei ej here.0 here.1)),
        ))
        (λ parent. inr (ap parent_of pj ∙ parent ∙ ap Some (sym pi))) near
    own_near inorder i j of_i of_j ei ej near =
        stands_by_address g law outer ordered.once t fits (pass_place stage m) top root j i
        (step_there g law outer ordered.once t fits (pass_place stage m) top root j of_j.0 (top_above (turn_of g j).visit)
        of_j.1)
        (step_there g law outer ordered.once t fits (pass_place stage m) top root i of_i.0 (top_above (turn_of g i).visit)
        of_i.1)
        near

    -- in one visit, where the pass is no inorder one
    same_visit : (kind : PassKind) → kind ≢ inorder → (i j : Instance) → place j ≡ place i
        → Ahead (visit_here (place i)) j i
        → Near kind j i
    same_visit topdown some i j same ahead = inl (same, stands_at i j ahead)
    same_visit bottomup some i j same ahead = inl (same, stands_at i j ahead)
    same_visit inorder some i j same ahead = absurd (some refl)

    both_near : pass.kind ≢ inorder → (i j : Instance) → Of m i → Of m j → (h k : ℕ)
        → host_in pass j.attribute ≡ Some h → host_in pass i.attribute ≡ Some k
        → (host : Path) → IsHost t h host (turn_of g j).visit → IsHost t k host (turn_of g i).visit
        → TurnPrecedesDirectly (nest_placing_of s).inner (turn_of g j) (turn_of g i) → Near pass.kind j i
    both_near some i j of_i of_j h k ej ei host is_j is_i near =
        let ni = nested i k of_i ei in
        let nj = nested j h of_j ej in
        let pi : place i ≡ host = host_is i k host of_i.0 (host_here i of_i ∙ ei) is_i in
        let pj : place j ≡ host = host_is j h host of_j.0 (host_here j of_j ∙ ej) is_j in
        let stages = ni.nest.stages in
        let class : class_at t host ≡ ni.nest.host = is_i.of_class ∙ sym ni.host in
        let same : Some nj.nest ≡ Some ni.nest = sym nj.is ∙ ni.is in
        let listed_j : Contains (entries stages) j.attribute =
        subst (λ n. Contains (entries (inner_stages n)) j.attribute) same nj.listed in
        let spot_i : (nest_placing_of s).inner i.attribute ≡ placing_of stages i.attribute =
        ap (λ (p : NestingPass). placing_of (inner_stages p.nest) i.attribute) (home_is i of_i)
        ∙ ap (λ n. placing_of (inner_stages n) i.attribute) ni.is in
        let spot_j : (nest_placing_of s).inner j.attribute ≡ placing_of stages j.attribute =
        ap (λ (p : NestingPass). placing_of (inner_stages p.nest) j.attribute) (home_is j of_j)
        ∙ ap (λ n. placing_of (inner_stages n) j.attribute) ni.is in
        let few = few_inner ni.nest ni.is in
        let ahead =
        inner_near g law t fits stages few host is_i.there i j
        (placed g law t fits stages few host is_i.there i of_i.0 ni.listed is_i.holds)
        (placed g law t fits stages few host is_i.there j of_j.0 listed_j is_j.holds)
        (moved (nest_placing_of s).inner (placing_of stages) (turn_of g j) (turn_of g i) spot_j spot_i near) in
        same_visit pass.kind some i j (pj ∙ sym pi)
        (subst (λ p. Ahead (visit_here p) j i) (sym pi)
        (subst (λ is. Ahead is j i) (sym (at_host ni.nest ni.is host class))
        (inner_ahead pass.kind some (visit g t own host) (inner_steps g t stages host) j i ahead)))

    -- only the reader is hosted: the writer's rules come first
    reader_near : (kind : PassKind) → kind ≡ topdown → pass.kind ≡ kind → (i j : Instance) → Of m i → Of m j → (k : ℕ)
        → host_in pass j.attribute ≡ None → host_in pass i.attribute ≡ Some k
        → IsHost t k (turn_of g i).visit (turn_of g i).visit
        → ((turn_of g j).visit ≡ (turn_of g i).visit) ⊎ (parent_of (turn_of g i).visit ≡ Some (turn_of g j).visit)
        → Near kind j i
    reader_near topdown down_first is_kind i j of_i of_j k ej ei is_i near =
        let vi = (turn_of g i).visit in
        let ni = nested i k of_i ei in
        let pi : place i ≡ vi = host_is i k vi of_i.0 (host_here i of_i ∙ ei) is_i in
        let pj = own_place j (host_here j of_j ∙ ej) in
        let class : class_at t vi ≡ ni.nest.host = is_i.of_class ∙ sym ni.host in
        ⊎_elim
        (λ same. inl (
          pj ∙ same ∙ sym pi,
          stands_at i j
              (subst (λ p. Ahead (visit_here p) j i) (sym pi)
              (subst (λ is. Ahead is j i) (sym (at_host ni.nest ni.is vi class))
              (subst (λ k. Ahead (hosted_visit k (visit g t own vi) (inner_steps g t ni.nest.stages vi)) j i) (sym is_kind)
              (ahead_across (visit g t own vi) (inner_steps g t ni.nest.stages vi) j i
              (subst (λ v. Contains (visit g t own v) j) same (own_step j of_j ej))
              (inner_has g law t fits ni.nest.stages (few_inner ni.nest ni.is) vi is_i.there i of_i.0 ni.listed is_i.holds))))),
        ))
        (λ parent. inr (ap parent_of pi ∙ parent ∙ ap Some (sym pj))) near
    reader_near bottomup down_first is_kind i j of_i of_j k ej ei is_i near = absurd (let z : ⊥ = cc in z)
    reader_near inorder down_first is_kind i j of_i of_j k ej ei is_i near = absurd (let z : ⊥ = cc in z)

    -- only the writer is hosted: the reader runs at its host, whose rules come last
    writer_near : (kind : PassKind) → kind ≡ bottomup → pass.kind ≡ kind → (i j : Instance) → Of m i → Of m j → (k : ℕ)
        → host_in pass j.attribute ≡ Some k → host_in pass i.attribute ≡ None
        → IsHost t k (turn_of g i).visit (turn_of g j).visit
        → Near kind j i
    writer_near bottomup up_first is_kind i j of_i of_j k ej ei is_j =
        let vi = (turn_of g i).visit in
        let nj = nested j k of_j ej in
        let pi = own_place i (host_here i of_i ∙ ei) in
        let pj : place j ≡ vi = host_is j k vi of_j.0 (host_here j of_j ∙ ej) is_j in
        let class : class_at t vi ≡ nj.nest.host = is_j.of_class ∙ sym nj.host in
        inl (
          pj ∙ sym pi,
          stands_at i j
              (subst (λ p. Ahead (visit_here p) j i) (sym pi)
              (subst (λ is. Ahead is j i) (sym (at_host nj.nest nj.is vi class))
              (subst (λ k. Ahead (hosted_visit k (visit g t own vi) (inner_steps g t nj.nest.stages vi)) j i) (sym is_kind)
              (ahead_across (inner_steps g t nj.nest.stages vi) (visit g t own vi) j i
              (inner_has g law t fits nj.nest.stages (few_inner nj.nest nj.is) vi is_j.there j of_j.0 nj.listed is_j.holds)
              (own_step i of_i ei))))),
        )
    writer_near topdown up_first is_kind i j of_i of_j k ej ei is_j = absurd (let z : ⊥ = cc in z)
    writer_near inorder up_first is_kind i j of_i of_j k ej ei is_j = absurd (let z : ⊥ = cc in z)

    -- a pass with a nest is no inorder one
    some_nest : (k a : ℕ) → host_in pass a ≡ Some k → pass.kind ≢ inorder
    some_nest k a e = let h = hosts pass.nest k (host_some pass a k e).0 in none_in_order stage m h.it h.is

    by_hosts : (i j : Instance) → Of m i → Of m j → (hj hi : Option ℕ)
        → host_in pass j.attribute ≡ hj → host_in pass i.attribute ≡ hi
        → HostedDirectlyFirst t hj hi pass.kind (nest_placing_of s) (turn_of g j) (turn_of g i) → Near pass.kind j i
    by_hosts i j of_i of_j None None ej ei near = own_near pass.kind i j of_i of_j ei ej near
    by_hosts i j of_i of_j (Some h) (Some k) ej ei near =
        both_near (some_nest k i.attribute ei) i j of_i of_j h k ej ei near.0 near.1 near.2 near.3
    by_hosts i j of_i of_j None (Some k) ej ei near =
        reader_near pass.kind near.0 refl i j of_i of_j k ej ei near.1 near.2
    by_hosts i j of_i of_j (Some h) None ej ei near =
        writer_near pass.kind near.0 refl i j of_i of_j h ej ei near.1

  outer_kind : (m : ℕ) (i : Instance) → Of m i → (placing_of outer i.attribute).kind ≡ (nesting_pass s stage m).kind
  outer_kind m i of =
      ap₂ (λ u v. (pass_at outer u v).kind) of.1.0 of.1.1 ∙ ap (λ (p : Pass). p.kind) (outer_pass_at s stage m)

  near_or_given : (m : ℕ) (i j : Instance) → Of m i → Reads g t i j
      → (kind_at j ≡ Given) ⊎ (Of m j × Near m (nesting_pass s stage m).kind j i)
  near_or_given m i j of reads =
      ⊎_elim (λ e. inl (kind_given (g.sort j.attribute) (placing_of outer j.attribute).stage stage (inl e)))
      (λ f.
      ⊎_elim
      (λ earlier.
      inl
      (kind_given (g.sort j.attribute) (placing_of outer j.attribute).stage stage
      (inr (subst (λ n. (placing_of outer j.attribute).stage < n) of.1.0 earlier))))
      (λ here.
      let of_j : Of m j = (f.0, (here.0.0 ∙ of.1.0, here.0.1 ∙ of.1.1)) in
      inr (
        of_j,
        by_hosts m i j of of_j ((nest_placing_of s).host j.attribute) ((nest_placing_of s).host i.attribute) (sym (host_here m j of_j))
            (sym (host_here m i of))
            (subst
            (λ k. HostedDirectlyFirst t ((nest_placing_of s).host j.attribute) ((nest_placing_of s).host i.attribute) k (nest_placing_of s)
            (turn_of g j) (turn_of g i)) (outer_kind m i of) here.1),
      )) f.1)
      (nest_near g law (nest_placing_of s) t fits sides ordered.pairs i j of.0 reads)

  -- a step stands at its place in its pass
  has_at : (kind : PassKind) (m : ℕ) → (nesting_pass s stage m).kind ≡ kind → (i : Instance) → Of m i
      → Contains (steps_at_node kind (forms m) (place i)) i
  has_at topdown m e i of = has m (subst (λ k. k ≢ inorder) (sym e) (λ x. let z : ⊥ = cc in z)) i of
  has_at bottomup m e i of = has m (subst (λ k. k ≢ inorder) (sym e) (λ x. let z : ⊥ = cc in z)) i of
  has_at inorder m e i of =
      step_there g law outer ordered.once t fits (pass_place stage m) top root i of.0 (top_above (turn_of g i).visit) of.1

  pub of_step : (m : ℕ) (i : Instance) → Of m i → IsOfPass t count forms place m i
  of_step m i of =
      record {
        known = step_known m i of;
        there = place_there i of.0;
        has = has_at (nesting_pass s stage m).kind m refl i of;
      }

  -- and what stands at a node is a step of the pass
  own_at : (kind : PassKind) (m : ℕ) (p : Path) → Has t p → (i : Instance)
      → Contains (steps_at_node kind (forms m) p) i → Of m i × (kind ≢ inorder → place i ≡ p)
  own_at topdown m p there i c =
      let o = only m (nesting_pass s stage m).nest refl p there i c in (o.0, (λ some. o.1))
  own_at bottomup m p there i c =
      let o = only m (nesting_pass s stage m).nest refl p there i c in (o.0, (λ some. o.1))
  own_at inorder m p there i c =
      let o = sequence_only g (placing_of outer) (pass_place stage m) t top root i c in
      ((o.0, o.1), (λ some. absurd (some refl)))

  pub step_of : (m : ℕ) (i : Instance) → IsOfPass t count forms place m i → Of m i
  step_of m i of = (own_at (nesting_pass s stage m).kind m (place i) of.there i of.has).0

  once_at : (kind : PassKind) (m : ℕ) (p : Path) → Has t p → AreDistinct (steps_at_node kind (forms m) p)
  once_at topdown m p there = once_with m (nesting_pass s stage m).nest refl p there
  once_at bottomup m p there = once_with m (nesting_pass s stage m).nest refl p there
  once_at inorder m p there =
      rising_distinct (EarlierAddress g (placing_of outer))
      (λ i h. before_once (address (placing_of outer) (turn_of g i)) (address (placing_of outer) (turn_of g i)) h h)
      (sequence_at g (placing_of outer) (pass_place stage m) t top)
      (sequence_rises g law outer ordered.once t fits (pass_place stage m) top root)

  pub nests_are_forms : AreForms g t count forms kind_at place
  nests_are_forms =
      record {
        step = λ m i of. (step_of m i of).0;
        one = λ m n i a b. sym (step_of m i a).1.1 ∙ (step_of n i b).1.1;
        target = λ m i is_of.
            let of = step_of m i is_of in
            kind_target (g.sort i.attribute) (placing_of outer i.attribute).stage stage of.0.1 of.1.0;
        targets = λ i valid e.
            let k = target_kind_of (g.sort i.attribute) (placing_of outer i.attribute).stage stage e in
            let of : Of (placing_of outer i.attribute).pass i = ((valid, k.0), (k.1, refl)) in
            ((placing_of outer i.attribute).pass, of_step (placing_of outer i.attribute).pass i of);
        placed = λ m known p there i c.
            let o = own_at (nesting_pass s stage m).kind m p there i c in (place_there i o.0.0, o.1);
        once = λ m known p there. once_at (nesting_pass s stage m).kind m p there;
        reads = λ m i j of reads.
            ⊎_elim (λ given. inl given)
            (λ (f : Of m j × Near m (nesting_pass s stage m).kind j i). inr (of_step m j f.0, f.1))
            (near_or_given m i j (step_of m i of) reads);
      }

  -- in a topdown pass what hands on lies in no whole tree
  pub handed_open : (m : ℕ) (p q : Path) → m < count → (nesting_pass s stage m).kind ≡ topdown
      → Contains (form_items g t count forms) (item m q)
      → is_next_by (kinds_of (cuts_of forms)) (item m p) (item m q) ≡ true
      → is_open (is_whole_with (nesting_pass s stage m).nest t grain) p ≡ true
  handed_open m p q known down_first in_q next =
      let here = item_here count (cuts_of forms) t (item m q) in_q in
      let w = is_whole_with (nesting_pass s stage m).nest t grain in
      let some : topdown ≢ inorder = λ e. let z : ⊥ = cc in z in
      let top_q =
      in_tops_by w t topdown some root q (subst (λ k. Contains (tops_by k w t) q) down_first here.there) in
      let hands = (both (m == m) (hands_on (nesting_pass s stage m).kind p q) next).1 in
      let kid = kid_of p q (subst (λ k. hands_on k p q ≡ true) down_first hands) in
      subst (λ r. begins_by w r ≡ true) kid.is top_q.1
