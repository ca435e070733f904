-- The inner steps of a host: those of the inner passes that run at it or below it, each once, in order.
use Rattle.std.proofs.Common.{◌≡◌, ◌≢◌, ◌↔◌, ℕ, zero, suc, ◌<◌, ◌≤◌, true, false, if◌then◌else◌, refl, sym, ◌∙◌, ap, ap₂, subst, inl, inr, ⊎_elim, arith, List, [], ◌∷◌, flat_map, get_or, length, reverse, Contains, Some}
use Rattle.std.specs.List.{range_with_len}
use Rattle.std.proofs.lemmas.List.Elements.{Contains-append_cases, Contains-append_left, Contains-append_right, Contains-get_or}
use Rattle.ftl_model.specs.lists.Lists.{AreDistinct, StandsBefore, place_in}
use Rattle.ftl_model.proofs.lists.Elements.{distinct-range, flat_map_has, in_flat_map, in_range_from, range_has}
use Rattle.ftl_model.proofs.lists.Listed.{counted_in}
use Rattle.ftl_model.proofs.lists.Places.{place_is}
use Rattle.ftl_model.proofs.lists.Rising.{before_once}
use Rattle.ftl_model.specs.layout.AttributeGrammar.{AttributeGrammar, Sort, inherited, input, local, synthesized}
use Rattle.ftl_model.specs.layout.Path.{Above, AtOrAbove, Has, Path, down, number_of, parent_of, top}
use Rattle.ftl_model.specs.layout.Solves.{Instance, rule_node}
use Rattle.ftl_model.specs.layout.Tree.{Forest}
use Rattle.ftl_model.specs.layout.TreeOf.{IsTreeOf}
use Rattle.ftl_model.proofs.layout.Standing.{has_parent}
use Rattle.ftl_order.specs.orders.Lawful.{IsLawful, OfClass, class_owner, interface_owner}
use Rattle.ftl_order.specs.orders.LegalOrder.{IsStep, KeyFirst, DirectlyFirstInPass, TurnPrecedesDirectly, address, turn_of}
use Rattle.ftl_order.specs.orders.Schedule.{IsOnePass, PassKind, Schedule, bottomup, entries, has_entry, inorder, pass_at, placing_of, stage_of, topdown}
use Rattle.ftl_order.specs.orders.Sequence.{sequence_at}
use Rattle.ftl_order.proofs.orders.Owners.{attribute_known}
use Rattle.ftl_order.proofs.orders.Ranges.{above_range}
use Rattle.ftl_order.proofs.orders.SequenceAddresses.{EarlierAddress}
use Rattle.ftl_order.proofs.orders.SequenceOnly.{rising_distinct, sequence_only}
use Rattle.ftl_order.proofs.orders.SequenceRises.{OwnPlaces}
use Rattle.ftl_order.proofs.orders.SequenceOrder.{places_by_stand, sequence_rises_by, stands_by_places, step_there_by}
use Rattle.ftl_items.specs.stage_items.Cut.{subtree}
use Rattle.ftl_items.specs.stage_items.Items.{passes_of, pass_place}
use Rattle.ftl_items.specs.stage_items.VisitLaws.{StandsOnceAtMost}
use Rattle.ftl_items.specs.stage_items.Visits.{visit}
use Rattle.ftl_items.proofs.stage_items.Ahead.{Ahead, ahead-flat_map, ahead-range, ahead-reverse, ahead_inside, ahead_rising}
use Rattle.ftl_items.proofs.stage_items.ByKey.{key_ahead_by}
use Rattle.ftl_items.proofs.stage_items.Passes.{entry_there, in_stages, listed_at, many, stage_here}
use Rattle.ftl_items.proofs.stage_items.Pieces.{distinct_pieces_in, in_counted}
use Rattle.ftl_items.proofs.stage_items.Reverses.{distinct-reverse, in_reverse, reverse_has}
use Rattle.ftl_items.proofs.stage_items.Subtrees.{distinct-subtree, in_subtree, rising-subtree, subtree_has}
use Rattle.ftl_items.proofs.stage_items.VisitLaws.{attribute_of_step, in_visit, visit_has, visit_once}
use Rattle.ftl_nests.specs.NestItems.{inner_pass_steps, inner_stage_steps, inner_steps}
use Rattle.ftl_items.proofs.stage_items.HandingLaws.{parent_found}

ahead_at : {X : Type 0} (xs : List X) (x y d : X) (m n : ℕ) → m < n → n < length xs → get_or xs m d ≡ x
    → get_or xs n d ≡ y
    → Ahead xs x y
ahead_at [] x y d m n less below ex ey = absurd (let w : ⊥ = omega (arith, below) in w)
ahead_at (z ∷ zs) x y d m zero less below ex ey = absurd (let w : ⊥ = omega (arith, less) in w)
ahead_at (z ∷ zs) x y d zero (suc n) less below ex ey =
    inl (ex, subst (Contains zs) ey (Contains-get_or zs n d (omega (arith, below))))
ahead_at (z ∷ zs) x y d (suc m) (suc n) less below ex ey =
    inr (ahead_at zs x y d m n (omega (arith, less)) (omega (arith, below)) ex ey)

pub stands_ahead : {X : Type 0} (xs : List X) (x y : X) → StandsBefore xs x y → Ahead xs x y
stands_ahead xs x y h = ahead_at xs x y x h.0 h.1 h.2 h.3 (h.4 x) (h.5 x)

-- what has a stage is listed
stage_listed : (s : Schedule) (a : ℕ) → stage_of s a < length s → Contains (entries s) a
stage_listed [] a h = absurd (let z : ⊥ = omega (arith, h) in z)
stage_listed (passes ∷ stages) a h =
    elim (has_entry passes a) as
    (λ b. (has_entry passes a ≡ b) → (if b then 0 else suc (stage_of stages a)) < suc (length stages)
    → Contains (entries (passes ∷ stages)) a) [
      | true ↦ λ e h. Contains-append_left (flat_map (λ pass. pass.attributes) passes) (entries stages) a (entry_there passes a e)
      | false ↦ λ e h.
          Contains-append_right (flat_map (λ pass. pass.attributes) passes) (entries stages) a
          (stage_listed stages a (omega (arith, h)))
    ]
    refl h

-- the node at which a step runs is there
visit_of_sort : (t : Forest) (sort : Sort) (p : Path) → Has t p → Has t (rule_node sort p)
visit_of_sort t inherited (down c k p) h = has_parent t c k p h
visit_of_sort t inherited top h = h
visit_of_sort t input p h = h
visit_of_sort t synthesized p h = h
visit_of_sort t local p h = h

pub visit_of : (g : AttributeGrammar) (t : Forest) (i : Instance) → IsStep g t i → Has t (turn_of g i).visit
visit_of g t i step = visit_of_sort t (g.sort i.attribute) i.node step.0.0

above_visit : (p q : Path) → parent_of q ≡ Some p → Above p q
above_visit p q e = let k = parent_found p q e in subst (Above p) (sym k.is) (inl refl)

module _ (g : AttributeGrammar) (law : IsLawful g) (t : Forest) (fits : IsTreeOf g t) (inner : Schedule)
    (few : (a : ℕ) → a < g.attribute_count → g.sort a ≢ input → many a (entries inner) ≤ 1) where
  attribute_of_class : (k a : ℕ) → k < g.class_count → OfClass g k a → a < g.attribute_count
  attribute_of_class k a known of =
      ⊎_elim
      (λ shared. attribute_known g law (interface_owner (g.interface k)) a (law.interfaces_known k known, shared))
      (λ private. attribute_known g law (class_owner k) a (known, private))
      (Contains-append_cases (g.shared (g.interface k)) (g.private k) a of)

  few_of : (i : Instance) → IsStep g t i → many i.attribute (entries inner) ≤ 1
  few_of i step = few i.attribute (attribute_of_step g law t fits i step) step.1

  abbrev listed_in : ℕ → ℕ → List ℕ
  listed_in u m = (pass_at inner u m).attributes

  listed_pass : (u m a : ℕ) → many a (entries inner) ≤ 1 → Contains (listed_in u m) a
      → IsOnePass (placing_of inner a) (pass_place u m)
  listed_pass u m a once there = let here = stage_here inner u m a once there in (here.stage, here.pass)

  many_one : (a : ℕ) → many a (entries inner) ≤ 1 → Contains (entries inner) a → many a (entries inner) ≡ 1
  many_one a once there = let c = in_counted (entries inner) a there in omega (arith, once, c)

  pass_listed : (u m a : ℕ) → many a (entries inner) ≤ 1 → Contains (entries inner) a
      → IsOnePass (placing_of inner a) (pass_place u m) → Contains (listed_in u m) a
  pass_listed u m a once there pass =
      subst (λ n. Contains (listed_in u n) a) pass.1
      (subst (λ n. Contains (listed_in n (placing_of inner a).pass) a) pass.0
      (listed_at inner a (many_one a once there)).there)

  index_is : (u m a : ℕ) → many a (entries inner) ≤ 1 → Contains (listed_in u m) a
      → (placing_of inner a).index ≡ place_in (listed_in u m) a
  index_is u m a once there =
      let here = stage_here inner u m a once there in
      ap₂ (λ x y. place_in (pass_at inner x y).attributes a) here.stage here.pass

  -- a step of an inner pass that runs at the node or below it
  pub record IsInner (h : Path) (u m : ℕ) (i : Instance) : Type 0 where
    pub step : IsStep g t i
    pub listed : Contains (entries inner) i.attribute
    pub pass : IsOnePass (placing_of inner i.attribute) (pass_place u m)
    pub below : AtOrAbove h (turn_of g i).visit

  module _ (h : Path) (there : Has t h) (u m : ℕ) (u_known : u < length inner) where
    visited : (q : Path) (i : Instance) → Contains (subtree t h) q → Contains (visit g t (listed_in u m) q) i
        → IsInner h u m i
    visited q i held in_q =
        let sub = in_subtree t h q there held in
        let v = in_visit g law t fits (listed_in u m) q sub.1 i in_q in
        record {
          step = v.0;
          listed = in_stages inner u m i.attribute v.1;
          pass = listed_pass u m i.attribute (few_of i v.0) v.1;
          below = subst (AtOrAbove h) (sym v.2) sub.0;
        }

    pass_only : (kind : PassKind) (i : Instance) → Contains (inner_pass_steps g t inner u m kind h) i → IsInner h u m i
    pass_only topdown i c =
        let f = in_flat_map (visit g t (listed_in u m)) (subtree t h) i c in visited f.0 i f.1 f.2
    pass_only bottomup i c =
        let f = in_flat_map (visit g t (listed_in u m)) (reverse (subtree t h)) i c in
        visited f.0 i (in_reverse (subtree t h) f.0 f.1) f.2
    pass_only inorder i c =
        let o = sequence_only g (placing_of inner) (pass_place u m) t h there i c in
        record {
          step = o.0;
          listed = stage_listed inner i.attribute (let e = o.1.0 in let z : stage_of inner i.attribute < length inner = omega (arith, e, u_known) in z);
          pass = o.1;
          below = o.2;
        }

    its_list : (i : Instance) → IsInner h u m i → Contains (listed_in u m) i.attribute
    its_list i x = pass_listed u m i.attribute (few_of i x.step) x.listed x.pass

    visit_here : (i : Instance) → IsStep g t i → Has t (turn_of g i).visit
    visit_here i step = visit_of g t i step

    in_own_visit : (i : Instance) → IsInner h u m i → Contains (visit g t (listed_in u m) (turn_of g i).visit) i
    in_own_visit i x = visit_has g law t fits (listed_in u m) (turn_of g i).visit i x.step (its_list i x) refl

    held : (i : Instance) → IsInner h u m i → Contains (subtree t h) (turn_of g i).visit
    held i x = subtree_has t h (turn_of g i).visit (visit_here i x.step) x.below

    own : OwnPlaces g (placing_of inner) (pass_place u m)
    own k a b known ha hb ca cb pa pb index =
        let listed = λ (c : ℕ) (p : IsOnePass (placing_of inner c) (pass_place u m)).
        let e = p.0 in
        stage_listed inner c (let z : stage_of inner c < length inner = omega (arith, e, u_known) in z) in
        let fa = few a (attribute_of_class k a known ha) ca in
        let fb = few b (attribute_of_class k b known hb) cb in
        let la = pass_listed u m a fa (listed a pa) pa in
        let lb = pass_listed u m b fb (listed b pb) pb in
        sym (place_is (listed_in u m) a 0 la)
        ∙ ap (λ n. get_or (listed_in u m) n 0) (sym (index_is u m a fa la) ∙ index ∙ index_is u m b fb lb)
        ∙ place_is (listed_in u m) b 0 lb

    pass_has : (kind : PassKind) (i : Instance) → IsInner h u m i → Contains (inner_pass_steps g t inner u m kind h) i
    pass_has topdown i x =
        flat_map_has (visit g t (listed_in u m)) (subtree t h) (turn_of g i).visit i (held i x) (in_own_visit i x)
    pass_has bottomup i x =
        flat_map_has (visit g t (listed_in u m)) (reverse (subtree t h)) (turn_of g i).visit i
        (reverse_has (subtree t h) (turn_of g i).visit (held i x)) (in_own_visit i x)
    pass_has inorder i x =
        step_there_by g law (placing_of inner) (pass_place u m) own t fits h there i x.step x.below x.pass

    -- where an inorder pass has the addresses rise, and only there, its steps stand in order
    pub in_sequence : (i j : Instance) → IsInner h u m i → IsInner h u m j
        → EarlierAddress g (placing_of inner) i j
        ↔ StandsBefore (sequence_at g (placing_of inner) (pass_place u m) t h) i j
    in_sequence i j xi xj = (
      stands_by_places g law (placing_of inner) (pass_place u m) own t fits h there i j (pass_has inorder i xi)
          (pass_has inorder j xj),
      places_by_stand g law (placing_of inner) (pass_place u m) own t fits h there i j,
    )

    once_at_most : StandsOnceAtMost g (listed_in u m)
    once_at_most a known computed = go (many a (listed_in u m)) refl
      where
        go : (n : ℕ) → many a (listed_in u m) ≡ n → many a (listed_in u m) ≤ 1
        go zero e = omega (arith, e)
        go (suc n) e =
            (stage_here inner u m a (few a known computed)
            (counted_in (listed_in u m) a (omega (arith, e)))).few

    visits_once : (ps : List Path) → ((p : Path) → Contains ps p → Has t p) → AreDistinct ps
        → AreDistinct (flat_map (visit g t (listed_in u m)) ps)
    visits_once ps ps_there d =
        distinct_pieces_in (visit g t (listed_in u m)) ps
        (λ p c. visit_once g law t fits (listed_in u m) p once_at_most (ps_there p c))
        (λ p q i hp hq in_p in_q.
        sym (in_visit g law t fits (listed_in u m) p (ps_there p hp) i in_p).2
        ∙ (in_visit g law t fits (listed_in u m) q (ps_there q hq) i in_q).2)
        d

    pass_once : (kind : PassKind) → AreDistinct (inner_pass_steps g t inner u m kind h)
    pass_once topdown =
        visits_once (subtree t h) (λ q c. (in_subtree t h q there c).1) (distinct-subtree t h there)
    pass_once bottomup =
        visits_once (reverse (subtree t h)) (λ q c. (in_subtree t h q there (in_reverse (subtree t h) q c)).1)
        (distinct-reverse (subtree t h) (distinct-subtree t h there))
    pass_once inorder =
        rising_distinct (EarlierAddress g (placing_of inner))
        (λ i c. before_once (address (placing_of inner) (turn_of g i)) (address (placing_of inner) (turn_of g i)) c c)
        (sequence_at g (placing_of inner) (pass_place u m) t h)
        (sequence_rises_by g law (placing_of inner) (pass_place u m) own t fits h there)

    -- a node ahead of its kid
    node_ahead : (p q : Path) → parent_of q ≡ Some p → Has t q → Contains (subtree t h) p → Contains (subtree t h) q
        → Ahead (subtree t h) p q
    node_ahead p q e there_q in_p in_q =
        ahead_rising (number_of t) (subtree t h) (rising-subtree t h there) p q in_p in_q
        (above_range t p q there_q (above_visit p q e)).0

    in_one_visit : (i j : Instance) → IsInner h u m i → IsInner h u m j → (turn_of g j).visit ≡ (turn_of g i).visit
        → KeyFirst (placing_of inner) (turn_of g j) (turn_of g i)
        → Ahead (visit g t (listed_in u m) (turn_of g i).visit) j i
    in_one_visit i j xi xj same first =
        key_ahead_by g law t fits (placing_of inner) (listed_in u m)
        (λ i step c. index_is u m i.attribute (few_of i step) c) (turn_of g i).visit j i (visit_here i xi.step)
        (subst (λ v. Contains (visit g t (listed_in u m) v) j) same (in_own_visit j xj)) (in_own_visit i xi) first

    pass_near : (kind : PassKind) (i j : Instance) → IsInner h u m i → IsInner h u m j
        → DirectlyFirstInPass kind (placing_of inner) (turn_of g j) (turn_of g i)
        → Ahead (inner_pass_steps g t inner u m kind h) j i
    pass_near topdown i j xi xj near =
        let vi = (turn_of g i).visit in
        let vj = (turn_of g j).visit in
        ⊎_elim
        (λ here.
        ahead_inside (visit g t (listed_in u m)) (subtree t h) vi j i (held i xi) (in_one_visit i j xi xj here.0 here.1))
        (λ parent.
        ahead-flat_map (visit g t (listed_in u m)) (subtree t h) vj vi j i
        (node_ahead vj vi parent (visit_here i xi.step) (held j xj) (held i xi)) (in_own_visit j xj) (in_own_visit i xi))
        near
    pass_near bottomup i j xi xj near =
        let vi = (turn_of g i).visit in
        let vj = (turn_of g j).visit in
        ⊎_elim
        (λ here.
        ahead_inside (visit g t (listed_in u m)) (reverse (subtree t h)) vi j i (reverse_has (subtree t h) vi (held i xi))
        (in_one_visit i j xi xj here.0 here.1))
        (λ parent.
        ahead-flat_map (visit g t (listed_in u m)) (reverse (subtree t h)) vj vi j i
        (ahead-reverse (subtree t h) vi vj
        (node_ahead vi vj parent (visit_here j xj.step) (held i xi) (held j xj))) (in_own_visit j xj) (in_own_visit i xi))
        near
    pass_near inorder i j xi xj near =
        stands_ahead (sequence_at g (placing_of inner) (pass_place u m) t h) j i
        (stands_by_places g law (placing_of inner) (pass_place u m) own t fits h there j i (pass_has inorder j xj)
        (pass_has inorder i xi) near)

  -- ---- all inner stages

  module _ (h : Path) (there : Has t h) where
    stage_number : (u : ℕ) → Contains (range_with_len 0 (length inner)) u → u < length inner
    stage_number u c = let b = (in_range_from 0 (length inner) u c).1 in omega (arith, b)

    -- an inner step is of an inner pass
    pub record Found (i : Instance) : Type 0 where
      pub stage : ℕ
      pub pass : ℕ
      pub known : stage < length inner
      pub is : IsInner h stage pass i

    pub inner_only : (i : Instance) → Contains (inner_steps g t inner h) i → Found i
    inner_only i c =
        let f = in_flat_map (inner_stage_steps g t inner h) (range_with_len 0 (length inner)) i c in
        let u = f.0 in
        let k =
        in_flat_map (λ m. inner_pass_steps g t inner u m (pass_at inner u m).kind h)
        (range_with_len 0 (length (passes_of inner u))) i f.2 in
        let known = stage_number u f.1 in
        record {
          stage = u;
          pass = k.0;
          known = known;
          is = pass_only h there u k.0 known (pass_at inner u k.0).kind i k.2;
        }

    -- where a step that is listed and runs at the host or below it stands
    pub record Placed (i : Instance) : Type 0 where
      pub known : (placing_of inner i.attribute).stage < length inner
      pub pass_known : (placing_of inner i.attribute).pass < length (passes_of inner (placing_of inner i.attribute).stage)
      pub is : IsInner h (placing_of inner i.attribute).stage (placing_of inner i.attribute).pass i

    pub placed : (i : Instance) → IsStep g t i → Contains (entries inner) i.attribute → AtOrAbove h (turn_of g i).visit
        → Placed i
    placed i step listed below =
        let at = listed_at inner i.attribute (many_one i.attribute (few_of i step) listed) in
        record {
          known = stage_there inner (placing_of inner i.attribute).stage (placing_of inner i.attribute).pass at.known;
          pass_known = at.known;
          is = record { step = step; listed = listed; pass = (refl, refl); below = below };
        }
      where
        stage_there : (s : Schedule) (u n : ℕ) → n < length (get_or s u []) → u < length s
        stage_there [] u n b = absurd (let z : ⊥ = omega (arith, b) in z)
        stage_there (passes ∷ s) zero n b = omega arith
        stage_there (passes ∷ s) (suc u) n b = let i = stage_there s u n b in omega (arith, i)

    -- the steps of an inner pass are among those of its stage, and of all
    in_stage_steps : (u m : ℕ) (i : Instance) → m < length (passes_of inner u)
        → Contains (inner_pass_steps g t inner u m (pass_at inner u m).kind h) i
        → Contains (inner_stage_steps g t inner h u) i
    in_stage_steps u m i known c =
        flat_map_has (λ m. inner_pass_steps g t inner u m (pass_at inner u m).kind h)
        (range_with_len 0 (length (passes_of inner u))) m i
        (range_has 0 (length (passes_of inner u)) m (omega arith) (omega (arith, known))) c

    in_stage : (i : Instance) → Placed i → Contains (inner_stage_steps g t inner h (placing_of inner i.attribute).stage) i
    in_stage i p =
        let u = (placing_of inner i.attribute).stage in
        let m = (placing_of inner i.attribute).pass in
        in_stage_steps u m i p.pass_known (pass_has h there u m p.known (pass_at inner u m).kind i p.is)

    number_in : (u : ℕ) → u < length inner → Contains (range_with_len 0 (length inner)) u
    number_in u known = range_has 0 (length inner) u (omega arith) (omega (arith, known))

    pub inner_has : (i : Instance) → IsStep g t i → Contains (entries inner) i.attribute
        → AtOrAbove h (turn_of g i).visit
        → Contains (inner_steps g t inner h) i
    inner_has i step listed below =
        let p = placed i step listed below in
        flat_map_has (inner_stage_steps g t inner h) (range_with_len 0 (length inner)) (placing_of inner i.attribute).stage i
        (number_in (placing_of inner i.attribute).stage p.known) (in_stage i p)

    stage_once : (u : ℕ) → u < length inner → AreDistinct (inner_stage_steps g t inner h u)
    stage_once u known =
        distinct_pieces_in (λ m. inner_pass_steps g t inner u m (pass_at inner u m).kind h)
        (range_with_len 0 (length (passes_of inner u)))
        (λ m c. pass_once h there u m known (pass_at inner u m).kind)
        (λ m n i hm hn in_m in_n.
        sym (pass_only h there u m known (pass_at inner u m).kind i in_m).pass.1
        ∙ (pass_only h there u n known (pass_at inner u n).kind i in_n).pass.1)
        (distinct-range 0 (length (passes_of inner u)))

    stage_is : (u : ℕ) → u < length inner → (i : Instance) → Contains (inner_stage_steps g t inner h u) i
        → (placing_of inner i.attribute).stage ≡ u
    stage_is u known i c =
        let k =
        in_flat_map (λ m. inner_pass_steps g t inner u m (pass_at inner u m).kind h)
        (range_with_len 0 (length (passes_of inner u))) i c in
        (pass_only h there u k.0 known (pass_at inner u k.0).kind i k.2).pass.0

    pub inner_once : AreDistinct (inner_steps g t inner h)
    inner_once =
        distinct_pieces_in (inner_stage_steps g t inner h) (range_with_len 0 (length inner))
        (λ u c. stage_once u (stage_number u c))
        (λ u v i hu hv in_u in_v. sym (stage_is u (stage_number u hu) i in_u) ∙ stage_is v (stage_number v hv) i in_v)
        (distinct-range 0 (length inner))

    -- what stands near before a step in the inner stages stands ahead
    pub inner_near : (i j : Instance) → Placed i → Placed j → TurnPrecedesDirectly (placing_of inner) (turn_of g j) (turn_of g i)
        → Ahead (inner_steps g t inner h) j i
    inner_near i j pi pj near =
        let u = (placing_of inner i.attribute).stage in
        let m = (placing_of inner i.attribute).pass in
        let v = (placing_of inner j.attribute).stage in
        ⊎_elim
        (λ earlier.
        ahead-flat_map (inner_stage_steps g t inner h) (range_with_len 0 (length inner)) v u j i
        (ahead-range 0 (length inner) v u (number_in v pj.known) (number_in u pi.known) earlier) (in_stage j pj)
        (in_stage i pi))
        (λ here.
        let xj : IsInner h u m j = record { step = pj.is.step; listed = pj.is.listed; pass = here.0; below = pj.is.below } in
        let known = pi.pass_known in
        ahead_inside (inner_stage_steps g t inner h) (range_with_len 0 (length inner)) u j i (number_in u pi.known)
        (ahead_inside (λ m. inner_pass_steps g t inner u m (pass_at inner u m).kind h)
        (range_with_len 0 (length (passes_of inner u))) m j i
        (range_has 0 (length (passes_of inner u)) m (omega arith) (omega (arith, known)))
        (pass_near h there u m pi.known (pass_at inner u m).kind i j pi.is xj here.1)))
        near
