-- The plain order is legal.
use Rattle.std.proofs.Common.{◌≡◌, ℕ, zero, suc, ◌<◌, ◌≤◌, refl, sym, ◌∙◌, ap, subst, ⊎_elim, arith, List, [], ◌∷◌, flat_map, length, get_or, reverse, Contains}
use Rattle.std.proofs.lemmas.Bool.{cases_lt}
use Rattle.std.specs.List.{range_with_len}
use Rattle.ftl_model.specs.lists.Lists.{AreDistinct}
use Rattle.ftl_model.proofs.lists.Elements.{distinct-range, flat_map_has, in_flat_map, range_has}
use Rattle.ftl_model.proofs.lists.Rising.{before_once}
use Rattle.ftl_model.specs.layout.AttributeGrammar.{AttributeGrammar}
use Rattle.ftl_model.specs.layout.Path.{Above, Has, Path, number_of, preorder, top}
use Rattle.ftl_model.specs.layout.Solves.{Instance}
use Rattle.ftl_model.specs.layout.Tree.{Forest, IsTree}
use Rattle.ftl_model.specs.layout.TreeOf.{IsTreeOf}
use Rattle.ftl_order.specs.orders.Lawful.{IsLawful}
use Rattle.ftl_order.specs.orders.LegalOrder.{FirstInPass, IsLegalOrder, IsStep, KeyFirst, MustPrecede, address, turn_of}
use Rattle.ftl_order.specs.orders.Schedule.{EachStandsOnce, IsOnePass, PassKind, Schedule, bottomup, inorder, pass_at, placing_of, stage_of, topdown}
use Rattle.ftl_order.specs.orders.Sequence.{sequence}
use Rattle.ftl_order.proofs.orders.Kids.{root_there}
use Rattle.ftl_order.proofs.orders.Ranges.{above_range}
use Rattle.ftl_order.proofs.orders.SequenceAddresses.{EarlierAddress}
use Rattle.ftl_order.proofs.orders.SequenceOnly.{rising_distinct, sequence_only}
use Rattle.ftl_order.proofs.orders.SequenceOrder.{sequence_rises, step_there, top_above}
use Rattle.ftl_items.specs.stage_items.Items.{pass_place, passes_of}
use Rattle.ftl_items.specs.stage_items.Visits.{visit}
use Rattle.ftl_items.proofs.stage_items.Ahead.{Ahead, ahead-flat_map, ahead-range, ahead-reverse, ahead_inside, ahead_rising}
use Rattle.ftl_items.proofs.stage_items.ByKey.{key_ahead}
use Rattle.ftl_items.proofs.stage_items.Passes.{listed_at}
use Rattle.ftl_items.proofs.stage_items.PassSteps.{listed_here, many_of, once_at_most, pass_of_step, visit_there}
use Rattle.ftl_items.proofs.stage_items.Pieces.{distinct_pieces_in}
use Rattle.ftl_items.proofs.stage_items.Reverses.{distinct-reverse, in_reverse, reverse_has}
use Rattle.ftl_items.proofs.stage_items.Subtrees.{distinct-preorder, in_preorder, preorder_has, rising-subtree}
use Rattle.ftl_items.proofs.stage_items.VisitLaws.{in_visit, visit_has, visit_once}
use Rattle.ftl_example.specs.orders.PlainOrder.{pass_steps, plain_order, stage_steps, steps_by_kind}
use Rattle.ftl_example.proofs.orders.Orders.{ahead_by, legal_by, rising_of_ahead}

get_past : {X : Type 0} (xs : List X) (n : ℕ) (d : X) → length xs ≤ n → get_or xs n d ≡ d
get_past [] n d le = refl
get_past (x ∷ xs) zero d le = absurd (omega (arith, le))
get_past (x ∷ xs) (suc n) d le = get_past xs n d (omega (arith, le))

module _ (g : AttributeGrammar) (s : Schedule) (t : Forest) (law : IsLawful g) (once : EachStandsOnce g s)
    (fits : IsTreeOf g t) where
  is_tree : IsTree t
  is_tree = root_there g t fits

  -- where a step stands
  pub record Spotted (i : Instance) : Type 0 where
    pub known : (placing_of s i.attribute).pass < length (passes_of s (placing_of s i.attribute).stage)
    pub listed : Contains (pass_at s (placing_of s i.attribute).stage (placing_of s i.attribute).pass).attributes i.attribute
    pub stage : (placing_of s i.attribute).stage < length s

  pub spotted : (i : Instance) → IsStep g t i → Spotted i
  spotted i step =
      let l = listed_at s i.attribute (many_of g s t law once fits 0 i step) in
      record { known = l.known; listed = l.there; stage = within (stage_of s i.attribute) l.known }
    where
      within : (n : ℕ) → (placing_of s i.attribute).pass < length (get_or s n []) → n < length s
      within n less =
          ⊎_elim (λ l. l)
          (λ more. absurd
          (let e : length (get_or s n []) ≡ 0 = ap length (get_past s n [] more) in omega (arith, e, less)))
          (cases_lt n (length s))

  -- of one stage
  module _ (stage : ℕ) where
    abbrev visit_in : ℕ → Path → List Instance
    visit_in m q = visit g t (pass_at s stage m).attributes q

    -- a step that stands in a pass
    abbrev pub OfPass : ℕ → Instance → Type 0
    OfPass m i = IsStep g t i × IsOnePass (placing_of s i.attribute) (pass_place stage m)

    visit_step : (m : ℕ) (q : Path) (i : Instance) → Contains (preorder t) q → Contains (visit_in m q) i → OfPass m i
    visit_step m q i hq h =
        let v = in_visit g law t fits (pass_at s stage m).attributes q (in_preorder t q is_tree hq) i h in
        (v.0, pass_of_step g s t law once fits stage m i v.0 v.1)

    kind_step : (m : ℕ) (kind : PassKind) (i : Instance)
        → Contains (steps_by_kind g s t stage m kind (pass_at s stage m).attributes) i → OfPass m i
    kind_step m topdown i h = let f = in_flat_map (visit_in m) (preorder t) i h in visit_step m f.0 i f.1 f.2
    kind_step m bottomup i h =
        let f = in_flat_map (visit_in m) (reverse (preorder t)) i h in
        visit_step m f.0 i (in_reverse (preorder t) f.0 f.1) f.2
    kind_step m inorder i h =
        let o = sequence_only g (placing_of s) (pass_place stage m) t top is_tree i h in (o.0, o.1)

    kind_has : (m : ℕ) (kind : PassKind) (i : Instance) → OfPass m i
        → Contains (steps_by_kind g s t stage m kind (pass_at s stage m).attributes) i
    kind_has m topdown i of =
        flat_map_has (visit_in m) (preorder t) (turn_of g i).visit i
        (preorder_has t (turn_of g i).visit (visit_there g s t law once fits stage i of.0))
        (visit_has g law t fits (pass_at s stage m).attributes (turn_of g i).visit i of.0
        (listed_here g s t law once fits stage m i of.0 of.1) refl)
    kind_has m bottomup i of =
        flat_map_has (visit_in m) (reverse (preorder t)) (turn_of g i).visit i
        (reverse_has (preorder t) (turn_of g i).visit
        (preorder_has t (turn_of g i).visit (visit_there g s t law once fits stage i of.0)))
        (visit_has g law t fits (pass_at s stage m).attributes (turn_of g i).visit i of.0
        (listed_here g s t law once fits stage m i of.0 of.1) refl)
    kind_has m inorder i of =
        step_there g law s once t fits (pass_place stage m) top is_tree i of.0 (top_above (turn_of g i).visit) of.1

    visits_once : (m : ℕ) (nodes : List Path) → AreDistinct nodes
        → ((q : Path) → Contains nodes q → Contains (preorder t) q) → AreDistinct (flat_map (visit_in m) nodes)
    visits_once m nodes distinct there =
        distinct_pieces_in (visit_in m) nodes
        (λ q h. visit_once g law t fits (pass_at s stage m).attributes q (once_at_most g s t law once fits stage m)
        (in_preorder t q is_tree (there q h)))
        (λ p q i hp hq in_p in_q.
        sym (in_visit g law t fits (pass_at s stage m).attributes p (in_preorder t p is_tree (there p hp)) i in_p).2
        ∙ (in_visit g law t fits (pass_at s stage m).attributes q (in_preorder t q is_tree (there q hq)) i in_q).2)
        distinct

    kind_once : (m : ℕ) (kind : PassKind)
        → AreDistinct (steps_by_kind g s t stage m kind (pass_at s stage m).attributes)
    kind_once m topdown = visits_once m (preorder t) (distinct-preorder t) (λ q h. h)
    kind_once m bottomup =
        visits_once m (reverse (preorder t)) (distinct-reverse (preorder t) (distinct-preorder t))
        (λ q h. in_reverse (preorder t) q h)
    kind_once m inorder =
        rising_distinct (EarlierAddress g (placing_of s))
        (λ i h. before_once (address (placing_of s) (turn_of g i)) (address (placing_of s) (turn_of g i)) h h)
        (sequence g (placing_of s) (pass_place stage m) t)
        (sequence_rises g law s once t fits (pass_place stage m) top is_tree)

  pub pass_step : (stage m : ℕ) (i : Instance) → Contains (pass_steps g s t stage m) i → OfPass stage m i
  pass_step stage m i h = kind_step stage m (pass_at s stage m).kind i h

  pub pass_has : (stage m : ℕ) (i : Instance) → OfPass stage m i → Contains (pass_steps g s t stage m) i
  pass_has stage m i of = kind_has stage m (pass_at s stage m).kind i of

  pub has_stage : (i : Instance) → IsStep g t i → Contains (stage_steps g s t (placing_of s i.attribute).stage) i
  has_stage i step =
      let stage = (placing_of s i.attribute).stage in
      let m = (placing_of s i.attribute).pass in
      let known = (spotted i step).known in
      flat_map_has (pass_steps g s t stage) (range_with_len 0 (length (passes_of s stage))) m i
      (range_has 0 (length (passes_of s stage)) m (omega arith) (omega (arith, known)))
      (pass_has stage m i (step, (refl, refl)))

  -- in one pass, the first ahead
  module _ (stage m : ℕ) (i j : Instance) (of_i : OfPass stage m i) (of_j : OfPass stage m j) where
    abbrev visit_at : Path → List Instance
    visit_at q = visit g t (pass_at s stage m).attributes q

    vi_there : Has t (turn_of g i).visit
    vi_there = visit_there g s t law once fits stage i of_i.0

    vj_there : Has t (turn_of g j).visit
    vj_there = visit_there g s t law once fits stage j of_j.0

    i_in : Contains (visit_at (turn_of g i).visit) i
    i_in =
        visit_has g law t fits (pass_at s stage m).attributes (turn_of g i).visit i of_i.0
        (listed_here g s t law once fits stage m i of_i.0 of_i.1) refl

    j_in : Contains (visit_at (turn_of g j).visit) j
    j_in =
        visit_has g law t fits (pass_at s stage m).attributes (turn_of g j).visit j of_j.0
        (listed_here g s t law once fits stage m j of_j.0 of_j.1) refl

    in_one_visit : (turn_of g i).visit ≡ (turn_of g j).visit → KeyFirst (placing_of s) (turn_of g i) (turn_of g j)
        → Ahead (visit_at (turn_of g j).visit) i j
    in_one_visit same first =
        key_ahead g law t fits s once stage m (turn_of g j).visit i j vj_there
        (subst (λ v. Contains (visit_at v) i) same i_in) j_in first

    nodes_ahead : (p q : Path) → Has t p → Has t q → Above p q → Ahead (preorder t) p q
    nodes_ahead p q hp hq above =
        ahead_rising (number_of t) (preorder t) (rising-subtree t top is_tree) p q (preorder_has t p hp)
        (preorder_has t q hq) (above_range t p q hq above).0

    kind_ahead : (kind : PassKind) → FirstInPass kind (placing_of s) (turn_of g i) (turn_of g j)
        → Ahead (steps_by_kind g s t stage m kind (pass_at s stage m).attributes) i j
    kind_ahead topdown first =
        ⊎_elim
        (λ here. ahead_inside visit_at (preorder t) (turn_of g j).visit i j (preorder_has t (turn_of g j).visit vj_there)
        (in_one_visit here.0 here.1))
        (λ above. ahead-flat_map visit_at (preorder t) (turn_of g i).visit (turn_of g j).visit i j
        (nodes_ahead (turn_of g i).visit (turn_of g j).visit vi_there vj_there above) i_in j_in) first
    kind_ahead bottomup first =
        ⊎_elim
        (λ here. ahead_inside visit_at (reverse (preorder t)) (turn_of g j).visit i j
        (reverse_has (preorder t) (turn_of g j).visit (preorder_has t (turn_of g j).visit vj_there))
        (in_one_visit here.0 here.1))
        (λ above. ahead-flat_map visit_at (reverse (preorder t)) (turn_of g i).visit (turn_of g j).visit i j
        (ahead-reverse (preorder t) (turn_of g j).visit (turn_of g i).visit
        (nodes_ahead (turn_of g j).visit (turn_of g i).visit vj_there vi_there above)) i_in j_in) first
    kind_ahead inorder first =
        ahead_by (EarlierAddress g (placing_of s)) (sequence g (placing_of s) (pass_place stage m) t)
        (sequence_rises g law s once t fits (pass_place stage m) top is_tree) i j
        (step_there g law s once t fits (pass_place stage m) top is_tree i of_i.0 (top_above (turn_of g i).visit) of_i.1)
        (step_there g law s once t fits (pass_place stage m) top is_tree j of_j.0 (top_above (turn_of g j).visit) of_j.1)
        (λ back. before_once (address (placing_of s) (turn_of g i)) (address (placing_of s) (turn_of g j)) first back)
        (λ same. before_once (address (placing_of s) (turn_of g j)) (address (placing_of s) (turn_of g j))
        (subst (λ z. EarlierAddress g (placing_of s) z j) same first) (subst (λ z. EarlierAddress g (placing_of s) z j) same first))

  pub plain_ahead : (i j : Instance) → IsStep g t i → IsStep g t j → MustPrecede g t s i j → Ahead (plain_order g s t) i j
  plain_ahead i j step_i step_j first =
      ⊎_elim
      (λ less.
      ahead-flat_map (stage_steps g s t) (range_with_len 0 (length s)) (placing_of s i.attribute).stage
      (placing_of s j.attribute).stage i j
      (ahead-range 0 (length s) (placing_of s i.attribute).stage (placing_of s j.attribute).stage (stage_in i step_i)
      (stage_in j step_j) less)
      (has_stage i step_i) (has_stage j step_j))
      (λ here.
      let stage = (placing_of s j.attribute).stage in
      let m = (placing_of s j.attribute).pass in
      let known = (spotted j step_j).known in
      ahead_inside (stage_steps g s t) (range_with_len 0 (length s)) stage i j (stage_in j step_j)
      (ahead_inside (pass_steps g s t stage) (range_with_len 0 (length (passes_of s stage))) m i j
      (range_has 0 (length (passes_of s stage)) m (omega arith) (omega (arith, known)))
      (kind_ahead stage m i j (step_i, here.0) (step_j, (refl, refl)) (placing_of s j.attribute).kind here.1)))
      first
    where
      stage_in : (i : Instance) → IsStep g t i → Contains (range_with_len 0 (length s)) (placing_of s i.attribute).stage
      stage_in i step =
          let l = (spotted i step).stage in
          range_has 0 (length s) (placing_of s i.attribute).stage (omega arith) (omega (arith, l))

  -- what a stage has
  stage_step : (stage : ℕ) (i : Instance) → Contains (stage_steps g s t stage) i
      → IsStep g t i × ((placing_of s i.attribute).stage ≡ stage)
  stage_step stage i h =
      let f = in_flat_map (pass_steps g s t stage) (range_with_len 0 (length (passes_of s stage))) i h in
      let here = pass_step stage f.0 i f.2 in
      (here.0, here.1.0)

  stage_once : (stage : ℕ) → AreDistinct (stage_steps g s t stage)
  stage_once stage =
      distinct_pieces_in (pass_steps g s t stage) (range_with_len 0 (length (passes_of s stage)))
      (λ m h. kind_once stage m (pass_at s stage m).kind)
      (λ m n i hm hn in_m in_n. sym (pass_step stage m i in_m).1.1 ∙ (pass_step stage n i in_n).1.1)
      (distinct-range 0 (length (passes_of s stage)))

  plain_once : AreDistinct (plain_order g s t)
  plain_once =
      distinct_pieces_in (stage_steps g s t) (range_with_len 0 (length s)) (λ n h. stage_once n)
      (λ m n i hm hn in_m in_n. sym (stage_step m i in_m).1 ∙ (stage_step n i in_n).1)
      (distinct-range 0 (length s))

  plain_steps : (i : Instance) → Contains (plain_order g s t) i → IsStep g t i
  plain_steps i h =
      let f = in_flat_map (stage_steps g s t) (range_with_len 0 (length s)) i h in (stage_step f.0 i f.2).0

  plain_all : (i : Instance) → IsStep g t i → Contains (plain_order g s t) i
  plain_all i step =
      let l = (spotted i step).stage in
      flat_map_has (stage_steps g s t) (range_with_len 0 (length s)) (placing_of s i.attribute).stage i
      (range_has 0 (length s) (placing_of s i.attribute).stage (omega arith) (omega (arith, l))) (has_stage i step)

  pub plain_legal : IsLegalOrder g t s (plain_order g s t)
  plain_legal =
      legal_by g t (MustPrecede g t s) (plain_order g s t) plain_steps plain_all plain_once
      (rising_of_ahead (MustPrecede g t s) (plain_order g s t) plain_once
      (λ i j hi hj first. plain_ahead i j (plain_steps i hi) (plain_steps j hj) first))
