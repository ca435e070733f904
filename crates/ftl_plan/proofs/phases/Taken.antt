-- The phases of the items of a stage are phases that it can take.
use Rattle.std.proofs.Common.{◌≡◌, ◌≢◌, ◌⊎◌, ℕ, ◌*◌, ◌<◌, ◌&&◌, ◌==◌, Bool, true, false, if◌then◌else◌, ltb, ltb-true, ltb-false, eqb-true, refl, sym, ◌∙◌, ap, subst, inl, inr, ⊎_elim, arith, List, [], ◌∷◌, ◌++◌, Option, Some, None, flat_map, get_or, length, map, reverse, Contains}
use Rattle.std.specs.List.{range_with_len}
use Rattle.std.proofs.Math.Nat.{div-lt_iff_lt-mul}
use Rattle.std.proofs.lemmas.List.{get_or-map, get_or_past, length-map, map-append}
use Rattle.std.proofs.lemmas.List.Elements.{Contains-get_or}
use Rattle.std.proofs.lemmas.Simd.{map-map}
use mathlib.Core.Path.{fun_ext}
use Rattle.ftl_cells.specs.shared.Shape.{ComesNext, HasStep, WorkShape, listed}
use Rattle.ftl_cells.specs.shared.Work.{IsNext, IsStepOfItem, Meaning, read_of, read_total, target_of}
use Rattle.ftl_cells.proofs.shared.Shapes.{cell_total-listed, comes_next, has_step, item_total-listed, read_of-listed, read_total-listed, target_of-listed}
use Rattle.ftl_cells.specs.declared.shared.kind.CellKind.{CellKind}
use Rattle.ftl_model.proofs.lists.Elements.{in_filter, in_flat_map, in_range_from, nothing_in}
use Rattle.ftl_model.proofs.lists.Rising.{in_map}
use Rattle.ftl_model.specs.layout.AttributeGrammar.{AttributeGrammar, Occurrence, Rule, Sort, inherited, input, kid, local, own, read_occurrences, synthesized}
use Rattle.ftl_model.specs.layout.Path.{Above, AtOrAbove, Has, Path, class_at, down, kids_at, top}
use Rattle.ftl_model.specs.layout.Solves.{Instance, IsInstance, rule_kid, rule_node, rule_of, seen_from}
use Rattle.ftl_model.specs.layout.Table.{first_instance, instance_count, instance_number}
use Rattle.ftl_model.specs.layout.Tree.{Forest, IsTree}
use Rattle.ftl_model.specs.layout.TreeOf.{IsTreeOf}
use Rattle.ftl_model.specs.layout.Values.{Value}
use Rattle.ftl_order.specs.orders.Lawful.{IsLawful}
use Rattle.ftl_order.specs.orders.LegalOrder.{turn_of}
use Rattle.ftl_order.specs.orders.Reads.{equation_reads, rule_reads}
use Rattle.ftl_order.specs.orders.Schedule.{PassKind, bottomup, inorder, topdown}
use Rattle.ftl_order.proofs.orders.Kids.{root_there}
use Rattle.ftl_order.proofs.orders.TreeEquations.{inside_by}
use Rattle.ftl_items.specs.stage_items.Cut.{PassCut, begins_by, nodes_by, starts, subtree}
use Rattle.ftl_items.specs.stage_items.FormLaws.{AreForms, IsOfPass, steps_at_node}
use Rattle.ftl_items.specs.stage_items.Items.{Item, PassForm, cuts_of, form_steps, hands_on, is_next_by, item, items_by, items_of_cut, kinds_of, nexts_by, no_item}
use Rattle.ftl_items.specs.stage_items.StageWork.{form_items, form_reads_at, form_step_at, form_steps_in, no_instance, work_by}
use Rattle.ftl_items.proofs.stage_items.CutItems.{ItemHere, in_tops_by, item_here}
use Rattle.ftl_items.proofs.stage_items.Reverses.{in_reverse}
use Rattle.ftl_items.proofs.stage_items.Subtrees.{in_subtree}
use Rattle.ftl_cells.specs.work_phases.Phases.{CanTake, ComesBefore, IsCellOfRange, phase_at}
use Rattle.ftl_cells.specs.declared.work_phases.phase.Phase.{Phase}
use Rattle.ftl_cells.specs.declared.work_phases.phase.Phase.TheVariants.{Range, Last}
use Rattle.ftl_cells.specs.declared.work_phases.phase.Phases.{Phases}
use Rattle.ftl_nests.specs.Hosted.{nearest}
use Rattle.ftl_nests.specs.Nests.{NestingSchedule, nest_placing_of}
use Rattle.ftl_nests.proofs.NestForms.{place_by}
use Rattle.ftl_plan.specs.phases.StagePhases.{item_phase, phases_to}
use Rattle.ftl_plan.proofs.phases.Cells.{cells_within, few_cells}
use Rattle.ftl_plan.proofs.phases.Ordered.{IsRanged, in_range, ordered, ranged}

map-flat_map : {X Y Z : Type 0} (f : Y → Z) (h : X → List Y) (xs : List X)
    → map f (flat_map h xs) ≡ flat_map (λ x. map f (h x)) xs
map-flat_map f h [] = refl
map-flat_map f h (x ∷ xs) =
    map-append f (h x) (flat_map h xs) ∙ ap (λ ys. map f (h x) ++ ys) (map-flat_map f h xs)

both : (p q : Bool) → (p && q) ≡ true → (p ≡ true) × (q ≡ true)
both true q e = (refl, e)
both false q e = absurd (let z : ⊥ = grind arith in z)

at_or_above : (p q r : Path) → AtOrAbove p q → AtOrAbove q r → AtOrAbove p r
at_or_above p q r h (inl same) = subst (AtOrAbove p) same h
at_or_above p q top h (inr above) = absurd above
at_or_above p q (down c k r) h (inr above) =
    inr (⊎_elim (λ same. subst (λ a. (p ≡ a) ⊎ Above p a) same h) (λ far. at_or_above p q r h (inr far)) above)

-- a rule runs at the node of its target or at the one above it
runs_above : (sort : Sort) (p : Path) → AtOrAbove (rule_node sort p) p
runs_above inherited (down c k p) = inr (inl refl)
runs_above inherited top = inl refl
runs_above input p = inl refl
runs_above synthesized p = inl refl
runs_above local p = inl refl

-- a rule sees its own node and the kids of it
seen_below : (p : Path) (o : Occurrence) → AtOrAbove p (seen_from p o).node
seen_below p (own a) = inl refl
seen_below p (kid c k a) = inr (inl refl)

rule_reads_below : (t : Forest) (rule : Rule) (p : Path) (k : ℕ) (j : Instance) → Contains (rule_reads t rule p k) j
    → AtOrAbove p j.node
rule_reads_below t rule p k j h =
    let m = in_map (seen_from p) (read_occurrences rule.parts (kids_at t p) k) j h in
    subst (λ (x : Instance). AtOrAbove p x.node) m.is (seen_below p m.from)

-- what an equation reads is at the node where its rule runs or at a kid of it
read_below : (g : AttributeGrammar) (t : Forest) (sort : Sort) (p : Path) (a : ℕ) (j : Instance)
    → Contains (equation_reads g t sort p a) j → AtOrAbove (rule_node sort p) j.node
read_below g t input p a j h = absurd (nothing_in j h)
read_below g t inherited p a j h =
    rule_reads_below t (rule_of g t inherited p a) (rule_node inherited p) (rule_kid inherited p) j h
read_below g t synthesized p a j h = rule_reads_below t (rule_of g t synthesized p a) p 0 j h
read_below g t local p a j h = rule_reads_below t (rule_of g t local p a) p 0 j h

-- each phase is that of the item of its number
module _ (g : AttributeGrammar) (cuts : ℕ → PassCut) (t : Forest) (size count : ℕ) where
  abbrev phase_in : Item → Phase
  phase_in x = item_phase g (cuts x.pass).is_whole t size (cuts x.pass).kind x.first

  phases_are : phases_to g cuts t size count ≡ map phase_in (items_by count cuts t)
  phases_are =
      sym
      (map-flat_map phase_in (items_of_cut cuts t) (range_with_len 0 count)
      ∙ ap (λ h. flat_map h (range_with_len 0 count)) (fun_ext (λ m. map-map phase_in (item m) (starts cuts t m))))

-- a step of an item that is no inorder one is of the visit of one of its nodes
record IsOfNode (form : PassForm) (t : Forest) (first : Path) (q : Instance) : Type 0 where
  node : Path
  among : Contains (nodes_by form.cut.is_whole t first) node
  has : Contains (form.visit node) q

of_node : (kind : PassKind) → kind ≢ inorder → (form : PassForm) (t : Forest) (first : Path) (q : Instance)
    → Contains (form_steps kind form t first) q → IsOfNode form t first q
of_node topdown some form t first q h =
    let f = in_flat_map form.visit (nodes_by form.cut.is_whole t first) q h in
    record { node = f.0; among = f.1; has = f.2 }
of_node bottomup some form t first q h =
    let f = in_flat_map form.visit (reverse (nodes_by form.cut.is_whole t first)) q h in
    record { node = f.0; among = in_reverse (nodes_by form.cut.is_whole t first) f.0 f.1; has = f.2 }
of_node inorder some form t first q h = absurd (some refl)

-- such a pass has at a node the steps of its visit
visit_at : (kind : PassKind) → kind ≢ inorder → (form : PassForm) (p : Path) → form.visit p ≡ steps_at_node kind form p
visit_at topdown some form p = refl
visit_at bottomup some form p = refl
visit_at inorder some form p = absurd (some refl)

-- passes of such forms, whose steps are visited at their places or below them
module _ (g : AttributeGrammar) (t : Forest) (law : IsLawful g) (fits : IsTreeOf g t) (passes : ℕ) (forms : ℕ → PassForm)
    (kind_at : Instance → CellKind) (place : Instance → Path) (are_forms : AreForms g t passes forms kind_at place)
    (below : (i : Instance) → AtOrAbove (place i) (turn_of g i).visit)
    (solution : List Value) (max_reads max_stack : ℕ) (phases : Phases) where
  abbrev cuts : ℕ → PassCut
  cuts = cuts_of forms

  abbrev xs : List Item
  xs = form_items g t passes forms

  abbrev shape : WorkShape
  shape = work_by g t passes forms kind_at solution max_reads max_stack

  abbrev m : Meaning
  m = listed shape

  abbrev x_at : ℕ → Item
  x_at i = get_or xs i no_item

  abbrev kind_of_item : ℕ → PassKind
  kind_of_item i = (cuts (x_at i).pass).kind

  -- the nodes that are one item with all below them
  abbrev whole_of : ℕ → Path → Bool
  whole_of i = (cuts (x_at i).pass).is_whole

  rooted : IsTree t
  rooted = root_there g t fits

  here : (i : ℕ) → i < length xs → ItemHere passes cuts t (x_at i)
  here i known = item_here passes cuts t (x_at i) (Contains-get_or xs i no_item known)

  module _ (are : phases.phases.items ≡ phases_to g cuts t phases.size passes) where
    all_are : phases.phases.items ≡ map (phase_in g cuts t phases.size passes) xs
    all_are = are ∙ phases_are g cuts t phases.size passes

    count : length phases.phases.items ≡ length xs
    count = ap length all_are ∙ length-map xs (phase_in g cuts t phases.size passes)

    phase_is : (i : ℕ) → i < length xs
        → phase_at phases i ≡ item_phase g (whole_of i) t phases.size (kind_of_item i) (x_at i).first
    phase_is i known =
        ap (λ ys. get_or ys i Last) all_are
        ∙ get_or-map (phase_in g cuts t phases.size passes) xs i no_item Last known

    -- an item with a range is one of the stage
    item_known : (i b : ℕ) → phase_at phases i ≡ Range b → i < length xs
    item_known i b e =
        elim (ltb i (length xs)) as (λ c. (ltb i (length xs) ≡ c) → i < length xs) [
          | true ↦ λ f. ltb-true i (length xs) f
          | false ↦ λ f.
              absurd
              (let past = ltb-false i (length xs) f in
              let none : phase_at phases i ≡ Last =
              get_or_past phases.phases.items i Last (let n = count in omega (arith, n, past)) in
              let same = sym none ∙ e in
              let z : ⊥ = cc in
              z)
        ]
        refl

    is_ranged : (i b : ℕ) → phase_at phases i ≡ Range b
        → IsRanged g (whole_of i) t phases.size (kind_of_item i) b (x_at i).first
    is_ranged i b e =
        ranged g (whole_of i) t phases.size (kind_of_item i) (x_at i).first b (sym (phase_is i (item_known i b e)) ∙ e)

    first_there : (i b : ℕ) → phase_at phases i ≡ Range b → Has t (x_at i).first
    first_there i b e =
        (in_tops_by (whole_of i) t (kind_of_item i) (is_ranged i b e).some rooted (x_at i).first
        (here i (item_known i b e)).there).0

    -- ---- a range has what its items fill

    -- a step of an item with a range, visited at the first node of the item or below it
    record StepBelow (first : Path) (q : Instance) : Type 0 where
      pub valid : IsInstance g t q
      pub above : AtOrAbove first (turn_of g q).visit

    step_below : (i j b : ℕ) → HasStep shape i j → phase_at phases i ≡ Range b
        → StepBelow (x_at i).first (form_step_at g t passes forms i j)
    step_below i j b has e =
        let x = x_at i in
        let form = forms x.pass in
        let q = form_step_at g t passes forms i j in
        let of = is_ranged i b e in
        let of_item = Contains-get_or (form_steps_in g t passes forms i) j no_instance has.step in
        let at = of_node (kind_of_item i) of.some form t x.first q of_item in
        let held : Contains (subtree t x.first) at.node =
        subst (λ c. Contains (if c then subtree t x.first else x.first ∷ []) at.node) of.whole at.among in
        let in_tree = in_subtree t x.first at.node (first_there i b e) held in
        let known = (here i (item_known i b e)).known in
        let there : Contains (steps_at_node (kind_of_item i) form at.node) q =
        subst (λ ys. Contains ys q) (visit_at (kind_of_item i) of.some form at.node) at.has in
        let placed = are_forms.placed x.pass known at.node in_tree.1 q there in
        let is = placed.1 of.some in
        let of_pass : IsOfPass t passes forms place x.pass q =
        record {
          known = known;
          there = placed.0;
          has = subst (λ p. Contains (steps_at_node (kind_of_item i) form p) q) (sym is) there;
        } in
        record {
          valid = (are_forms.step x.pass q of_pass).0;
          above =
              at_or_above x.first at.node (turn_of g q).visit in_tree.0
              (subst (λ p. AtOrAbove p (turn_of g q).visit) is (below q));
        }

    -- the cell of an instance at that node or below it is in the range
    cell_in_range : (i b : ℕ) → phase_at phases i ≡ Range b → (q : Instance) → AtOrAbove (x_at i).first q.node
        → IsInstance g t q → IsCellOfRange phases.size b (instance_number g t q)
    cell_in_range i b e q above valid =
        let cells = cells_within g t fits (x_at i).first q above valid in
        in_range g t phases.size (x_at i).first b (instance_number g t q) (is_ranged i b e).takes cells.0 cells.1

    within : (i j b : ℕ) → IsStepOfItem m i j → phase_at phases i ≡ Range b → IsCellOfRange phases.size b (target_of m i j)
    within i j b is e =
        let has = has_step shape i j is in
        let q = form_step_at g t passes forms i j in
        let step = step_below i j b has e in
        subst (IsCellOfRange phases.size b) (sym (target_of-listed shape i j has))
        (cell_in_range i b e q
        (at_or_above (x_at i).first (turn_of g q).visit q.node step.above (runs_above (g.sort q.attribute) q.node))
        step.valid)

    -- ---- and what they read

    reads : (i j r b : ℕ) → IsStepOfItem m i j → r < read_total m i j → phase_at phases i ≡ Range b
        → IsCellOfRange phases.size b (read_of m i j r)
    reads i j r b is less e =
        let has = has_step shape i j is in
        let q = form_step_at g t passes forms i j in
        let these = form_reads_at g t passes forms i j in
        let known : r < length these = subst (λ n. r < n) (read_total-listed shape i j has) less in
        let o = get_or these r no_instance in
        let read = Contains-get_or these r no_instance known in
        let step = step_below i j b has e in
        subst (IsCellOfRange phases.size b) (sym (read_of-listed shape i j r has known))
        (cell_in_range i b e o
        (at_or_above (x_at i).first (turn_of g q).visit o.node step.above
        (read_below g t (g.sort q.attribute) q.node q.attribute o read))
        (inside_by g law t fits (g.sort q.attribute) q.node q.attribute refl step.valid.0 step.valid.1 o read))

    -- ---- items hand on to their own phase or to a later one

    next_here : (p i : ℕ) → ComesNext shape p i
        → (i < length xs) × (is_next_by (kinds_of cuts) (x_at p) (x_at i) ≡ true)
    next_here p i comes =
        let f =
        in_filter (λ k. is_next_by (kinds_of cuts) (x_at p) (x_at k)) (range_with_len 0 (length xs)) i
        (subst (Contains (nexts_by (kinds_of cuts) xs p)) comes.is
        (Contains-get_or (nexts_by (kinds_of cuts) xs p) comes.at 0 comes.below)) in
        let r = (in_range_from 0 (length xs) i f.0).1 in
        ((let z : i < length xs = omega (arith, r) in z), f.1)

    begun : (i : ℕ) → i < length xs → kind_of_item i ≢ inorder → begins_by (whole_of i) (x_at i).first ≡ true
    begun i known some =
        (in_tops_by (whole_of i) t (kind_of_item i) some rooted (x_at i).first (here i known).there).1

    handing : (p i : ℕ) → IsNext m p i
        → (phase_at phases p ≡ phase_at phases i) ⊎ ComesBefore (phase_at phases p) (phase_at phases i)
    handing p i next =
        let comes = comes_next shape p i next in
        let known = next_here p i comes in
        let parts =
        both ((x_at p).pass == (x_at i).pass) (hands_on (kind_of_item p) (x_at p).first (x_at i).first) known.1 in
        let one = eqb-true (x_at p).pass (x_at i).pass parts.0 in
        let cut : cuts (x_at p).pass ≡ cuts (x_at i).pass = ap cuts one in
        let same : phase_at phases i ≡ item_phase g (whole_of p) t phases.size (kind_of_item p) (x_at i).first =
        phase_is i known.0
        ∙ ap (λ (k : PassCut). item_phase g k.is_whole t phases.size k.kind (x_at i).first) (sym cut) in
        subst (λ x. (x ≡ phase_at phases i) ⊎ ComesBefore x (phase_at phases i)) (sym (phase_is p comes.known))
        (subst
        (λ y. (item_phase g (whole_of p) t phases.size (kind_of_item p) (x_at p).first ≡ y)
        ⊎ ComesBefore (item_phase g (whole_of p) t phases.size (kind_of_item p) (x_at p).first) y)
        (sym same)
        (ordered g (whole_of p) t phases.size (kind_of_item p) (x_at p).first (x_at i).first
        (λ some. (
          begun p comes.known some,
          subst (λ (k : PassCut). k.kind ≢ inorder → begins_by k.is_whole (x_at i).first ≡ true) (sym cut)
              (begun i known.0) some,
        )) parts.1))

    pub can_take : 0 < phases.size → instance_count g t < phases.ranges * phases.size → CanTake m phases
    can_take some covers =
        record {
          count = count ∙ sym (item_total-listed shape);
          known = λ i b e.
              let few = few_cells g t fits (x_at i).first (first_there i b e) in
              subst (λ n. n < phases.ranges) (is_ranged i b e).takes.is
              ((div-lt_iff_lt-mul some).1 (let z : first_instance g t (x_at i).first < phases.ranges * phases.size =
              omega (arith, few, covers) in z));
          cover = (let all = cell_total-listed shape in omega (arith, all, covers));
          handing = handing;
          within = within;
          reads = reads;
        }

-- the node in whose visit a step stands is that of its own visit, or a host above that
nearest_above : (t : Forest) (class : ℕ) (p : Path) → AtOrAbove (nearest t class p) p
nearest_above t class top = inl refl
nearest_above t class (down c k p) =
    elim (class_at t (down c k p) == class) as
    (λ b. AtOrAbove (if b then down c k p else nearest t class p) (down c k p)) [
      | true ↦ inl refl
      | false ↦ inr (⊎_elim (λ same. inl same) (λ far. inr far) (nearest_above t class p))
    ]

above_by : (t : Forest) (host : Option ℕ) (p : Path) → AtOrAbove (place_by t host p) p
above_by t None p = inl refl
above_by t (Some class) p = nearest_above t class p

pub place_above : (g : AttributeGrammar) (s : NestingSchedule) (t : Forest) (i : Instance)
    → AtOrAbove (place_by t ((nest_placing_of s).host i.attribute) (turn_of g i).visit) (turn_of g i).visit
place_above g s t i = above_by t ((nest_placing_of s).host i.attribute) (turn_of g i).visit

-- where there is some value, this holds of it
abbrev OfSome : {X : Type 0} → (X → Type 0) → Option X → Type 0
OfSome P None = Unit {0}
OfSome P (Some x) = P x

-- what holds of a value holds of what is the same as some value
pub only_some : {X : Type 0} (P : X → Type 0) (x : X) → P x → (y : X) → Some x ≡ Some y → P y
only_some P x h y e = subst (OfSome P) e h
