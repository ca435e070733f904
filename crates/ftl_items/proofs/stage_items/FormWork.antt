-- A stage whose passes have lawful forms is lawful work.
use Rattle.std.proofs.Common.{◌≡◌, ◌⊎◌, ℕ, suc, ◌<◌, ◌≤◌, ◌^◌, true, refl, sym, ◌∙◌, ap, subst, inl, inr, ⊎_elim, arith, List, get_or, length, map, Contains}
use Rattle.std.specs.List.{range_with_len}
use Rattle.std.proofs.lemmas.List.{get_or_default, length-map}
use Rattle.std.proofs.lemmas.List.Elements.{Contains-get_or}
use Rattle.ftl_cells.specs.shared.Shape.{ComesNext, HasStep, IsFilledBy, IsLawfulWorkShape, IsOwnCell, IsPassedCell, WorkShape}
use Rattle.ftl_cells.specs.shared.Count.{Counts, at_zero, counts_it, skips_it}
use Rattle.ftl_cells.specs.declared.shared.kind.CellKind.{CellKind}
use Rattle.ftl_cells.specs.declared.shared.kind.CellKind.TheVariants.{Given, Target}
use Rattle.ftl_model.specs.lists.Lists.{AreDistinct}
use Rattle.ftl_model.proofs.lists.Elements.{distinct-filter, distinct-range, filter_has, in_filter, in_range_from, range_has}
use Rattle.ftl_model.proofs.lists.Rising.{in_map}
use Rattle.ftl_model.specs.layout.AttributeGrammar.{AttributeGrammar}
use Rattle.ftl_model.specs.layout.Path.{Path}
use Rattle.ftl_model.specs.layout.Solves.{Instance, IsInstance}
use Rattle.ftl_model.specs.layout.Table.{instance_count, instance_number, instances}
use Rattle.ftl_model.specs.layout.Tree.{Forest, IsTree}
use Rattle.ftl_model.specs.layout.TreeOf.{IsTreeOf}
use Rattle.ftl_model.specs.layout.Values.{Value}
use Rattle.ftl_order.specs.orders.Lawful.{IsLawful}
use Rattle.ftl_order.specs.orders.LegalOrder.{IsStep}
use Rattle.ftl_order.specs.orders.Schedule.{PassKind}
use Rattle.ftl_order.proofs.orders.Instances.{instance_at_number, instance_here, number_within}
use Rattle.ftl_order.proofs.orders.Kids.{root_there}
use Rattle.ftl_order.proofs.orders.TreeEquations.{inside_by}
use Rattle.ftl_items.specs.stage_items.FormLaws.{AreForms, AreFormsWithin, IsOfPass}
use Rattle.ftl_items.specs.stage_items.Items.{Item, PassForm, cuts_of, is_next_by, item_steps, kinds_of, nexts_by, no_item}
use Rattle.ftl_items.specs.stage_items.StageWork.{form_item_at, form_items, form_reads_at, form_step_at, form_steps_in, no_instance, work_by}
use Rattle.ftl_items.proofs.stage_items.CutItems.{distinct-items}
use Rattle.ftl_items.proofs.stage_items.Fewer.{distinct_map_in, fewer, one_place}
use Rattle.ftl_items.proofs.stage_items.FormSteps.{FormStep, form_readable, form_step_here, form_step_in_one, form_steps_once}
use Rattle.ftl_items.proofs.stage_items.Later.{next_later, predecessors_counted}

module _ (g : AttributeGrammar) (t : Forest) (law : IsLawful g) (fits : IsTreeOf g t) (count : ℕ)
    (forms : ℕ → PassForm) (kind_at : Instance → CellKind) (place : Instance → Path)
    (form : AreForms g t count forms kind_at place) (solution : List Value) (max_reads max_stack : ℕ)
    (limits : AreFormsWithin g t count forms place solution max_reads) where
  root : IsTree t
  root = root_there g t fits

  abbrev kinds : ℕ → PassKind
  kinds = kinds_of (cuts_of forms)

  abbrev StepOf : Item → Instance → Type 0
  StepOf x i = FormStep g t root count forms kind_at place form x i

  abbrev w : WorkShape
  w = work_by g t count forms kind_at solution max_reads max_stack

  abbrev xs : List Item
  xs = form_items g t count forms

  abbrev x_at : ℕ → Item
  x_at i = form_item_at g t count forms i

  abbrev steps_at : ℕ → List Instance
  steps_at i = form_steps_in g t count forms i

  abbrev i_at : ℕ → ℕ → Instance
  i_at i j = form_step_at g t count forms i j

  has_at : (i j : ℕ) → HasStep w i j → StepOf (x_at i) (i_at i j)
  has_at i j h = (Contains-get_or xs i no_item h.item, Contains-get_or (steps_at i) j no_instance h.step)

  is_step : (i j : ℕ) → HasStep w i j → IsStep g t (i_at i j)
  is_step i j h =
      form.step (x_at i).pass (i_at i j)
      (form_step_here g t root count forms kind_at place form (x_at i) (i_at i j) (has_at i j h)).of_pass

  its_pass : (i j : ℕ) → HasStep w i j → IsOfPass t count forms place (x_at i).pass (i_at i j)
  its_pass i j h = (form_step_here g t root count forms kind_at place form (x_at i) (i_at i j) (has_at i j h)).of_pass

  cell_of : (i : Instance) → IsInstance g t i → get_or (instances g t) (instance_number g t i) no_instance ≡ i
  cell_of i valid = instance_at_number g t i.node i.attribute no_instance valid.0 valid.1

  same_cell : (i j : Instance) → IsInstance g t i → IsInstance g t j → instance_number g t i ≡ instance_number g t j
      → i ≡ j
  same_cell i j vi vj e =
      sym (cell_of i vi) ∙ ap (λ n. get_or (instances g t) n no_instance) e ∙ cell_of j vj

  distinct_xs : AreDistinct xs
  distinct_xs = distinct-items count (cuts_of forms) t

  once_in : (i : ℕ) → i < length xs → AreDistinct (steps_at i)
  once_in i b = form_steps_once g t root count forms kind_at place form (x_at i) (Contains-get_or xs i no_item b)

  -- where a step of an item stands
  pub record Placed (x : Item) (q : Instance) : Type 0 where
    pub item : ℕ
    pub step : ℕ
    pub known : HasStep w item step
    pub is_item : x_at item ≡ x
    pub is_step : i_at item step ≡ q

  placed : (x : Item) (q : Instance) → StepOf x q → Placed x q
  placed x q h =
      let n = h.0.0 in
      let is : x_at n ≡ x = get_or_default xs n no_item x h.0.1 ∙ h.0.2 in
      let there : Contains (steps_at n) q =
      subst (λ y. Contains (item_steps forms t y) q) (sym is) h.1 in
      record {
        item = n;
        step = there.0;
        known = record { item = h.0.1; step = there.1 };
        is_item = is;
        is_step = get_or_default (steps_at n) there.0 no_instance q there.1 ∙ there.2;
      }

  comes : (p i : ℕ) → p < length xs → i < length xs → is_next_by kinds (x_at p) (x_at i) ≡ true
      → ComesNext w p i
  comes p i bp bi e =
      let h : Contains (nexts_by kinds xs p) i =
      filter_has (λ k. is_next_by kinds (x_at p) (x_at k)) (range_with_len 0 (length xs)) i
      (range_has 0 (length xs) i (omega arith) (omega (arith, bi))) e in
      record {
        known = bp;
        at = h.0;
        below = h.1;
        is = get_or_default (nexts_by kinds xs p) h.0 0 i h.1 ∙ h.2;
      }

  next_here : (i k : ℕ) → k < length (nexts_by kinds xs i)
      → (w.next i k < length xs) × (is_next_by kinds (x_at i) (x_at (w.next i k)) ≡ true)
  next_here i k b =
      let f =
      in_filter (λ k. is_next_by kinds (x_at i) (x_at k)) (range_with_len 0 (length xs)) (w.next i k)
      (Contains-get_or (nexts_by kinds xs i) k 0 b) in
      let r = (in_range_from 0 (length xs) (w.next i k) f.0).1 in
      ((let z : w.next i k < length xs = omega (arith, r) in z), f.1)

  -- a count of one property is that of another that is the same below the bound
  recount : (P Q : ℕ → Type 0) (n c : ℕ) → Counts P n c → ((k : ℕ) → k < n → (P k → Q k) × (Q k → P k)) → Counts Q n c
  recount P Q n c at_zero same = at_zero
  recount P Q (suc n) (suc c) (counts_it p h) same =
      counts_it ((same n (omega arith)).0 p) (recount P Q n c h (λ k b. same k (omega (arith, b))))
  recount P Q (suc n) c (skips_it p h) same =
      skips_it (λ q. p ((same n (omega arith)).1 q)) (recount P Q n c h (λ k b. same k (omega (arith, b))))

  read_valid : (i j r : ℕ) → HasStep w i j → r < w.read_count i j
      → IsInstance g t (get_or (form_reads_at g t count forms i j) r no_instance)
  read_valid i j r h b =
      let step = is_step i j h in
      inside_by g law t fits (g.sort (i_at i j).attribute) (i_at i j).node (i_at i j).attribute refl step.0.0 step.0.1
      (get_or (form_reads_at g t count forms i j) r no_instance)
      (Contains-get_or (form_reads_at g t count forms i j) r no_instance b)

  readable_at : (i j r : ℕ) → HasStep w i j → r < w.read_count i j
      → (w.kind (w.read i j r) ≡ Given) ⊎ IsOwnCell w i j (w.read i j r) ⊎ IsPassedCell w i (w.read i j r)
  readable_at i j r h b =
      let q = get_or (form_reads_at g t count forms i j) r no_instance in
      let valid = read_valid i j r h b in
      ⊎_elim
      (λ given. inl
      (ap kind_at (cell_of q valid) ∙ given))
      (λ near.
      ⊎_elim
      (λ own.
      let same : own.1 ≡ j =
      one_place (steps_at i) own.1 j no_instance (once_in i h.item) own.3 h.step (own.5 no_instance) in
      let less = own.2 in
      inr (inl (record {
        step = own.0;
        earlier = omega (arith, less, same);
        is = ap (instance_number g t) (own.4 no_instance);
      })))
      (λ handed.
      let p = placed handed.0 q handed.1 in
      inr (inr (record {
        item = p.item;
        step = p.step;
        next = comes p.item i p.known.item h.item
            (subst (λ y. is_next_by kinds y (x_at i) ≡ true) (sym p.is_item) handed.2);
        known = p.known;
        is = ap (instance_number g t) p.is_step;
      })))
      near)
      (form_readable g t root count forms kind_at place form (x_at i) (i_at i j) q (has_at i j h)
      (Contains-get_or (form_reads_at g t count forms i j) r no_instance b))

  one_target : (i j k l : ℕ) → HasStep w i j → HasStep w k l → w.target i j ≡ w.target k l → (i ≡ k) × (j ≡ l)
  one_target i j k l hi hk e =
      let same : i_at i j ≡ i_at k l =
      same_cell (i_at i j) (i_at k l) (is_step i j hi).0 (is_step k l hk).0 e in
      let one = form_step_in_one g t root count forms kind_at place form (x_at i).pass (i_at i j) (its_pass i j hi) in
      let is_k : x_at k ≡ one.0 =
      one.2 (x_at k) (subst (StepOf (x_at k)) (sym same) (has_at k l hk)) in
      let items_same : i ≡ k =
      one_place xs i k no_item distinct_xs hi.item hk.item (one.2 (x_at i) (has_at i j hi) ∙ sym is_k) in (
        items_same,
        subst (λ k. l < length (steps_at k) → i_at i j ≡ i_at k l → j ≡ l) items_same
            (λ b f. one_place (steps_at i) j l no_instance (once_in i hi.item) hi.step b f) hk.step same,
      )

  target_here : (c : ℕ) → c < w.cells → w.kind c ≡ Target → IsFilledBy w c
  target_here c b e =
      let q = get_or (instances g t) c no_instance in
      let here = instance_here g t law fits c no_instance b in
      let its = form.targets q here.0 e in
      let one = form_step_in_one g t root count forms kind_at place form its.0 q its.1 in
      let p = placed one.0 q one.1 in
      record {
        item = p.item;
        step = p.step;
        known = p.known;
        is = ap (instance_number g t) p.is_step ∙ here.1;
      }

  distinct_nexts : (i : ℕ) → AreDistinct (nexts_by kinds xs i)
  distinct_nexts i =
      distinct-filter (λ k. is_next_by kinds (x_at i) (x_at k)) (range_with_len 0 (length xs))
      (distinct-range 0 (length xs))

  few_nexts : (i : ℕ) → length (nexts_by kinds xs i) ≤ length xs
  few_nexts i =
      fewer (length xs) (nexts_by kinds xs i) (distinct_nexts i)
      (λ k h.
      let f = in_filter (λ k. is_next_by kinds (x_at i) (x_at k)) (range_with_len 0 (length xs)) k h in
      let r = (in_range_from 0 (length xs) k f.0).1 in
      let z : k < length xs = omega (arith, r) in
      z)

  valid_in : (i : ℕ) → i < length xs → (q : Instance) → Contains (steps_at i) q → IsInstance g t q
  valid_in i b q h =
      (form.step (x_at i).pass q
      (form_step_here g t root count forms kind_at place form (x_at i) q (Contains-get_or xs i no_item b, h)).of_pass).0

  few_steps : (i : ℕ) → i < length xs → length (steps_at i) ≤ instance_count g t
  few_steps i b =
      let numbers = map (instance_number g t) (steps_at i) in
      let few =
      fewer (instance_count g t) numbers
      (distinct_map_in (instance_number g t) (steps_at i)
      (λ p q hp hq e. same_cell p q (valid_in i b p hp) (valid_in i b q hq) e) (once_in i b))
      (λ n h.
      let m = in_map (instance_number g t) (steps_at i) n h in
      let v = valid_in i b m.from m.there in
      subst (λ n. n < instance_count g t) m.is (number_within g t m.from.node m.from.attribute v.0 v.1)) in
      let e = length-map (steps_at i) (instance_number g t) in
      omega (arith, few, e)

  pub form_lawful_shape : IsLawfulWorkShape w
  form_lawful_shape =
      record {
        values = limits.values;
        next_in_range = λ i k bi bk. (next_here i k bk).0;
        next_is_later = λ i k bi bk.
            let n = next_here i k bk in
            next_later count (cuts_of forms) t root i (w.next i k) bi n.0 n.1;
        next_once = λ i k l bi bk bl e. one_place (nexts_by kinds xs i) k l 0 (distinct_nexts i) bk bl e;
        counts = λ i bi.
            recount (λ k. is_next_by kinds (x_at k) (x_at i) ≡ true) (λ p. ComesNext w p i) i (w.preds i)
            (predecessors_counted count (cuts_of forms) t root i bi)
            (λ k less. (
              (λ e. comes k i (omega (arith, bi, less)) bi e),
              (λ c. subst (λ n. is_next_by kinds (x_at k) (x_at n) ≡ true) c.is (next_here k c.at c.below).1),
            ));
        target_in_range = λ i j h.
            let v = (is_step i j h).0 in
            number_within g t (i_at i j).node (i_at i j).attribute v.0 v.1;
        target_kind = λ i j h.
            ap kind_at (cell_of (i_at i j) (is_step i j h).0)
            ∙ form.target (x_at i).pass (i_at i j) (its_pass i j h);
        target_once = one_target;
        each_target = target_here;
        read_in_range = λ i j r h b.
            let q = get_or (form_reads_at g t count forms i j) r no_instance in
            let v = read_valid i j r h b in
            number_within g t q.node q.attribute v.0 v.1;
        readable = readable_at;
        few_reads = λ i j h. limits.reads (x_at i).pass (i_at i j) (its_pass i j h);
        counted = λ i bi.
            let a = few_nexts i in
            let b = few_steps i bi in
            let c = limits.items in
            let d = limits.cells in (
              (let z : w.next_count i < 2 ^ 32 = omega (arith, a, c) in z),
              (let z : w.steps i < 2 ^ 32 = omega (arith, b, d) in z),
            );
        reads_counted = λ i j h.
            let a = limits.reads (x_at i).pass (i_at i j) (its_pass i j h) in
            let b = limits.few in
            let z : w.read_count i j < 2 ^ 32 = omega (arith, a, b) in
            z;
      }
