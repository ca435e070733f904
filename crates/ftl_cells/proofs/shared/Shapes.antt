-- A work that is given by functions means what the functions say, and is lawful where they are.
use Rattle.std.proofs.Common.{◌≡◌, ℕ, ◌^◌, ◌<◌, ◌≤◌, inl, inr, ⊎_elim, subst, sym, ap, ◌∙◌, arith, length, get_or}
use Rattle.std.proofs.lemmas.List.FromFn.{length-map-range_with_len, get_or-map-range_with_len}
use Rattle.ftl_model.specs.layout.Values.{overflow, IsValue}
use Rattle.ftl_cells.specs.shared.Count.{Counts}
use Rattle.ftl_cells.specs.shared.Work.{no_item, no_step, item_at, step_at, cell_total, kind_at, solution_at, item_total, pred_total, next_total, next_at, step_total, target_of, reads_of_step, read_total, read_of, IsStepOfItem, IsNext, IsOwn, IsHandedOn, IsReadable, IsLawfulWork}
use Rattle.ftl_cells.specs.shared.Shape.{WorkShape, listing, listed, step_of, item_of, HasStep, ComesNext, IsOwnCell, IsPassedCell, IsLawfulWorkShape}
use Rattle.ftl_cells.specs.declared.shared.kind.CellKind.TheVariants.{Later}
use Rattle.ftl_cells.proofs.shared.Counting.{same_count}

listing_at : {X : Type 0} (f : ℕ → X) (n i : ℕ) (d : X) → i < n → get_or (listing f n) i d ≡ f i
listing_at f n i d l = get_or-map-range_with_len f 0 n i i d l (omega arith)

module _ (s : WorkShape) where
  pub cell_total-listed : cell_total (listed s) ≡ s.cells
  unfolding cell_total listed
  cell_total-listed = length-map-range_with_len s.kind 0 s.cells

  pub kind_at-listed : (c : ℕ) → c < s.cells → kind_at (listed s) c ≡ s.kind c
  unfolding kind_at listed
  kind_at-listed c l = listing_at s.kind s.cells c Later l

  pub solution_at-listed : (c : ℕ) → c < s.cells → solution_at (listed s) c ≡ s.value c
  unfolding solution_at listed
  solution_at-listed c l = listing_at s.value s.cells c overflow l

  pub item_total-listed : item_total (listed s) ≡ s.items
  unfolding item_total listed
  item_total-listed = length-map-range_with_len (item_of s) 0 s.items

  item_at-listed : (i : ℕ) → i < s.items → item_at (listed s) i ≡ item_of s i
  unfolding listed
  item_at-listed i l = listing_at (item_of s) s.items i no_item l

  pub pred_total-listed : (i : ℕ) → i < s.items → pred_total (listed s) i ≡ s.preds i
  unfolding pred_total
  pred_total-listed i l = ap (λ x. x.preds) (item_at-listed i l)

  pub next_total-listed : (i : ℕ) → i < s.items → next_total (listed s) i ≡ s.next_count i
  unfolding next_total
  next_total-listed i l = ap (λ x. length x.next) (item_at-listed i l) ∙ length-map-range_with_len (s.next i) 0
      (s.next_count i)

  pub next_at-listed : (i k : ℕ) → i < s.items → k < s.next_count i → next_at (listed s) i k ≡ s.next i k
  unfolding next_at
  next_at-listed i k l b = ap (λ x. get_or x.next k 0) (item_at-listed i l) ∙ listing_at (s.next i)
      (s.next_count i) k 0 b

  pub step_total-listed : (i : ℕ) → i < s.items → step_total (listed s) i ≡ s.steps i
  unfolding step_total
  step_total-listed i l = ap (λ x. length x.steps) (item_at-listed i l) ∙ length-map-range_with_len (step_of s i) 0
      (s.steps i)

  step_at-listed : (i j : ℕ) → HasStep s i j → step_at (listed s) i j ≡ step_of s i j
  step_at-listed i j st = ap (λ x. get_or x.steps j no_step) (item_at-listed i st.item) ∙ listing_at (step_of s i)
      (s.steps i) j no_step st.step

  pub target_of-listed : (i j : ℕ) → HasStep s i j → target_of (listed s) i j ≡ s.target i j
  unfolding target_of
  target_of-listed i j st = ap (λ x. x.target) (step_at-listed i j st)

  pub reads_of_step-listed : (i j : ℕ) → HasStep s i j
      → reads_of_step (listed s) i j ≡ listing (s.read i j) (s.read_count i j)
  unfolding reads_of_step
  reads_of_step-listed i j st = ap (λ x. x.reads) (step_at-listed i j st)

  pub read_total-listed : (i j : ℕ) → HasStep s i j → read_total (listed s) i j ≡ s.read_count i j
  read_total-listed i j st = ap length (reads_of_step-listed i j st) ∙ length-map-range_with_len (s.read i j) 0
      (s.read_count i j)

  pub read_of-listed : (i j r : ℕ) → HasStep s i j → r < s.read_count i j → read_of (listed s) i j r ≡ s.read i j r
  read_of-listed i j r st b = ap (λ xs. get_or xs r 0) (reads_of_step-listed i j st) ∙ listing_at (s.read i j)
      (s.read_count i j) r 0 b

  -- the facts on items and steps, both ways
  pub item_below : (i : ℕ) → i < item_total (listed s) → i < s.items
  item_below i l = subst (λ n. i < n) item_total-listed l

  pub item_above : (i : ℕ) → i < s.items → i < item_total (listed s)
  item_above i l = subst (λ n. i < n) (sym item_total-listed) l

  pub has_step : (i j : ℕ) → IsStepOfItem (listed s) i j → HasStep s i j
  has_step i j st = let l = item_below i st.item in record
      { item = l; step = subst (λ n. j < n) (step_total-listed i l) st.step }

  pub is_step : (i j : ℕ) → HasStep s i j → IsStepOfItem (listed s) i j
  is_step i j st = record
      { item = item_above i st.item; step = subst (λ n. j < n) (sym (step_total-listed i st.item)) st.step }

  pub comes_next : (p i : ℕ) → IsNext (listed s) p i → ComesNext s p i
  comes_next p i n = let l = item_below p n.known in let b : n.at < s.next_count p = subst (λ x. n.at < x)
      (next_total-listed p l) n.below in
      record { known = l; at = n.at; below = b; is = sym (next_at-listed p n.at l b) ∙ n.is }

  pub is_next : (p i : ℕ) → ComesNext s p i → IsNext (listed s) p i
  is_next p i n = record {
    known = item_above p n.known;
    at = n.at;
    below = subst (λ x. n.at < x)
        (sym (next_total-listed p n.known)) n.below;
    is = next_at-listed p n.at n.known n.below ∙ n.is;
  }

  module _ (law : IsLawfulWorkShape s) where
    cell_below : (c : ℕ) → c < cell_total (listed s) → c < s.cells
    cell_below c l = subst (λ n. c < n) cell_total-listed l

    next_below : (i k : ℕ) (l : i < s.items) → k < next_total (listed s) i → k < s.next_count i
    next_below i k l b = subst (λ n. k < n) (next_total-listed i l) b

    read_below : (i j r : ℕ) (st : HasStep s i j) → r < read_total (listed s) i j → r < s.read_count i j
    read_below i j r st b = subst (λ n. r < n) (read_total-listed i j st) b

    solved_is : length ((listed s).solution) ≡ cell_total (listed s)
    unfolding listed
    solved_is = length-map-range_with_len s.value 0 s.cells ∙ sym cell_total-listed

    fits : (n : ℕ) → n ≤ s.max_reads → n ≤ (listed s).max_reads
    unfolding listed
    fits n h = h

    pub is_lawful : IsLawfulWork (listed s)
    is_lawful = record {
      solved = solved_is;
      values = λ c l. subst IsValue (sym (solution_at-listed c (cell_below c l))) (law.values c (cell_below c l));
      next_in_range = λ i k l b. let i' = item_below i l in let k' = next_below i k i' b in
          item_above (next_at (listed s) i k)
          (subst (λ x. x < s.items) (sym (next_at-listed i k i' k')) (law.next_in_range i k i' k'));
      next_is_later = λ i k l b. let i' = item_below i l in let k' = next_below i k i' b in
          subst (λ x. i < x) (sym (next_at-listed i k i' k')) (law.next_is_later i k i' k');
      next_once = λ i k n l b c e. let i' = item_below i l in let k' = next_below i k i' b in let n' = next_below i n
          i' c in
          law.next_once i k n i' k' n' (sym (next_at-listed i k i' k') ∙ e ∙ next_at-listed i n i' n');
      preds = λ i l. let i' = item_below i l in subst (Counts (λ p. IsNext (listed s) p i) i)
          (sym (pred_total-listed i i'))
          (same_count (λ p. ComesNext s p i) (λ p. IsNext (listed s) p i) (λ p b n. is_next p i n)
          (λ p b n. comes_next p i n) (law.counts i i'));
      target_in_range = λ i j st. let st' = has_step i j st in subst (λ x. x < cell_total (listed s))
          (sym (target_of-listed i j st'))
          (subst (λ n. s.target i j < n) (sym cell_total-listed) (law.target_in_range i j st'));
      target_kind = λ i j st. let st' = has_step i j st in ap (kind_at (listed s)) (target_of-listed i j st')
          ∙ kind_at-listed (s.target i j) (law.target_in_range i j st') ∙ law.target_kind i j st';
      target_once = λ i j k l a b e. let a' = has_step i j a in let b' = has_step k l b in law.target_once i j k l a'
          b' (sym (target_of-listed i j a') ∙ e ∙ target_of-listed k l b');
      each_target = λ c l e. let c' = cell_below c l in let f = law.each_target c c'
          (sym (kind_at-listed c c') ∙ e) in
          record {
            item = f.item;
            step = f.step;
            known = is_step f.item f.step f.known;
            is = target_of-listed f.item
                f.step f.known ∙ f.is;
          };
      read_in_range = λ i j r st b. let st' = has_step i j st in let r' = read_below i j r st' b in
          subst (λ x. x < cell_total (listed s)) (sym (read_of-listed i j r st' r'))
          (subst (λ n. s.read i j r < n) (sym cell_total-listed) (law.read_in_range i j r st' r'));
      readable = λ i j r st b. let st' = has_step i j st in let r' = read_below i j r st' b in
          subst (IsReadable (listed s) i j) (sym (read_of-listed i j r st' r'))
          (⊎_elim (λ g. inl (kind_at-listed (s.read i j r) (law.read_in_range i j r st' r') ∙ g))
          (λ more. inr (⊎_elim
          (λ (own : IsOwnCell s i j (s.read i j r)). let early : own.step < s.steps i =
          (let x : own.step < j = own.earlier in let y : j < s.steps i = st'.step in omega arith) in
          let o : HasStep s i own.step = record { item = st'.item; step = early } in
          let t : IsOwn (listed s) i j (s.read i j r) = record
          { step = own.step; earlier = own.earlier; is = target_of-listed i own.step o ∙ own.is } in inl t)
          (λ (on : IsPassedCell s i (s.read i j r)).
          let t : IsHandedOn (listed s) i (s.read i j r) = record {
            item = on.item;
            step = on.step;
            next = is_next on.item i on.next;
            known = is_step on.item on.step
                on.known;
            is = target_of-listed on.item on.step on.known ∙ on.is;
          } in inr t)
          more))
          (law.readable i j r st' r'));
      few_reads = λ i j st. let st' = has_step i j st in subst (λ n. n ≤ (listed s).max_reads)
          (sym (read_total-listed i j st')) (fits (s.read_count i j) (law.few_reads i j st'));
      counted = λ i l. let i' = item_below i l in let c = law.counted i i' in (
        subst (λ n. n < 2 ^ 32) (sym (next_total-listed i i')) c.0,
        subst (λ n. n < 2 ^ 32)
            (sym (step_total-listed i i')) c.1,
      );
      reads_counted = λ i j st. let st' = has_step i j st in subst (λ n. n < 2 ^ 32) (sym (read_total-listed i j st'))
          (law.reads_counted i j st');
    }
