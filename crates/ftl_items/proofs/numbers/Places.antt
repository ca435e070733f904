-- Where the items of a pass stand, and those of a stage.
use Rattle.std.proofs.Common.{◌≡◌, ℕ, zero, suc, ◌+◌, ◌-◌, ◌<◌, ◌≤◌, Bool, true, sym, ◌∙◌, ap, ⊎_elim, arith, [], ◌∷◌, flat_map, get_or, length, length-append, take, Contains}
use Rattle.std.specs.List.{range_with_len}
use Rattle.std.proofs.lemmas.List.{get_or-map, get_or-reverse, length-map, length-reverse, take_at}
use Rattle.std.proofs.lemmas.List.Concat.{get_or-flat_map}
use Rattle.std.proofs.lemmas.List.FromFn.{get_or-range_with_len, length-range_with_len}
use Rattle.std.proofs.lemmas.Grind.{flat_map-append}
use Rattle.ftl_model.proofs.lists.Elements.{in_cases, nothing_in}
use Rattle.ftl_model.specs.layout.Path.{Has, Path, number_of, preorder, top}
use Rattle.ftl_model.specs.layout.Tree.{Forest, IsTree}
use Rattle.ftl_model.proofs.layout.Numbering.{length-preorder}
use Rattle.ftl_model.proofs.layout.Standing.{node_at-number_of, number_of-lt}
use Rattle.ftl_order.specs.orders.Schedule.{PassKind, bottomup, inorder, topdown}
use Rattle.ftl_items.specs.stage_items.Cut.{PassCut, begins_by, starts, tops_by}
use Rattle.ftl_items.specs.stage_items.Items.{item, items_by, items_of_cut, no_item}
use Rattle.ftl_items.proofs.stage_items.CutItems.{distinct-items, in_tops_by}
use Rattle.ftl_items.proofs.stage_items.Fewer.{one_place}
use Rattle.ftl_items.specs.numbers.ItemNumbers.{first_nodes_by, items_before_by, place_by, start_by}
use Rattle.ftl_items.proofs.numbers.RisingLists.{range-append, passing_is, passing_less, passing_within}

pub record PlacedIn (kind : PassKind) (is_whole : Path → Bool) (t : Forest) (p : Path) : Type 0 where
  pub within : place_by kind is_whole t p < length (tops_by kind is_whole t)
  pub is : get_or (tops_by kind is_whole t) (place_by kind is_whole t p) top ≡ p

module _ (cuts : ℕ → PassCut) (t : Forest) where
  -- the start of the next pass
  pub start_next : (m : ℕ)
      → start_by cuts t (m + 1)
      ≡ start_by cuts t m + length (starts cuts t m)
  start_next m =
      let f = items_of_cut cuts t in
      ap (λ ns. length (flat_map f ns)) (range-append 0 m 1)
      ∙ ap length (flat_map-append f (range_with_len 0 m) ((0 + m) ∷ []))
      ∙ length-append (flat_map f (range_with_len 0 m)) (flat_map f ((0 + m) ∷ []))
      ∙ ap (λ n. start_by cuts t m + n)
      (length-append (f (0 + m)) []
      ∙ (let e : length (f (0 + m)) + 0 ≡ length (f (0 + m)) = omega arith in e)
      ∙ (let e : 0 + m ≡ m = omega arith in ap (λ n. length (f n)) e)
      ∙ length-map (starts cuts t m) (item m))

  start_rises : (m n : ℕ) → start_by cuts t m ≤ start_by cuts t (m + n)
  start_rises m zero =
      let e : m ≡ m + 0 = omega arith in
      let f = ap (start_by cuts t) e in
      omega (arith, f)
  start_rises m (suc n) =
      let e : m + suc n ≡ (m + n) + 1 = omega arith in
      let f = ap (start_by cuts t) e in
      let i = start_rises m n in
      let next = start_next (m + n) in
      omega (arith, f, i, next)

module _ (is_whole : Path → Bool) (t : Forest) (rooted : IsTree t) where
  known_number : (p : Path) → Has t p → number_of t p < length (preorder t)
  known_number p h = let a = number_of-lt t p h in let e = length-preorder t in omega (arith, a, e)

  begins_there : (p : Path) → Has t p → begins_by is_whole p ≡ true
      → begins_by is_whole (get_or (preorder t) (number_of t p) top) ≡ true
  begins_there p h e = ap (begins_by is_whole) (node_at-number_of t p h) ∙ e

  -- a node at which an item begins stands among these at the count of those before it
  pub before_within : (p : Path) → Has t p → begins_by is_whole p ≡ true
      → items_before_by is_whole t (number_of t p) < length (first_nodes_by is_whole t)
  before_within p h e =
      passing_within (begins_by is_whole) (preorder t) (number_of t p) top (known_number p h) (begins_there p h e)

  pub before_is : (p : Path) → Has t p → begins_by is_whole p ≡ true
      → get_or (first_nodes_by is_whole t) (items_before_by is_whole t (number_of t p)) top ≡ p
  before_is p h e =
      passing_is (begins_by is_whole) (preorder t) (number_of t p) top (known_number p h) (begins_there p h e)
      ∙ node_at-number_of t p h

  pub before_less : (p : Path) (n : ℕ) → Has t p → begins_by is_whole p ≡ true → number_of t p < n
      → items_before_by is_whole t (number_of t p) < items_before_by is_whole t n
  before_less p n h e less =
      passing_less (begins_by is_whole) (preorder t) (number_of t p) n top less (known_number p h) (begins_there p h e)

  pub placed_in : (kind : PassKind) (p : Path) → Contains (tops_by kind is_whole t) p → PlacedIn kind is_whole t p
  placed_in topdown p h =
      let there = in_tops_by is_whole t topdown (λ e. let z : ⊥ = cc in z) rooted p h in
      record { within = before_within p there.0 there.1; is = before_is p there.0 there.1 }
  placed_in bottomup p h =
      let there = in_tops_by is_whole t bottomup (λ e. let z : ⊥ = cc in z) rooted p h in
      let firsts = first_nodes_by is_whole t in
      let n = items_before_by is_whole t (number_of t p) in
      let low : n < length firsts = before_within p there.0 there.1 in
      let back : length firsts - 1 - (length firsts - 1 - n) ≡ n = omega (arith, low) in
      record {
        within = omega (arith, low, length-reverse firsts);
        is =
            get_or-reverse firsts (length firsts - 1 - n) top (omega (arith, low))
            ∙ ap (λ j. get_or firsts j top) back
            ∙ before_is p there.0 there.1;
      }
  placed_in inorder p h =
      record {
        within = omega arith;
        is = ⊎_elim (λ e. e) (λ none. absurd (nothing_in p none)) (in_cases top p [] h);
      }

module _ (count : ℕ) (cuts : ℕ → PassCut) (t : Forest) (rooted : IsTree t) where
  -- the place of a node in the pass of a number
  abbrev place_at : ℕ → Path → ℕ
  place_at m p = place_by (cuts m).kind (cuts m).is_whole t p

  take-range : (m n : ℕ) → m ≤ n → take m (range_with_len 0 n) ≡ range_with_len 0 m
  take-range m n low =
      let e : m + (n - m) ≡ n = omega (arith, low) in
      ap (λ k. take m (range_with_len 0 k)) (sym e)
      ∙ ap (take m) (range-append 0 m (n - m))
      ∙ take_at (range_with_len 0 m) (range_with_len (0 + m) (n - m)) m (length-range_with_len 0 m)

  -- the items of a pass stand one after another
  pub pass_stands : (m j : ℕ) → m < count → j < length (starts cuts t m)
      → get_or (items_by count cuts t) (start_by cuts t m + j) no_item
      ≡ item m (get_or (starts cuts t m) j top)
  pass_stands m j known below =
      let f = items_of_cut cuts t in
      let ns = range_with_len 0 (count) in
      let starts = starts cuts t m in
      let here : get_or ns m 0 ≡ m =
      get_or-range_with_len 0 (count) m 0 known ∙ (let e : 0 + m ≡ m = omega arith in e) in
      let len : length (f (get_or ns m 0)) ≡ length starts =
      ap (λ n. length (f n)) here ∙ length-map starts (item m) in
      ap (λ k. get_or (flat_map f ns) (length (flat_map f k) + j) no_item)
      (sym (take-range m (count) (omega (arith, known))))
      ∙ get_or-flat_map f ns m j 0 no_item (omega (arith, known, length-range_with_len 0 (count)))
      (omega (arith, below, len))
      ∙ ap (λ n. get_or (f n) j no_item) here
      ∙ get_or-map (item m) starts j top no_item below

  -- before the end
  pub pass_within : (m j : ℕ) → m < count → j < length (starts cuts t m)
      → start_by cuts t m + j < length (items_by count cuts t)
  pass_within m j known below =
      let next = start_next cuts t m in
      let e : (m + 1) + (count - (m + 1)) ≡ count = omega (arith, known) in
      let f = ap (start_by cuts t) e in
      let up = start_rises cuts t (m + 1) (count - (m + 1)) in
      omega (arith, next, f, up, below)

  -- the number of the item that begins at a node
  pub record NumberedItem (m : ℕ) (p : Path) : Type 0 where
    pub within : start_by cuts t m + place_at m p
        < length (items_by count cuts t)
    pub is : get_or (items_by count cuts t)
        (start_by cuts t m + place_at m p) no_item ≡ item m p

  pub numbered_item : (m : ℕ) (p : Path) → m < count → Contains (starts cuts t m) p
      → NumberedItem m p
  numbered_item m p known h =
      let placed = placed_in (cuts m).is_whole t rooted (cuts m).kind p h in
      let j = place_at m p in
      record {
        within = pass_within m j known placed.within;
        is = pass_stands m j known placed.within ∙ ap (item m) placed.is;
      }

  -- and no other number is its
  pub only_number : (m i : ℕ) (p : Path) → m < count → Contains (starts cuts t m) p
      → i < length (items_by count cuts t) → get_or (items_by count cuts t) i no_item ≡ item m p
      → i ≡ start_by cuts t m + place_at m p
  only_number m i p known h below e =
      let numbered = numbered_item m p known h in
      one_place (items_by count cuts t) i
      (start_by cuts t m + place_at m p) no_item
      (distinct-items count cuts t) below numbered.within (e ∙ sym numbered.is)
