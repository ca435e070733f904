-- What an item of a stage hands on to, where its pass and its node are known.
use Rattle.std.proofs.Common.{◌≡◌, ℕ, zero, suc, ◌+◌, ◌<◌, ◌==◌, Bool, true, if◌then◌else◌, refl, sym, ◌∙◌, ap, subst, arith, List, [], ◌∷◌, get_or, length, Contains}
use Rattle.std.proofs.lemmas.List.Elements.{Contains-get_or}
use Rattle.ftl_model.specs.layout.AttributeGrammar.{AttributeGrammar}
use Rattle.ftl_model.specs.layout.Path.{Path, down, node_at, top}
use Rattle.ftl_model.specs.layout.Tree.{Forest, size}
use Rattle.ftl_model.specs.layout.TreeOf.{IsTreeOf}
use Rattle.ftl_order.specs.orders.Schedule.{PassKind, bottomup, inorder, topdown}
use Rattle.ftl_order.proofs.orders.Kids.{root_there}
use Rattle.ftl_items.specs.stage_items.Cut.{PassCut, begins_by, tops_by}
use Rattle.ftl_items.specs.stage_items.Items.{Item, items_by, kinds_of, nexts_by, no_item, predecessors_by}
use Rattle.ftl_items.proofs.stage_items.CutItems.{in_tops_by, item_here}
use Rattle.ftl_items.specs.numbers.ItemNumbers.{all_kids, item_above_by, items_before_by, next_numbers_by, predecessor_numbers_by, start_by}
use Rattle.ftl_items.proofs.numbers.NextCounts.{below_at, length-below_down, length-below_up, length-item_above, next_below}
use Rattle.ftl_items.proofs.stage_items.Homes.{open_begins}
use Rattle.ftl_items.proofs.numbers.NextNumbers.{nexts_numbered, predecessors_numbered}
use Rattle.ftl_tree.proofs.rows.Access.{number_at}
use Rattle.ftl_cursors.specs.items.RowsFit.{IsBegunBelow}

-- a pass of this kind that begins at this number has the item, which begins at this node
pub record Known (count : ℕ) (cuts : ℕ → PassCut) (t : Forest) (i : ℕ) (kind : PassKind) (start n : ℕ) :
    Type 0 where
  pub kind_is : kind ≡ (cuts (get_or (items_by count cuts t) i no_item).pass).kind
  pub start_is : start ≡ start_by cuts t (get_or (items_by count cuts t) i no_item).pass
  pub known : n < size t
  pub node_is : node_at t n ≡ (get_or (items_by count cuts t) i no_item).first

begun_below : (is_whole : Path → Bool) (t : Forest) (start : ℕ) (p : Path) → begins_by is_whole p ≡ true
    → 0 < length (item_above_by bottomup is_whole t start p)
    → IsBegunBelow is_whole p
begun_below is_whole t start top begun some = absurd (let z : ⊥ = omega (arith, some) in z)
begun_below is_whole t start (down c k a) begun some = open_begins is_whole a begun

only_entry : (n place : ℕ) → place < 1 → get_or (n ∷ []) place 0 ≡ n
only_entry n zero below = refl
only_entry n (suc place) below = absurd (let z : ⊥ = omega (arith, below) in z)

module _ (g : AttributeGrammar) (t : Forest) (fits : IsTreeOf g t) (count : ℕ) (cuts : ℕ → PassCut) (i : ℕ)
    (below : i < length (items_by count cuts t)) (start n : ℕ) where
  -- the item of this number
  abbrev x : Item
  x = get_or (items_by count cuts t) i no_item

  -- what is one item in its pass
  abbrev is_whole : Path → Bool
  is_whole = (cuts x.pass).is_whole

  abbrev nexts_in : List ℕ
  nexts_in = nexts_by (kinds_of cuts) (items_by count cuts t) i

  abbrev predecessors_in : List ℕ
  predecessors_in = predecessors_by (kinds_of cuts) (items_by count cuts t) i

  abbrev p : Path
  p = node_at t n

  nexts_at : (kind : PassKind) → Known count cuts t i kind start n
      → nexts_in ≡ next_numbers_by kind g is_whole t start p
  nexts_at kind h =
      nexts_numbered g t fits count cuts i below
      ∙ ap (λ k. next_numbers_by k g is_whole t (start_by cuts t x.pass) x.first) (sym h.kind_is)
      ∙ ap (λ s. next_numbers_by kind g is_whole t s x.first) (sym h.start_is)
      ∙ ap (λ q. next_numbers_by kind g is_whole t start q) (sym h.node_is)

  predecessors_at : (kind : PassKind) → Known count cuts t i kind start n
      → predecessors_in ≡ predecessor_numbers_by kind g is_whole t start p
  predecessors_at kind h =
      predecessors_numbered g t fits count cuts i below
      ∙ ap (λ k. predecessor_numbers_by k g is_whole t (start_by cuts t x.pass) x.first) (sym h.kind_is)
      ∙ ap (λ s. predecessor_numbers_by kind g is_whole t s x.first) (sym h.start_is)
      ∙ ap (λ q. predecessor_numbers_by kind g is_whole t start q) (sym h.node_is)

  above_count : (kind : PassKind) → Known count cuts t i kind start n
      → length (item_above_by kind is_whole t start p) ≡ (if n == 0 then 0 else 1)
  above_count kind h =
      length-item_above kind is_whole t start p
      ∙ ap (λ m. if m == 0 then 0 else 1) (number_at g t n fits h.known)

  pub next_count_down : Known count cuts t i topdown start n
      → (if is_whole p then 0 else length (all_kids g t p)) ≡ length nexts_in
  next_count_down h = sym (ap length (nexts_at topdown h) ∙ length-below_down g is_whole t start p)

  pub next_count_up : Known count cuts t i bottomup start n → (if n == 0 then 0 else 1) ≡ length nexts_in
  next_count_up h = sym (ap length (nexts_at bottomup h) ∙ above_count bottomup h)

  pub next_count_none : Known count cuts t i inorder start n → 0 ≡ length nexts_in
  next_count_none h = sym (ap length (nexts_at inorder h))

  pub predecessor_count_down : Known count cuts t i topdown start n
      → (if n == 0 then 0 else 1) ≡ length predecessors_in
  predecessor_count_down h = sym (ap length (predecessors_at topdown h) ∙ above_count topdown h)

  pub predecessor_count_up : Known count cuts t i bottomup start n
      → (if is_whole p then 0 else length (all_kids g t p)) ≡ length predecessors_in
  predecessor_count_up h = sym (ap length (predecessors_at bottomup h) ∙ length-below_up g is_whole t start p)

  pub predecessor_count_none : Known count cuts t i inorder start n → 0 ≡ length predecessors_in
  predecessor_count_none h = sym (ap length (predecessors_at inorder h))

  -- ---- the next items, by place

  module _ (place : ℕ) (within : place < length nexts_in) where
    pub next_known : get_or nexts_in place 0 < length (items_by count cuts t)
    next_known = next_below (kinds_of cuts) (items_by count cuts t) i place within

    pub next_down : Known count cuts t i topdown start n
        → (place < length (all_kids g t p))
        × (get_or nexts_in place 0 ≡ start + items_before_by is_whole t (get_or (all_kids g t p) place 0))
    next_down h =
        let are = nexts_at topdown h in
        let found = below_at g is_whole t start p place (subst (λ (ns : List ℕ). place < length ns) are within) in
        (found.0, ap (λ (ns : List ℕ). get_or ns place 0) are ∙ found.1)

    pub next_up : Known count cuts t i bottomup start n → IsBegunBelow is_whole p
    next_up h =
        let here = item_here count cuts t x (Contains-get_or (items_by count cuts t) i no_item below) in
        let there : Contains (tops_by bottomup is_whole t) x.first =
        subst (λ k. Contains (tops_by k is_whole t) x.first) (sym h.kind_is) here.there in
        let begun = (in_tops_by is_whole t bottomup (λ e. let z : ⊥ = cc in z) (root_there g t fits) x.first there).1 in
        let some = ap length (nexts_at bottomup h) in
        begun_below is_whole t start p (subst (λ q. begins_by is_whole q ≡ true) (sym h.node_is) begun)
        (omega (arith, some, within))

    pub next_above : Known count cuts t i bottomup start n → (m : ℕ)
        → item_above_by bottomup is_whole t start p ≡ m ∷ [] → get_or nexts_in place 0 ≡ m
    next_above h m only =
        let are = nexts_at bottomup h ∙ only in
        let one = ap length are in
        ap (λ (ns : List ℕ). get_or ns place 0) are ∙ only_entry m place (omega (arith, one, within))

    pub no_next : Known count cuts t i inorder start n → ⊥
    no_next h = let none = ap length (nexts_at inorder h) in let z : ⊥ = omega (arith, none, within) in z
