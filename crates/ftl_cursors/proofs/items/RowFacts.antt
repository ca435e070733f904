-- What the rows of a tree tell.
use Rattle.std.proofs.Common.{◌≡◌, ℕ, suc, ◌-◌, ◌<◌, ◌≤◌, Bool, true, false, if◌then◌else◌, refl, sym, ◌∙◌, ap, arith, List, [], ◌∷◌, get_or, length}
use Rattle.std.proofs.lemmas.List.{get_or-map, get_or-reverse, length-map, length-reverse}
use Rattle.std.proofs.lemmas.List.FromFn.{get_or-map-range_with_len, length-map-range_with_len}
use Rattle.ftl_model.specs.layout.AttributeGrammar.{AttributeGrammar}
use Rattle.ftl_model.specs.layout.Path.{Path, at, node_at, number_of, size_at, top}
use Rattle.ftl_model.specs.layout.Tree.{Forest, below_of, size}
use Rattle.ftl_model.specs.layout.TreeOf.{IsTreeOf}
use Rattle.ftl_model.proofs.layout.Numbering.{length-nodes_below, length-preorder}
use Rattle.ftl_order.specs.orders.Schedule.{bottomup, topdown}
use Rattle.ftl_order.proofs.orders.Kids.{root_there}
use Rattle.ftl_items.specs.stage_items.Cut.{begins_by, nodes_by, subtree, tops_by}
use Rattle.ftl_items.specs.numbers.ItemNumbers.{first_nodes_by, items_before_by}
use Rattle.ftl_items.proofs.numbers.Places.{before_within}
use Rattle.ftl_tree.proofs.rows.Access.{has_at, number_at, size-one}
use Rattle.ftl_cursors.specs.items.RowsFit.{AreItemRows}
use Rattle.ftl_cursors.specs.visits.ItemSteps.{node_count_by}
use Rattle.ftl_cursors.proofs.items.RowSteps.{few_firsts}

-- how many nodes an item has
pub length-nodes_by : (is_whole : Path → Bool) (t : Forest) (p : Path)
    → length (nodes_by is_whole t p) ≡ node_count_by is_whole t p
length-nodes_by is_whole t p =
    elim (is_whole p) as
    (λ b. length (if b then subtree t p else p ∷ []) ≡ (if b then size_at t p else 1)) [
      | true ↦ ap suc (length-nodes_below p (λ c. 0) (below_of (at t p)))
      | false ↦ refl
    ]

module _ (is_whole : Path → Bool) (t : Forest) (firsts before : List ℕ)
    (fit : AreItemRows is_whole t firsts before) where
  pub length-firsts : length firsts ≡ length (first_nodes_by is_whole t)
  length-firsts = ap length fit.firsts_are ∙ length-map (first_nodes_by is_whole t) (number_of t)

  pub length-up : length firsts ≡ length (tops_by bottomup is_whole t)
  length-up = length-firsts ∙ sym (length-reverse (first_nodes_by is_whole t))

  pub few_rows : (g : AttributeGrammar) → IsTreeOf g t → length firsts ≤ size t
  few_rows g fits =
      let a = few_firsts is_whole t in
      let b = length-preorder t in
      let e = size-one g t fits in
      omega (arith, length-firsts, a, b, e)

  pub first_down : (item d : ℕ) → item < length (tops_by topdown is_whole t)
      → get_or firsts item d ≡ number_of t (get_or (tops_by topdown is_whole t) item top)
  first_down item d below =
      ap (λ ns. get_or ns item d) fit.firsts_are ∙ get_or-map (number_of t) (first_nodes_by is_whole t) item top d below

  pub first_up : (item d : ℕ) → item < length (tops_by bottomup is_whole t)
      → get_or firsts (length firsts - 1 - item) d ≡ number_of t (get_or (tops_by bottomup is_whole t) item top)
  first_up item d below =
      let firsts_in = first_nodes_by is_whole t in
      let low : item < length firsts_in = omega (arith, below, length-reverse firsts_in) in
      first_down (length firsts - 1 - item) d (omega (arith, low, length-firsts))
      ∙ ap (λ n. number_of t (get_or firsts_in (n - 1 - item) top)) length-firsts
      ∙ ap (number_of t) (sym (get_or-reverse firsts_in item top low))

  pub length-before : length before ≡ size t
  length-before = ap length fit.before_are ∙ length-map-range_with_len (items_before_by is_whole t) 0 (size t)

  pub before_at : (n d : ℕ) → n < size t → get_or before n d ≡ items_before_by is_whole t n
  before_at n d known =
      ap (λ ns. get_or ns n d) fit.before_are
      ∙ get_or-map-range_with_len (items_before_by is_whole t) 0 (size t) n n d known (omega arith)

  -- where an item begins at the node, fewer begin before it than in all
  pub before_room : (g : AttributeGrammar) → IsTreeOf g t → (n : ℕ) → n < size t
      → begins_by is_whole (node_at t n) ≡ true → items_before_by is_whole t n < length (first_nodes_by is_whole t)
  before_room g fits n known begun =
      let less = before_within is_whole t (root_there g t fits) (node_at t n) (has_at g t n fits known) begun in
      let same = ap (items_before_by is_whole t) (number_at g t n fits known) in
      omega (arith, less, same)
