-- Where the items of each pass begin in a stage.
use Rattle.std.proofs.Common.{◌≡◌, ℕ, zero, suc, ◌+◌, ◌*◌, ◌<◌, ◌≤◌, Bool, sym, ◌∙◌, ap, subst, ⊎_elim, arith, List, [], ◌∷◌, ◌++◌, get_or, length, map, Contains}
use Rattle.std.specs.List.{range_with_len}
use Rattle.std.proofs.lemmas.List.{get_or-map, length-reverse}
use Rattle.std.proofs.lemmas.List.Elements.{Contains-get_or}
use Rattle.std.proofs.lemmas.List.FromFn.{get_or-map-range_with_len, length-map-range_with_len, map-range_with_len_more}
use Rattle.ftl_model.proofs.lists.Elements.{in_cases, nothing_in}
use Rattle.ftl_model.specs.layout.AttributeGrammar.{AttributeGrammar}
use Rattle.ftl_model.specs.layout.Path.{Has, Path, node_at, number_of, top}
use Rattle.ftl_model.specs.layout.Tree.{Forest, size}
use Rattle.ftl_model.specs.layout.TreeOf.{IsTreeOf}
use Rattle.ftl_model.proofs.layout.Numbering.{length-preorder}
use Rattle.ftl_model.proofs.layout.Standing.{node_at-number_of, number_of-lt}
use Rattle.ftl_order.specs.orders.Schedule.{Pass, PassKind, bottomup, empty_pass, inorder, topdown}
use Rattle.ftl_order.proofs.orders.Kids.{root_there}
use Rattle.ftl_items.specs.stage_items.Cut.{PassCut, starts, tops_by}
use Rattle.ftl_items.specs.stage_items.Items.{Item, item, items_by, no_item, pass_in}
use Rattle.ftl_items.proofs.stage_items.CutItems.{in_tops_by}
use Rattle.ftl_items.specs.numbers.ItemNumbers.{first_nodes_by, start_by}
use Rattle.ftl_items.proofs.numbers.Places.{pass_stands, start_next}
use Rattle.ftl_tree.proofs.rows.Access.{size-one}
use Rattle.ftl_schedule.specs.stages.Stages.{kind_of, pass_of}
use Rattle.ftl_schedule.specs.declared.stages.types.Pass.{Pass as CodePass}
use Rattle.ftl_cursors.specs.items.RowsFit.{AreStarts}
use Rattle.ftl_cursors.proofs.items.RowSteps.{few_firsts}

-- the node at which an item begins is there
pub top_there : (kind : PassKind) (is_whole : Path → Bool) (t : Forest) (p : Path) → Has t top
    → Contains (tops_by kind is_whole t) p → Has t p
top_there topdown is_whole t p is h = (in_tops_by is_whole t topdown (λ e. let z : ⊥ = cc in z) is p h).0
top_there bottomup is_whole t p is h = (in_tops_by is_whole t bottomup (λ e. let z : ⊥ = cc in z) is p h).0
top_there inorder is_whole t p is h =
    ⊎_elim (λ same. subst (Has t) same is) (λ none. absurd (nothing_in p none)) (in_cases top p [] h)

module _ (count : ℕ) (cuts : ℕ → PassCut) (t : Forest) where
  abbrev pub starts_to : ℕ → List ℕ
  starts_to n = map (start_by cuts t) (range_with_len 0 n)

  pub starts_more : (n : ℕ) → starts_to (n + 1) ≡ starts_to n ++ start_by cuts t n ∷ []
  starts_more n = map-range_with_len_more (start_by cuts t) 0 n n (omega arith)

  module _ (column : List ℕ) (fit : AreStarts count cuts t column) where
    pub length-pass_starts : length column ≡ suc count
    length-pass_starts =
        ap length fit.starts_are ∙ length-map-range_with_len (start_by cuts t) 0 (suc (count))

    pub start_is : (m : ℕ) → m ≤ count → get_or column m 0 ≡ start_by cuts t m
    start_is m known =
        ap (λ ns. get_or ns m 0) fit.starts_are
        ∙ get_or-map-range_with_len (start_by cuts t) 0 (suc (count)) m m 0
        (omega (arith, known)) (omega arith)

  -- an item that was found by its pass and its number there
  pub record FoundAt (m i n : ℕ) : Type 0 where
    pub pass_is : (get_or (items_by count cuts t) i no_item).pass ≡ m
    pub first_is : node_at t n ≡ (get_or (items_by count cuts t) i no_item).first
    pub known : n < size t

  pub found_at : (g : AttributeGrammar) → IsTreeOf g t → (m j i n : ℕ) → m < count
      → j < length (starts cuts t m) → start_by cuts t m + j ≡ i
      → n ≡ number_of t (get_or (starts cuts t m) j top) → FoundAt m i n
  found_at g fits m j i n known below is number =
      let rooted = root_there g t fits in
      let q = get_or (starts cuts t m) j top in
      let there = top_there (cuts m).kind (cuts m).is_whole t q rooted (Contains-get_or (starts cuts t m) j top below) in
      let stands : get_or (items_by count cuts t) i no_item ≡ item m q =
      ap (λ k. get_or (items_by count cuts t) k no_item) (sym is) ∙ pass_stands count cuts t rooted m j known
      below in
      let low = number_of-lt t q there in
      let one = size-one g t fits in
      record {
        pass_is = ap (λ (x : Item). x.pass) stands;
        first_is = ap (node_at t) number ∙ node_at-number_of t q there ∙ sym (ap (λ (x : Item). x.first) stands);
        known = omega (arith, number, low, one);
      }

-- where items come before a pass, a pass does
pub some_before : (cuts : ℕ → PassCut) (t : Forest) (m i : ℕ) → i < start_by cuts t m → 0 < m
some_before cuts t zero i less = absurd (let z : ⊥ = omega (arith, less) in z)
some_before cuts t (suc m) i less = omega arith

-- ---- how many items there are

few_tops : (g : AttributeGrammar) (t : Forest) (fits : IsTreeOf g t) (is_whole : Path → Bool)
    (kind : PassKind) → length (tops_by kind is_whole t) ≤ size t
few_tops g t fits is_whole topdown =
    let few = few_firsts is_whole t in
    let all = length-preorder t in
    let one = size-one g t fits in
    omega (arith, few, all, one)
few_tops g t fits is_whole bottomup =
    let few = few_firsts is_whole t in
    let all = length-preorder t in
    let one = size-one g t fits in
    omega (arith, few, all, one, length-reverse (first_nodes_by is_whole t))
few_tops g t fits is_whole inorder = let one = size-one g t fits in omega (arith, one)

module _ (g : AttributeGrammar) (t : Forest) (fits : IsTreeOf g t) (small : size t ≤ 1048576)
    (cuts : ℕ → PassCut) where
  few_before : (m : ℕ) → start_by cuts t m ≤ m * 1048576
  few_before zero = omega arith
  few_before (suc m) =
      let i = few_before m in
      let next = start_next cuts t m in
      let few = few_tops g t fits (cuts m).is_whole (cuts m).kind in
      let same = ap (start_by cuts t) (let e : suc m ≡ m + 1 = omega arith in e) in
      omega (arith, i, next, few, small, same)

  pub few_items : (count : ℕ) → count ≤ 2048 → length (items_by count cuts t) ≤ 2147483648
  few_items count few = let all = few_before count in omega (arith, few, all)

-- the kind of a pass
pub pass_kind : (ps : List CodePass) (m : ℕ) (d : CodePass) → m < length ps
    → (pass_in (map pass_of ps) m).kind ≡ kind_of (get_or ps m d).kind
pass_kind ps m d known = ap (λ (p : Pass). p.kind) (get_or-map pass_of ps m d empty_pass known)
