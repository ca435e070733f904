-- Which items hand on to which, by their numbers.
use Rattle.std.proofs.Common.{◌≡◌, ℕ, ◌+◌, ◌<◌, ◌==◌, Bool, true, refl, sym, ◌∙◌, ap, subst, arith, eqb-true, eq-eqb, List, filter, get_or, length, Contains}
use Rattle.std.specs.List.{range_with_len}
use Rattle.std.proofs.lemmas.List.Elements.{Contains-get_or}
use Rattle.ftl_model.proofs.lists.Elements.{filter_has, in_filter, in_range_from, range_has}
use Rattle.ftl_model.specs.layout.AttributeGrammar.{AttributeGrammar}
use Rattle.ftl_model.specs.layout.Path.{Path}
use Rattle.ftl_model.specs.layout.Tree.{Forest}
use Rattle.ftl_model.specs.layout.TreeOf.{IsTreeOf}
use Rattle.ftl_order.specs.orders.Schedule.{PassKind, bottomup, inorder, topdown}
use Rattle.ftl_order.proofs.orders.Kids.{root_there}
use Rattle.ftl_items.specs.stage_items.Cut.{PassCut, starts, tops_by}
use Rattle.ftl_items.specs.stage_items.Items.{Item, hands_on, is_next_by, item, items_by, nexts_by, no_item, predecessors_by}
use Rattle.ftl_items.proofs.stage_items.Ahead.{rising-range}
use Rattle.ftl_items.proofs.stage_items.CutItems.{in_tops_by, item_here}
use Rattle.ftl_items.proofs.stage_items.HandingLaws.{both, joined}
use Rattle.ftl_items.specs.numbers.ItemNumbers.{next_numbers_by, place_by, predecessor_numbers_by, start_by}
use Rattle.ftl_items.proofs.numbers.Places.{numbered_item, only_number}
use Rattle.ftl_items.proofs.numbers.RisingLists.{rising-filter}
use Rattle.ftl_items.proofs.numbers.HandedNumbers.{HasHanded, bottomup_some, down_below, no_list, one_list, parent_item, topdown_some, up_below}

module _ (g : AttributeGrammar) (t : Forest) (fits : IsTreeOf g t) where
  module _ (count : ℕ) (cuts : ℕ → PassCut) where
    abbrev all : List Item
    all = items_by count cuts t

    abbrev kind_at : ℕ → PassKind
    kind_at m = (cuts m).kind

    abbrev whole_at : ℕ → Path → Bool
    whole_at m = (cuts m).is_whole

    abbrev start_at : ℕ → ℕ
    start_at m = start_by cuts t m

    -- a list of the numbers of items that a test on pass and node chooses
    chosen : (m : ℕ) → m < count → (test : Path → Bool) (choose : ℕ → Bool)
        → ((k : ℕ) → k < length all → choose k ≡ true
        → ((get_or all k no_item).pass ≡ m) × (test (get_or all k no_item).first ≡ true))
        → ((k : ℕ) (q : Path) → get_or all k no_item ≡ item m q → test q ≡ true → choose k ≡ true)
        → HasHanded (kind_at m) (whole_at m) t (start_at m) test (filter choose (range_with_len 0 (length all)))
    chosen m known test choose only every =
        record {
          rises = rising-filter (λ a b. a < b) choose (range_with_len 0 (length all)) (rising-range 0 (length all));
          of = λ k h.
              let i = in_filter choose (range_with_len 0 (length all)) k h in
              let range = (in_range_from 0 (length all) k i.0).1 in
              let below : k < length all = omega (arith, range) in
              let picked = only k below i.1 in
              let x = get_or all k no_item in
              let here = item_here count cuts t x (Contains-get_or all k no_item below) in
              let there : Contains (starts cuts t m) x.first =
              subst (λ n. Contains (starts cuts t n) x.first) picked.0 here.there in
              record {
                node = x.first;
                there = there;
                passes = picked.1;
                is =
                    sym
                    (only_number count cuts t (root_there g t fits) m k x.first known there below
                    (ap (λ n. item n x.first) picked.0));
              };
          has = λ k h.
              let numbered = numbered_item count cuts t (root_there g t fits) m h.node known h.there in
              let within = numbered.within in
              subst (Contains (filter choose (range_with_len 0 (length all)))) h.is
              (filter_has choose (range_with_len 0 (length all)) (start_at m + place_by (kind_at m) (whole_at m) t h.node)
              (range_has 0 (length all) (start_at m + place_by (kind_at m) (whole_at m) t h.node) (omega arith)
              (omega (arith, within)))
              (every (start_at m + place_by (kind_at m) (whole_at m) t h.node) h.node numbered.is h.passes));
        }

    module _ (i : ℕ) (below : i < length all) where
      abbrev x : Item
      x = get_or all i no_item

      nexts_chosen : (m : ℕ) → x.pass ≡ m → m < count
          → HasHanded (kind_at m) (whole_at m) t (start_at m) (λ q. hands_on (kind_at m) x.first q) (nexts_by kind_at all i)
      nexts_chosen m is known =
          chosen m known (λ q. hands_on (kind_at m) x.first q) (λ k. is_next_by kind_at x (get_or all k no_item))
          (λ k low e.
          let y = get_or all k no_item in
          let b = both (x.pass == y.pass) (hands_on (kind_at x.pass) x.first y.first) e in
          (sym (eqb-true x.pass y.pass b.0) ∙ is, subst (λ n. hands_on (kind_at n) x.first y.first ≡ true) is b.1))
          (λ k q at e.
          subst (λ (y : Item). is_next_by kind_at x y ≡ true) (sym at)
          (joined (x.pass == m) (hands_on (kind_at x.pass) x.first q) (eq-eqb x.pass m is)
          (subst (λ n. hands_on (kind_at n) x.first q ≡ true) (sym is) e)))

      predecessors_chosen : (m : ℕ) → x.pass ≡ m → m < count
          → HasHanded (kind_at m) (whole_at m) t (start_at m) (λ q. hands_on (kind_at m) q x.first) (predecessors_by kind_at all i)
      predecessors_chosen m is known =
          chosen m known (λ q. hands_on (kind_at m) q x.first) (λ k. is_next_by kind_at (get_or all k no_item) x)
          (λ k low e.
          let y = get_or all k no_item in
          let b = both (y.pass == x.pass) (hands_on (kind_at y.pass) y.first x.first) e in
          let same : y.pass ≡ m = eqb-true y.pass x.pass b.0 ∙ is in
          (same, subst (λ n. hands_on (kind_at n) y.first x.first ≡ true) same b.1))
          (λ k q at e.
          subst (λ (y : Item). is_next_by kind_at y x ≡ true) (sym at)
          (joined (m == x.pass) (hands_on (kind_at m) q x.first) (eq-eqb m x.pass (sym is)) e))

      next_list : (kind : PassKind) (is_whole : Path → Bool) (start : ℕ) (p : Path)
          → Contains (tops_by kind is_whole t) p
          → HasHanded kind is_whole t start (λ q. hands_on kind p q) (next_numbers_by kind g is_whole t start p)
      next_list topdown is_whole start p there =
          let i = in_tops_by is_whole t topdown (topdown_some g t fits is_whole) (root_there g t fits) p there in
          down_below g t fits is_whole start p i.0 i.1
      next_list bottomup is_whole start p there =
          let i = in_tops_by is_whole t bottomup (bottomup_some g t fits is_whole) (root_there g t fits) p there in
          parent_item g t fits is_whole bottomup (bottomup_some g t fits is_whole) start p i.0 i.1
      next_list inorder is_whole start p there =
          no_list inorder is_whole t start (λ q. hands_on inorder p q) (λ q is held. let z : ⊥ = grind (arith, is) in z)

      predecessor_list : (kind : PassKind) (is_whole : Path → Bool) (start : ℕ) (p : Path)
          → Contains (tops_by kind is_whole t) p
          → HasHanded kind is_whole t start (λ q. hands_on kind q p) (predecessor_numbers_by kind g is_whole t start p)
      predecessor_list topdown is_whole start p there =
          let i = in_tops_by is_whole t topdown (topdown_some g t fits is_whole) (root_there g t fits) p there in
          parent_item g t fits is_whole topdown (topdown_some g t fits is_whole) start p i.0 i.1
      predecessor_list bottomup is_whole start p there =
          let i = in_tops_by is_whole t bottomup (bottomup_some g t fits is_whole) (root_there g t fits) p there in
          up_below g t fits is_whole start p i.0 i.1
      predecessor_list inorder is_whole start p there =
          no_list inorder is_whole t start (λ q. hands_on inorder q p) (λ q is held. let z : ⊥ = grind (arith, is) in z)

      pub nexts_numbered : nexts_by kind_at all i ≡ next_numbers_by (kind_at x.pass) g (whole_at x.pass) t (start_at x.pass) x.first
      nexts_numbered =
          let here = item_here count cuts t x (Contains-get_or all i no_item below) in
          one_list (kind_at x.pass) (whole_at x.pass) t (start_at x.pass) (λ q. hands_on (kind_at x.pass) x.first q)
          (nexts_by kind_at all i) (next_numbers_by (kind_at x.pass) g (whole_at x.pass) t (start_at x.pass) x.first)
          (nexts_chosen x.pass refl here.known) (next_list (kind_at x.pass) (whole_at x.pass) (start_at x.pass) x.first here.there)

      pub predecessors_numbered : predecessors_by kind_at all i
          ≡ predecessor_numbers_by (kind_at x.pass) g (whole_at x.pass) t (start_at x.pass) x.first
      predecessors_numbered =
          let here = item_here count cuts t x (Contains-get_or all i no_item below) in
          one_list (kind_at x.pass) (whole_at x.pass) t (start_at x.pass) (λ q. hands_on (kind_at x.pass) q x.first)
          (predecessors_by kind_at all i) (predecessor_numbers_by (kind_at x.pass) g (whole_at x.pass) t (start_at x.pass) x.first)
          (predecessors_chosen x.pass refl here.known)
          (predecessor_list (kind_at x.pass) (whole_at x.pass) (start_at x.pass) x.first here.there)
