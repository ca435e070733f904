-- The numbers of the items that begin at a node's kids or at its parent: lists that rise.
use Rattle.std.proofs.Common.{◌≡◌, ◌≢◌, ℕ, ◌+◌, ◌-◌, ◌<◌, Bool, true, false, not, if◌then◌else◌, refl, sym, ◌∙◌, ap, subst, inl, ⊎_elim, arith, List, [], ◌∷◌, length, map, Contains}
use Rattle.ftl_model.proofs.lists.Elements.{here_in, in_cases, nothing_in}
use Rattle.ftl_model.proofs.lists.Rising.{in_map, map_has, rising-map, rising_more}
use Rattle.ftl_model.specs.layout.AttributeGrammar.{AttributeGrammar}
use Rattle.ftl_model.specs.layout.Path.{Has, Path, down, number_of, top}
use Rattle.ftl_model.specs.layout.Tree.{Forest, IsTree}
use Rattle.ftl_model.specs.layout.TreeOf.{IsTreeOf}
use Rattle.ftl_model.proofs.layout.Standing.{has_parent}
use Rattle.ftl_order.specs.orders.Schedule.{PassKind, bottomup, inorder, topdown}
use Rattle.ftl_order.proofs.orders.Kids.{root_there}
use Rattle.ftl_items.specs.stage_items.Cut.{begins_by, is_open, tops_by}
use Rattle.ftl_items.specs.stage_items.Items.{is_parent}
use Rattle.ftl_items.proofs.stage_items.CutItems.{in_tops_by, tops_by_have}
use Rattle.ftl_items.proofs.stage_items.HandingLaws.{kid_of, node_itself, same_node}
use Rattle.ftl_items.proofs.stage_items.Homes.{open_all, open_begins}
use Rattle.ftl_items.proofs.stage_items.Reverses.{in_reverse, reverse_has}
use Rattle.ftl_items.specs.numbers.ItemNumbers.{all_kids, first_nodes_by, item_above_by, items_before_by, items_below_by, kid_items_by, place_by}
use Rattle.ftl_items.proofs.numbers.KidNumbers.{in_kids, kids_have, kids_rise}
use Rattle.ftl_items.proofs.numbers.Places.{before_less, before_within}
use Rattle.ftl_items.proofs.numbers.RisingLists.{Rises, rising-reverse, same_rising}

-- where an item begins at a node that is not whole, one begins at its kids too
begins_open : (is_whole : Path → Bool) (p : Path) → begins_by is_whole p ≡ true → is_whole p ≡ false
    → is_open is_whole p ≡ true
begins_open is_whole top b e = ap not e
begins_open is_whole (down c k p) b e = ap (λ x. if x then false else is_open is_whole p) e ∙ b

-- the number of an item that begins at a node of this sort
pub record Handed (kind : PassKind) (is_whole : Path → Bool) (t : Forest) (start : ℕ) (test : Path → Bool) (n : ℕ) : Type 0 where
  pub node : Path
  pub there : Contains (tops_by kind is_whole t) node
  pub passes : test node ≡ true
  pub is : start + place_by kind is_whole t node ≡ n

-- the list has the numbers of these items
pub record HasHanded (kind : PassKind) (is_whole : Path → Bool) (t : Forest) (start : ℕ) (test : Path → Bool) (ns : List ℕ) : Type 0 where
  pub rises : Rises ns
  pub of : (n : ℕ) → Contains ns n → Handed kind is_whole t start test n
  pub has : (n : ℕ) → Handed kind is_whole t start test n → Contains ns n

pub one_list : (kind : PassKind) (is_whole : Path → Bool) (t : Forest) (start : ℕ) (test : Path → Bool) (xs ys : List ℕ)
    → HasHanded kind is_whole t start test xs → HasHanded kind is_whole t start test ys → xs ≡ ys
one_list kind is_whole t start test xs ys x y =
    same_rising xs ys x.rises y.rises (λ n h. y.has n (x.of n h)) (λ n h. x.has n (y.of n h))

pub no_list : (kind : PassKind) (is_whole : Path → Bool) (t : Forest) (start : ℕ) (test : Path → Bool)
    → ((p : Path) → test p ≡ true → Contains (tops_by kind is_whole t) p → ⊥)
    → HasHanded kind is_whole t start test []
no_list kind is_whole t start test none =
    record {
      rises = tt;
      of = λ n h. absurd (nothing_in n h);
      has = λ n h. absurd (none h.node h.passes h.there);
    }

-- a place from the end of a bottomup pass
abbrev from_end : (is_whole : Path → Bool) → Forest → (start : ℕ) → ℕ → ℕ
from_end is_whole t start n = start + (length (first_nodes_by is_whole t) - 1 - items_before_by is_whole t n)

module _ (g : AttributeGrammar) (t : Forest) (fits : IsTreeOf g t) (is_whole : Path → Bool) where
  pub rooted : IsTree t
  rooted = root_there g t fits

  pub topdown_some : topdown ≢ inorder
  topdown_some = λ e. let z : ⊥ = cc in z

  pub bottomup_some : bottomup ≢ inorder
  bottomup_some = λ e. let z : ⊥ = cc in z

  -- the items of a node's kids
  module _ (p : Path) (has : Has t p) (begun : begins_by is_whole p ≡ true) (large : is_whole p ≡ false) where
    kid_begins : (c k : ℕ) → begins_by is_whole (down c k p) ≡ true
    kid_begins c k = begins_open is_whole p begun large

    -- a kid of the node by its number
    record KidThere (n : ℕ) : Type 0 where
      pub node : Path
      pub there : Has t node
      pub first : begins_by is_whole node ≡ true
      pub passes : is_parent p node ≡ true
      pub is : number_of t node ≡ n

    kid_there : (n : ℕ) → Contains (all_kids g t p) n → KidThere n
    kid_there n h =
        let kid = in_kids g t fits p n h in
        record {
          node = down kid.child kid.kid p;
          there = kid.there;
          first = kid_begins kid.child kid.kid;
          passes = node_itself p;
          is = kid.is;
        }

    kid_listed : (q : Path) → Has t q → is_parent p q ≡ true → Contains (all_kids g t p) (number_of t q)
    kid_listed q h e =
        let kid = kid_of p q e in
        subst (λ r. Contains (all_kids g t p) (number_of t r)) (sym kid.is)
        (kids_have g t fits p kid.child kid.kid (subst (Has t) kid.is h))

    fewer_before : (m n : ℕ) → Contains (all_kids g t p) m → m < n → items_before_by is_whole t m < items_before_by is_whole t n
    fewer_before m n h less =
        let kid = kid_there m h in
        subst (λ x. x < n → items_before_by is_whole t x < items_before_by is_whole t n) kid.is
        (λ low. before_less is_whole t rooted kid.node n kid.there kid.first low) less

    known_before : (n : ℕ) → Contains (all_kids g t p) n → items_before_by is_whole t n < length (first_nodes_by is_whole t)
    known_before n h =
        let kid = kid_there n h in
        subst (λ x. items_before_by is_whole t x < length (first_nodes_by is_whole t)) kid.is
        (before_within is_whole t rooted kid.node kid.there kid.first)

    kids_down : (start : ℕ)
        → HasHanded topdown is_whole t start (is_parent p) (kid_items_by topdown g is_whole t start p)
    kids_down start =
        record {
          rises =
              rising-map (λ a b. a < b) (λ n. start + items_before_by is_whole t n) (all_kids g t p)
              (rising_more (λ a b. a < b) (λ m n. start + items_before_by is_whole t m < start + items_before_by is_whole t n)
              (all_kids g t p)
              (λ m n hm hn less. let i = fewer_before m n hm less in omega (arith, i)) (kids_rise g t fits p has));
          of = λ n h.
              let m = in_map (λ n. start + items_before_by is_whole t n) (all_kids g t p) n h in
              let kid = kid_there m.from m.there in
              record {
                node = kid.node;
                there = tops_by_have is_whole t topdown topdown_some kid.node kid.there kid.first;
                passes = kid.passes;
                is = ap (λ x. start + items_before_by is_whole t x) kid.is ∙ m.is;
              };
          has = λ n h.
              let there = in_tops_by is_whole t topdown topdown_some rooted h.node h.there in
              subst (Contains (kid_items_by topdown g is_whole t start p)) h.is
              (map_has (λ n. start + items_before_by is_whole t n) (all_kids g t p) (number_of t h.node)
              (kid_listed h.node there.0 h.passes));
        }

    kids_up : (start : ℕ)
        → HasHanded bottomup is_whole t start (is_parent p) (kid_items_by bottomup g is_whole t start p)
    kids_up start =
        record {
          rises =
              rising-reverse (λ a b. b < a) (map (from_end is_whole t start) (all_kids g t p))
              (rising-map (λ a b. b < a) (from_end is_whole t start) (all_kids g t p)
              (rising_more (λ a b. a < b) (λ m n. from_end is_whole t start n < from_end is_whole t start m) (all_kids g t p)
              (λ m n hm hn less.
              let i = fewer_before m n hm less in
              let j = known_before n hn in
              omega (arith, i, j)) (kids_rise g t fits p has)));
          of = λ n h.
              let m =
              in_map (from_end is_whole t start) (all_kids g t p) n
              (in_reverse (map (from_end is_whole t start) (all_kids g t p)) n h) in
              let kid = kid_there m.from m.there in
              record {
                node = kid.node;
                there = tops_by_have is_whole t bottomup bottomup_some kid.node kid.there kid.first;
                passes = kid.passes;
                is = ap (from_end is_whole t start) kid.is ∙ m.is;
              };
          has = λ n h.
              let there = in_tops_by is_whole t bottomup bottomup_some rooted h.node h.there in
              subst (Contains (kid_items_by bottomup g is_whole t start p)) h.is
              (reverse_has (map (from_end is_whole t start) (all_kids g t p)) (from_end is_whole t start (number_of t h.node))
              (map_has (from_end is_whole t start) (all_kids g t p) (number_of t h.node)
              (kid_listed h.node there.0 h.passes)));
        }

  -- a node whose tree is one item hands on to none of its kids
  small_alone : (p q : Path) → is_whole p ≡ true → is_parent p q ≡ true → begins_by is_whole q ≡ true → ⊥
  small_alone p q small e begun =
      let kid = kid_of p q e in
      let is_free : is_open is_whole p ≡ true = subst (λ r. begins_by is_whole r ≡ true) kid.is begun in
      let large = open_all (is_whole) p is_free p (inl refl) in
      let z : ⊥ = grind (arith, small, large) in
      z

  pub down_below : (start : ℕ) (p : Path) → Has t p → begins_by is_whole p ≡ true
      → HasHanded topdown is_whole t start (is_parent p) (items_below_by topdown g is_whole t start p)
  down_below start p has begun =
      elim (is_whole p) as
      (λ b. (is_whole p ≡ b)
      → HasHanded topdown is_whole t start (is_parent p) (if b then [] else kid_items_by topdown g is_whole t start p)) [
        | true ↦ λ e.
            no_list topdown is_whole t start (is_parent p)
            (λ q is there. small_alone p q e is (in_tops_by is_whole t topdown topdown_some rooted q there).1)
        | false ↦ λ e. kids_down p has begun e start
      ]
      refl

  pub up_below : (start : ℕ) (p : Path) → Has t p → begins_by is_whole p ≡ true
      → HasHanded bottomup is_whole t start (is_parent p) (items_below_by bottomup g is_whole t start p)
  up_below start p has begun =
      elim (is_whole p) as
      (λ b. (is_whole p ≡ b)
      → HasHanded bottomup is_whole t start (is_parent p) (if b then [] else kid_items_by bottomup g is_whole t start p)) [
        | true ↦ λ e.
            no_list bottomup is_whole t start (is_parent p)
            (λ q is there. small_alone p q e is (in_tops_by is_whole t bottomup bottomup_some rooted q there).1)
        | false ↦ λ e. kids_up p has begun e start
      ]
      refl

  -- the item of a node's parent
  pub parent_item : (kind : PassKind) → kind ≢ inorder → (start : ℕ) (p : Path) → Has t p → begins_by is_whole p ≡ true
      → HasHanded kind is_whole t start (λ q. is_parent q p) (item_above_by kind is_whole t start p)
  parent_item kind some start top has begun =
      no_list kind is_whole t start (λ q. is_parent q top) (λ q is there. let z : ⊥ = grind (arith, is) in z)
  parent_item kind some start (down c k a) has begun =
      record {
        rises = ((λ y h. absurd (nothing_in y h)), tt);
        of = λ n h.
            record {
              node = a;
              there = tops_by_have is_whole t kind some a (has_parent t c k a has) (open_begins is_whole a begun);
              passes = node_itself a;
              is =
                  ⊎_elim (λ e. e) (λ none. absurd (nothing_in n none))
                  (in_cases (start + place_by kind is_whole t a) n [] h);
            };
        has = λ n h.
            subst (Contains ((start + place_by kind is_whole t a) ∷ []))
            (ap (λ q. start + place_by kind is_whole t q) (sym (same_node h.node a h.passes)) ∙ h.is)
            (here_in (start + place_by kind is_whole t a) []);
      }
