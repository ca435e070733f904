-- Hold by hold, a thief of each other deque is added.
use Rattle.std.proofs.Common.{◌≡◌, ◌≢◌, ℕ, ◌+◌, ◌-◌, ◌<◌, ◌≤◌, List, [], ◌∷◌, ◌++◌, length, take, drop, get_or, set, slice_range, subst, sym, ap, ◌∙◌, arith}
use Rattle.std.proofs.lemmas.List.{get_or-set_same, get_or-set_other, get_or-map, get_or-drop, length-map, length-set, length-drop, length-take-le, map-set, set-set, length-append, drop_more, take_more, take_rest, append_assoc}
use Rattle.std.proofs.Math.Seq.{map-set_same}
use mathlib.Core.Logic.{dite}
use native.Mathlib.Decide.{ℕ_discrete}
use Rattle.std.specs.List.{All}
use Rattle.std.proofs.lemmas.List.Elements.{All-push, All-set}
use Rattle.ftl_pool.specs.Count.{PoolModel}
use Rattle.ftl_pool.specs.Deque.{DequeName}
use Rattle.ftl_pool.specs.Pool.{StealHoldModel, IsFreshHoldOf, IsFreshStealHoldOf, HasDeques, StealFromOthers, StealsFromNone, own_deques, stolen_deques, others_of}

others_at : StealHoldModel → List DequeName
others_at h = h.others

-- one element as a part of a list
one_in_range : {X : Type 0} (xs : List X) (i : ℕ) (d : X) → i < length xs → slice_range xs i (i + 1) ≡ get_or xs i d ∷ []
one_in_range xs i d l =
    let one : (i + 1) - i ≡ 1 = omega (arith) in
    ap (λ (n : ℕ). take n (drop i xs)) one ∙ ap (take 1) (drop_more xs i d l)

-- a part of a list with the element after it
range_more : {X : Type 0} (xs : List X) (a b : ℕ) (d : X) → a ≤ b → b < length xs
    → slice_range xs a (b + 1) ≡ slice_range xs a b ++ slice_range xs b (b + 1)
range_more {X = X} xs a b d less l =
    let more : (b + 1) - a ≡ (b - a) + 1 = omega (arith, less) in
    let at : a + (b - a) ≡ b = omega (arith, less) in
    ap (λ (n : ℕ). take n (drop a xs)) more
    ∙ take_more (drop a xs) (b - a) d (omega (arith, less, l, length-drop a xs))
    ∙ ap (λ (x : X). slice_range xs a b ++ x ∷ []) (get_or-drop a xs (b - a) d ∙ ap (λ k. get_or xs k d) at)
    ∙ ap (λ ys. slice_range xs a b ++ ys) (sym (one_in_range xs b d l))

module _ (holds : List StealHoldModel) (worker : ℕ) (old hold : StealHoldModel) (l : worker < length holds)
    (is : old ≡ get_or holds worker old) where
  -- its own deque stays
  pub own_stays : hold.own ≡ old.own → own_deques (set holds worker hold) ≡ own_deques holds
  own_stays e = map-set_same (λ (h : StealHoldModel). h.own) holds worker hold old (e ∙ ap (λ (h : StealHoldModel). h.own) is)

  -- one hold steals from one deque more
  pub one_more : (more : List DequeName) → hold.others ≡ old.others ++ more
      → stolen_deques (set holds worker hold)
      ≡ set (stolen_deques holds) worker (get_or (stolen_deques holds) worker [] ++ more)
  unfolding others_at
  one_more more e =
      map-set others_at holds worker hold
      ∙ ap (set (stolen_deques holds) worker)
      (e ∙ ap (λ (x : List DequeName). x ++ more) (ap others_at is ∙ sym (get_or-map others_at holds worker old [] l)))

  -- it has taken nothing from that one either
  pub still_fresh : (pool : PoolModel) (name : DequeName) (more : List ℕ) → All (IsFreshStealHoldOf pool) holds
      → hold.hold ≡ old.hold → hold.others ≡ old.others ++ name ∷ [] → hold.taken ≡ old.taken ++ more ∷ []
      → more ≡ [] → All (IsFreshStealHoldOf pool) (set holds worker hold)
  still_fresh pool name more all same others e none =
      let P = IsFreshStealHoldOf pool in
      let was : P old = subst P (sym is) (all worker old l) in
      let N : List ℕ → Type 0 = λ items. items ≡ [] in
      let new : P hold = record {
        hold = subst (IsFreshHoldOf pool) (sym same) was.hold;
        each = omega (
          arith,
          was.each,
          ap length others,
          ap length e,
          length-append old.others (name ∷ []),
          length-append old.taken (more ∷ []),
        );
        taken = subst (All N) (sym e) (All-push N old.taken more was.taken none);
      } in
      All-set P holds worker hold new all

-- the name of the deque of a hold
pub name_at : (holds : List StealHoldModel) (other : ℕ) (old : StealHoldModel) → other < length holds
    → old ≡ get_or holds other old → old.own ∷ [] ≡ slice_range (own_deques holds) other (other + 1)
name_at holds other old l is =
    let own_of : StealHoldModel → DequeName = λ h. h.own in
    let there : other < length (own_deques holds) = omega (arith, l, length-map holds own_of) in
    sym (one_in_range (own_deques holds) other old.own there
    ∙ ap (λ x. x ∷ []) (get_or-map own_of holds other old old.own l ∙ sym (ap own_of is)))

-- a hold after it was given some of the deques that it steals from
abbrev pub gains : List (List DequeName) → ℕ → List DequeName → List (List DequeName)
gains stolen worker more = set stolen worker (get_or stolen worker [] ++ more)

-- more after more
pub gains_more : (own : List DequeName) (stolen next last : List (List DequeName)) (worker first other : ℕ)
    (d : DequeName) → worker < length stolen → first ≤ other → other < length own
    → next ≡ gains stolen worker (slice_range own first other)
    → last ≡ gains next worker (slice_range own other (other + 1))
    → last ≡ gains stolen worker (slice_range own first (other + 1))
gains_more own stolen next last worker first other d there less l e f =
    let was = get_or stolen worker [] in
    let some = slice_range own first other in
    let one = slice_range own other (other + 1) in
    let here : get_or next worker [] ≡ was ++ some =
    ap (λ (x : List (List DequeName)). get_or x worker []) e ∙ get_or-set_same stolen worker (was ++ some) [] there in
    f
    ∙ ap (λ (x : List (List DequeName)). set x worker (get_or next worker [] ++ one)) e
    ∙ set-set stolen worker (was ++ some) (get_or next worker [] ++ one)
    ∙ ap (λ (x : List DequeName). set stolen worker (x ++ one)) here
    ∙ ap (set stolen worker) (append_assoc was some one ∙ ap (λ x. was ++ x) (sym (range_more own first other d less l)))

-- the holds before this one steal from all others, and those from it on from none
pub record AreGiven (at : ℕ) (own : List DequeName) (stolen : List (List DequeName)) : Type 0 where
  pub before : (k : ℕ) → k < at → get_or stolen k [] ≡ others_of own k
  pub after : (k : ℕ) → at ≤ k → k < length stolen → get_or stolen k [] ≡ []

pub none_given : (holds : List StealHoldModel) → All StealsFromNone holds
    → AreGiven 0 (own_deques holds) (stolen_deques holds)
unfolding others_at
none_given [] none = record { before = λ k l. absurd (omega arith); after = λ k _ l. absurd (omega arith) }
none_given (h ∷ hs) none = record {
  before = λ k l. absurd (omega arith);
  after = λ k _ l.
      let there : k < length (h ∷ hs) = omega (arith, l, length-map (h ∷ hs) others_at) in
      get_or-map others_at (h ∷ hs) k h [] there ∙ none k h there;
}

pub one_given : (own : List DequeName) (stolen middle next : List (List DequeName)) (at : ℕ) → at < length own
    → length stolen ≡ length own → AreGiven at own stolen
    → middle ≡ gains stolen at (slice_range own (at + 1) (length own)) → next ≡ gains middle at (slice_range own 0 at)
    → AreGiven (at + 1) own next
one_given own stolen middle next at l same are e f =
    let there : at < length stolen = omega (arith, l, same) in
    let rest = slice_range own (at + 1) (length own) in
    let front = slice_range own 0 at in
    let none : at - 0 ≡ at = omega (arith) in
    let was : get_or stolen at [] ++ rest ≡ drop (at + 1) own =
    ap (λ (x : List DequeName). x ++ rest) (are.after at (omega arith) there) ∙ take_rest own (at + 1) in
    let half : get_or middle at [] ≡ drop (at + 1) own =
    ap (λ (x : List (List DequeName)). get_or x at []) e
    ∙ get_or-set_same stolen at (get_or stolen at [] ++ rest) [] there ∙ was in
    let there' : at < length middle = omega (arith, there, ap length e, length-set stolen at (get_or stolen at [] ++ rest)) in
    let here : get_or next at [] ≡ others_of own at =
    ap (λ (x : List (List DequeName)). get_or x at []) f
    ∙ get_or-set_same middle at (get_or middle at [] ++ front) [] there'
    ∙ ap (λ (x : List DequeName). x ++ front) half
    ∙ ap (λ (n : ℕ). drop (at + 1) own ++ take n own) none in
    let other : (k : ℕ) → k ≢ at → get_or next k [] ≡ get_or stolen k [] = λ k ne.
    ap (λ (x : List (List DequeName)). get_or x k []) f
    ∙ get_or-set_other middle at k (get_or middle at [] ++ front) [] ne
    ∙ ap (λ (x : List (List DequeName)). get_or x k []) e
    ∙ get_or-set_other stolen at k (get_or stolen at [] ++ rest) [] ne in
    let count : length next ≡ length stolen = ap length f ∙ length-set middle at (get_or middle at [] ++ front)
    ∙ ap length e ∙ length-set stolen at (get_or stolen at [] ++ rest) in record {
      before = λ k b. dite (ℕ_discrete k at)
          (λ same. subst (λ (n : ℕ). get_or next n [] ≡ others_of own n) (sym same) here)
          (λ ne. other k ne ∙ are.before k (omega (arith, ne, b)));
      after = λ k b c. other k (λ same. absurd (omega (arith, same, b)))
          ∙ are.after k (omega (arith, b)) (omega (arith, c, count));
    }

-- after the last hold
pub all_given : (holds : List StealHoldModel) (own : List DequeName) (at : ℕ) → own_deques holds ≡ own
    → length holds ≤ at → AreGiven at own (stolen_deques holds) → StealFromOthers holds
all_given holds own at same end are k l =
    subst (λ (x : List DequeName). get_or (stolen_deques holds) k [] ≡ others_of x k) (sym same)
    (are.before k (omega (arith, l, end)))

-- so each has as many deques as there are holds
pub all_have : (pool : PoolModel) (holds : List StealHoldModel) (count : ℕ) → count ≡ length holds
    → All (IsFreshStealHoldOf pool) holds → StealFromOthers holds → All (HasDeques count) holds
unfolding others_at
all_have pool holds count is fresh others k d l =
    let own = own_deques holds in
    let many : length own ≡ length holds = length-map holds (λ (h : StealHoldModel). h.own) in
    let each = (fresh k d l).each in
    let there = ap length (sym (get_or-map others_at holds k d [] l) ∙ others k l) in
    omega (
      arith,
      is,
      many,
      each,
      there,
      l,
      length-append (drop (k + 1) own) (take k own),
      length-drop (k + 1) own,
      length-take-le k own (omega (arith, l, many)),
    )
