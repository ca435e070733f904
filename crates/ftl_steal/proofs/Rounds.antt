-- Items that are dealt round by round.
use Rattle.std.proofs.Common.{◌≡◌, ◌≢◌, ◌↔◌, Bool, ℕ, ◌+◌, ◌*◌, ◌<◌, ◌≤◌, ⊎_elim, List, [], ◌∷◌, ◌++◌, length, map, cond, eqb, get_or, set, subst, refl, sym, ap, ◌∙◌, mul-le-mul_right, arith}
use Rattle.std.proofs.Math.ListN.{get_or-append}
use Rattle.std.proofs.lemmas.Bool.{cases_order, ne_eqb}
use Rattle.std.proofs.lemmas.List.{append-nil, length-append, length-map, length-set, get_or_push, get_or_append_left, get_or-map, get_or-set_same, get_or-set_other, map-set}
use Rattle.std.proofs.lemmas.List.Elements.{All-nil, All-push, All-set}
use Rattle.std.proofs.lemmas.List.FromFn.{filter_of_map_range_with_len_more}
use Rattle.std.specs.List.{All, filter, range_with_len}
use mathlib.Core.Logic.{dite}
use native.Mathlib.Decide.{ℕ_discrete}
use Rattle.ftl_cells.specs.shared.Work.{Meaning, pred_total}
use Rattle.ftl_pool.specs.Count.{PoolModel}
use Rattle.ftl_pool.specs.Pool.{StealHoldModel, IsHoldOf, IsNew, IsFreshStealHoldOf}
use Rattle.ftl_steal.specs.Dealing.{IsDealt, AreDealt, HasFreeBelow, IsNextTurn, free_below, puts_of}
use Rattle.ftl_steal.specs.Workers.{ArePutBy}

map_same : (xs : List ℕ) → map (λ x. x) xs ≡ xs
map_same [] = refl
map_same (x ∷ xs) = ap (λ ys. x ∷ ys) (map_same xs)

one_more : (m : Meaning) (item : ℕ)
    → free_below m (item + 1) ≡ free_below m item ++ cond (eqb (pred_total m item) 0) (item ∷ []) []
one_more m item =
    let p : ℕ → Bool = λ x. eqb (pred_total m x) 0 in
    sym (ap (filter p) (map_same (range_with_len 0 (item + 1))))
    ∙ filter_of_map_range_with_len_more p (λ x. x) 0 item item (omega (arith))
    ∙ ap (λ xs. filter p xs ++ cond (p item) (item ∷ []) []) (map_same (range_with_len 0 item))

-- one more item that waits for none
pub free_next : (m : Meaning) (item : ℕ) → pred_total m item ≡ 0 → free_below m (item + 1) ≡ free_below m item ++ item ∷ []
free_next m item e =
    one_more m item ∙ ap (λ n. free_below m item ++ cond (eqb n 0) (item ∷ []) []) e

-- one that waits for others is passed by
pub free_same : (m : Meaning) (item : ℕ) → pred_total m item ≢ 0 → free_below m (item + 1) ≡ free_below m item
free_same m item ne =
    one_more m item ∙ ap (λ b. free_below m item ++ cond b (item ∷ []) []) (ne_eqb (pred_total m item) 0 ne)
    ∙ append-nil (free_below m item)

-- ---- rounds

module _ (w : ℕ) where
  -- a round before another ends where that begins at the latest
  sooner : (r q : ℕ) → r < q → r * w + w ≤ q * w
  sooner r q less =
      let up : (r + 1) * w ≤ q * w = mul-le-mul_right w (omega (arith, less)) in
      let sum : (r + 1) * w ≡ r * w + w = omega (arith) in
      omega (arith, up, sum)

  -- the turns of different workers differ
  pub other_turn : (j k r q : ℕ) → j < w → k < w → k ≢ j → k + r * w ≢ j + q * w
  other_turn j k r q jb kb ne same = ⊎_elim
      (λ (e : r ≡ q). ne (let f : r * w ≡ q * w = ap (λ x. x * w) e in omega (arith, same, f)))
      (λ more. ⊎_elim
      (λ (less : r < q). let up = sooner r q less in absurd (omega (arith, up, same, kb)))
      (λ (less : q < r). let up = sooner q r less in absurd (omega (arith, up, same, jb))) more)
      (cases_order r q)

  -- rounds in order
  pub earlier_round : (j r q : ℕ) → j < w → (r < q) ↔ (j + r * w < j + q * w)
  earlier_round j r q jb = (
    (λ less. let up = sooner r q less in omega (arith, up, jb)),
    (λ before. ⊎_elim
        (λ (e : r ≡ q). let f : r * w ≡ q * w = ap (λ x. x * w) e in absurd (omega (arith, before, f)))
        (λ more. ⊎_elim (λ less. less)
        (λ (less : q < r). let up = sooner q r less in absurd (omega (arith, up, before))) more)
        (cases_order r q)),
  )

-- two counts of the same numbers are one
same_count : (a b : ℕ) → ((r : ℕ) → (r < a) ↔ (r < b)) → a ≡ b
same_count a b both = ⊎_elim (λ e. e)
    (λ more. ⊎_elim (λ (less : a < b). let x : a < a = (both a).1 less in absurd (omega (arith, x)))
    (λ (less : b < a). let x : b < b = (both b).0 less in absurd (omega (arith, x))) more)
    (cases_order a b)

module _ (free : List ℕ) (w turn round x : ℕ) (next : length free ≡ turn + round * w) (below : turn < w) where
  -- the worker whose turn it is has an item of each round before this one
  has_rounds : (items : List ℕ) → IsDealt free w turn items → length items ≡ round
  has_rounds items d =
      same_count (length items) round (λ r.
      let iff = earlier_round w turn r round below in (
        (λ l. iff.1 (omega (arith, (d.count r).0 l, next))),
        (λ l. (d.count r).1 (omega (arith, iff.0 l, next))),
      ))

  -- it is dealt the next item
  pub dealt_one : (items : List ℕ) → IsDealt free w turn items → IsDealt (free ++ x ∷ []) w turn (items ++ x ∷ [])
  dealt_one items d =
      let many = has_rounds items d in
      let all = length-append free (x ∷ []) in
      let own = length-append items (x ∷ []) in record {
        count = λ r. let iff = earlier_round w turn r (round + 1) below in
            let sum : (round + 1) * w ≡ round * w + w = omega (arith) in
            let old = earlier_round w turn r round below in (
              (λ l. ⊎_elim
                  (λ (e : r ≡ round). let f : r * w ≡ round * w = ap (λ y. y * w) e in omega (arith, f, next, all))
                  (λ more. ⊎_elim
                  (λ (less : r < round). omega (arith, old.0 less, next, all))
                  (λ (less : round < r). absurd (omega (arith, l, less, own, many))) more)
                  (cases_order r round)),
              (λ l. let before : r < round + 1 = iff.1 (omega (arith, l, next, all, sum, below)) in
                  omega (arith, before, own, many)),
            );
        each = λ r l. ⊎_elim
            (λ (e : r ≡ round).
            let f : r * w ≡ round * w = ap (λ y. y * w) e in
            get_or_push items x 0 r (many ∙ sym e)
            ∙ sym (get_or_push free x 0 (turn + r * w) (omega (arith, next, f))))
            (λ more. ⊎_elim
            (λ (less : r < round).
            let here : r < length items = omega (arith, less, many) in
            get_or_append_left items (x ∷ []) 0 r here ∙ d.each r here
            ∙ sym (get_or_append_left free (x ∷ []) 0 (turn + r * w) ((d.count r).0 here)))
            (λ (less : round < r). absurd (omega (arith, l, less, own, many))) more)
            (cases_order r round);
      }

  -- the others keep what they have
  pub dealt_other : (k : ℕ) (items : List ℕ) → k < w → k ≢ turn → IsDealt free w k items
      → IsDealt (free ++ x ∷ []) w k items
  dealt_other k items kb ne d =
      let all = length-append free (x ∷ []) in record {
        count = λ r. let off = other_turn w turn k r round below kb ne in (
          (λ l. let b = (d.count r).0 l in omega (arith, b, all)),
          (λ l. (d.count r).1 (⊎_elim
              (λ (e : k + r * w ≡ turn + round * w). absurd (off e))
              (λ more. ⊎_elim (λ (less : k + r * w < turn + round * w). omega (arith, less, next))
              (λ (less : turn + round * w < k + r * w). absurd (omega (arith, less, l, next, all))) more)
              (cases_order (k + r * w) (turn + round * w)))),
        );
        each = λ r l. d.each r l ∙ sym (get_or_append_left free (x ∷ []) 0 (k + r * w) ((d.count r).0 l));
      }

-- the items below this number are dealt, and it is this worker's turn
pub record AreDealtBelow (m : Meaning) (item turn : ℕ) (lists : List (List ℕ)) : Type 0 where
  pub turn_below : turn < length lists
  pub round : ℕ
  pub next : length (free_below m item) ≡ turn + round * length lists
  pub dealt : AreDealt (free_below m item) lists

-- the item of this number is dealt to the worker whose turn it is
pub deals_one : (m : Meaning) (item turn after : ℕ) (lists next : List (List ℕ)) → pred_total m item ≡ 0
    → AreDealtBelow m item turn lists → next ≡ set lists turn (get_or lists turn [] ++ item ∷ [])
    → IsNextTurn (length lists) turn after → AreDealtBelow m (item + 1) after next
deals_one m item turn after lists next e are is to =
    let free = free_below m item in
    let w = length lists in
    let new = get_or lists turn [] ++ item ∷ [] in
    let more : free_below m (item + 1) ≡ free ++ item ∷ [] = free_next m item e in
    let count : length next ≡ w = ap length is ∙ length-set lists turn new in
    let grown : length (free_below m (item + 1)) ≡ turn + are.round * w + 1 =
    omega (arith, ap length more, length-append free (item ∷ []), are.next) in
    let dealt : (k : ℕ) → k < w → IsDealt (free ++ item ∷ []) w k (get_or next k []) = λ k kb.
    subst (λ (x : List (List ℕ)). IsDealt (free ++ item ∷ []) w k (get_or x k [])) (sym is)
    (dite (ℕ_discrete k turn)
    (λ same. subst (λ n. IsDealt (free ++ item ∷ []) w n (get_or (set lists turn new) n [])) (sym same)
    (subst (IsDealt (free ++ item ∷ []) w turn) (sym (get_or-set_same lists turn new [] are.turn_below))
    (dealt_one free w turn are.round item are.next are.turn_below (get_or lists turn []) (are.dealt turn are.turn_below))))
    (λ ne. subst (IsDealt (free ++ item ∷ []) w k) (sym (get_or-set_other lists turn k new [] ne))
    (dealt_other free w turn are.round item are.next are.turn_below k (get_or lists k []) kb ne (are.dealt k kb)))) in
    let all : AreDealt (free_below m (item + 1)) next = λ k kb.
    subst (λ (x : List ℕ). IsDealt x (length next) k (get_or next k [])) (sym more)
    (subst (λ n. IsDealt (free ++ item ∷ []) n k (get_or next k [])) (sym count) (dealt k (omega (arith, kb, count)))) in
    let below = are.turn_below in
    ⊎_elim
    (λ (last : w ≡ turn + 1).
    let a = to.around (omega (arith, last)) in
    let sum : (are.round + 1) * w ≡ are.round * w + w = omega (arith) in
    let whole : (are.round + 1) * length next ≡ (are.round + 1) * w = ap (λ n. (are.round + 1) * n) count in
    record {
      turn_below = omega (arith, a, below, count);
      round = are.round + 1;
      next = omega (arith, a, grown, sum, whole, last);
      dealt = all;
    })
    (λ more. let before : turn + 1 < w = ⊎_elim (λ (less : w < turn + 1). absurd (omega (arith, less, below))) (λ less. less) more in
    let a = to.on before in
    let whole : are.round * length next ≡ are.round * w = ap (λ n. are.round * n) count in
    record {
      turn_below = omega (arith, a, before, count);
      round = are.round;
      next = omega (arith, a, grown, whole);
      dealt = all;
    })
    (cases_order w (turn + 1))

-- an item that waits for others is passed by
pub passes_one : (m : Meaning) (item turn : ℕ) (lists : List (List ℕ)) → pred_total m item ≢ 0
    → AreDealtBelow m item turn lists → AreDealtBelow m (item + 1) turn lists
passes_one m item turn lists ne are =
    let same = sym (free_same m item ne) in record {
      turn_below = are.turn_below;
      round = are.round;
      next = subst (λ (x : List ℕ). length x ≡ turn + are.round * length lists) same are.next;
      dealt = subst (λ (x : List ℕ). AreDealt x lists) same are.dealt;
    }

module _ (m : Meaning) (pool : PoolModel) (item : ℕ) where
  -- below a greater number
  pub free_more : (h : StealHoldModel) → HasFreeBelow m pool item h → HasFreeBelow m pool (item + 1) h
  free_more h has = record {
    made = has.made;
    free = has.free;
    below = λ k d l. let b : get_or h.hold.puts k d < item = has.below k d l in omega (arith, b);
  }

  pub all_free_more : (holds : List StealHoldModel) → All (HasFreeBelow m pool item) holds
      → All (HasFreeBelow m pool (item + 1)) holds
  all_free_more holds all k d l = free_more (get_or holds k d) (all k d l)

  -- the item was not put through the hold
  pub is_new : (h : StealHoldModel) → HasFreeBelow m pool item h → IsNew item h.hold.puts
  is_new h has k d l same = let b : get_or h.hold.puts k d < item = has.below k d l in absurd (omega (arith, b, same))

  module _ (holds : List StealHoldModel) (worker : ℕ) (old new : StealHoldModel) (l : worker < length holds)
      (is : old ≡ get_or holds worker old) (puts : new.hold.puts ≡ old.hold.puts ++ item ∷ []) where
    -- one hold has put one item more
    pub puts_one : puts_of (set holds worker new)
        ≡ set (puts_of holds) worker (get_or (puts_of holds) worker [] ++ item ∷ [])
    puts_one =
        let f : StealHoldModel → List ℕ = λ h. h.hold.puts in
        map-set f holds worker new
        ∙ ap (set (puts_of holds) worker)
        (puts ∙ ap (λ (x : List ℕ). x ++ item ∷ []) (ap f is ∙ sym (get_or-map f holds worker old [] l)))

    pub free_one : pred_total m item ≡ 0 → IsHoldOf pool new.hold → All (HasFreeBelow m pool item) holds
        → All (HasFreeBelow m pool (item + 1)) (set holds worker new)
    free_one e made all =
        let was : HasFreeBelow m pool (item + 1) old =
        free_more old (subst (HasFreeBelow m pool item) (sym is) (all worker old l)) in
        let now : HasFreeBelow m pool (item + 1) new = record {
          made = made;
          free = subst (All (λ x. pred_total m x ≡ 0)) (sym puts)
              (All-push (λ x. pred_total m x ≡ 0) old.hold.puts item was.free e);
          below = subst (All (λ x. x < item + 1)) (sym puts)
              (All-push (λ x. x < item + 1) old.hold.puts item was.below (omega (arith)));
        } in
        All-set (HasFreeBelow m pool (item + 1)) holds worker new now (all_free_more holds all)

-- nothing is dealt yet
pub none_free : (m : Meaning) (pool : PoolModel) (holds : List StealHoldModel) → All (IsFreshStealHoldOf pool) holds
    → All (HasFreeBelow m pool 0) holds
none_free m pool holds fresh k d l =
    let h : StealHoldModel = get_or holds k d in
    let is : IsFreshStealHoldOf pool h = fresh k d l in
    let none = sym is.hold.puts in record {
      made = is.hold.made;
      free = subst (All (λ x. pred_total m x ≡ 0)) none (All-nil (λ x. pred_total m x ≡ 0));
      below = subst (All (λ x. x < 0)) none (All-nil (λ x. x < 0));
    }

pub none_dealt : (m : Meaning) (pool : PoolModel) (holds : List StealHoldModel) → 0 < length holds
    → All (IsFreshStealHoldOf pool) holds → AreDealtBelow m 0 0 (puts_of holds)
none_dealt m pool [] some fresh = absurd (omega (arith, some))
none_dealt m pool (h ∷ hs) some fresh =
    let f : StealHoldModel → List ℕ = λ x. x.hold.puts in
    let holds : List StealHoldModel = h ∷ hs in
    let count : length (puts_of holds) ≡ length holds = length-map holds f in record {
      turn_below = omega (arith, count, some);
      round = 0;
      next = omega (arith);
      dealt = λ k l.
          let there : k < length holds = omega (arith, l, count) in
          let none : get_or (puts_of holds) k [] ≡ [] =
          get_or-map f holds k h [] there ∙ (fresh k h there).hold.puts in
          subst (IsDealt [] (length (puts_of holds)) k) (sym none) (record {
            count = λ r. ((λ x. absurd (omega (arith, x))), (λ x. absurd (omega (arith, x))));
            each = λ r x. absurd (omega (arith, x));
          });
    }

-- a worker that has released nothing put what was dealt to it
pub puts_dealt : (m : Meaning) (puts released : List ℕ) → All (λ x. pred_total m x ≡ 0) puts → released ≡ []
    → ArePutBy m puts released
puts_dealt m puts released free none = record {
  dealt = puts;
  are = sym (ap (λ (x : List ℕ). puts ++ x) none ∙ append-nil puts);
  free = free;
}

-- what holds of each element of a list holds of each of its front
pub all_front : {X : Type 0} (P : X → Type 0) (xs ys : List X) → All P (xs ++ ys) → All P xs
all_front P xs ys all k d l = subst P (get_or-append xs ys d k l) (all k d (omega (arith, length-append xs ys)))
