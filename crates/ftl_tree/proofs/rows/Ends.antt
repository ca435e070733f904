-- Where the tree of each node ends: with that of its last kid.
use Rattle.std.proofs.Common.{◌≡◌, ℕ, suc, ◌+◌, ◌<◌, ◌≤◌, max, List, length, get_or, refl, sym, ap, ◌∙◌, subst, arith, inl}
use Rattle.std.proofs.lemmas.List.{length-set}
use Rattle.ftl_model.specs.layout.AttributeGrammar.{AttributeGrammar}
use Rattle.ftl_model.specs.layout.Path.{Has, Path, at, down, node_at, number_of, one_more, size_at, top}
use Rattle.ftl_model.specs.layout.Tree.{Forest, IsTree, below_of, none, size, tree}
use Rattle.ftl_model.specs.layout.TreeOf.{IsTreeOf}
use Rattle.ftl_model.proofs.layout.Numbering.{Left, at-left, left_all, left_next, number-left}
use Rattle.ftl_model.proofs.layout.Standing.{has_parent, node_at-number_of, number_of-lt}
use Rattle.ftl_order.proofs.orders.Ranges.{above_range}
use Rattle.ftl_tree.proofs.rows.Raised.{SameOr, differ, raised, raised-here, raised_more, raised_most, same, same_or}
use Rattle.ftl_tree.proofs.rows.Access.{size-one}

-- the node above; the root for itself
abbrev pub above_of : Path → Path
above_of top = top
above_of (down c k p) = p

-- where the tree of a node ends
abbrev pub end_of : Forest → Path → ℕ
end_of t p = number_of t p + size_at t p

-- the kid behind which those that are left begin ends before the next
ends-left : (t : Forest) (p : Path) (seen : ℕ → ℕ) (f : Forest) (passed x : ℕ) → Left t p seen f passed
    → suc (number_of t p + passed) ≤ x
    → ((c k : ℕ) → Has t (down c k p) → end_of t (down c k p) ≤ x)
    → suc (number_of t p + (passed + size f)) ≤ x
ends-left t p seen none passed x h low kids = omega (arith, low)
ends-left t p seen (tree k d i b s) passed x h low kids =
    let q = down d (seen d) p in
    let here = at-left t p seen passed k d i b s h in
    let has : Has t q = subst IsTree (sym here) tt in
    let wide : size_at t q ≡ suc (size b) = ap (λ f. suc (size (below_of f))) here in
    let there = number-left t p seen passed k d i b s h in
    let end = kids d (seen d) has in
    let next = ends-left t p (one_more d seen) s (passed + suc (size b)) x (left_next t p seen passed k d i b s h) (omega (arith, end, wide, there)) kids in
    omega (arith, next)

-- a number behind a node and all its kids is behind its tree
pub end_within : (t : Forest) (p : Path) (x : ℕ) → suc (number_of t p) ≤ x
    → ((c k : ℕ) → Has t (down c k p) → end_of t (down c k p) ≤ x) → end_of t p ≤ x
end_within t p x low kids =
    omega (arith, ends-left t p (λ c. 0) (below_of (at t p)) 0 x (left_all t p) (omega (arith, low)) kids)

-- a kid's tree ends within its parent's
pub kid_end : (t : Forest) (c k : ℕ) (p : Path) → Has t (down c k p) → (number_of t p < number_of t (down c k p)) × (end_of t (down c k p) ≤ end_of t p)
kid_end t c k p h = above_range t p (down c k p) h (inl refl)

-- The ends of nodes while those from n on are known: no node's end is too high, and each has those of its kids from n
-- on.
pub record Ends (t : Forest) (ends : List ℕ) (n : ℕ) : Type 0 where
  pub length_is : length ends ≡ size t
  pub high : (p : Path) → Has t p → get_or ends (number_of t p) 0 ≤ end_of t p
  pub low : (p : Path) → Has t p → suc (number_of t p) ≤ get_or ends (number_of t p) 0
  pub kids : (c k : ℕ) (p : Path) → Has t (down c k p) → n ≤ number_of t (down c k p) → end_of t (down c k p) ≤ get_or ends (number_of t p) 0

-- the end of a node whose kids' ends it has
pub end_is : (t : Forest) (ends : List ℕ) (n : ℕ) (p : Path) → Ends t ends n → Has t p → n ≤ suc (number_of t p) → get_or ends (number_of t p) 0 ≡ end_of t p
end_is t ends n p h has from =
    let low = end_within t p (get_or ends (number_of t p) 0) (h.low p has)
    (λ c k there. h.kids c k p there (let e = (kid_end t c k p there).0 in omega (arith, e, from))) in
    omega (arith, low, h.high p has)

-- nothing is known but that each node's tree has the node
pub no_ends : (g : AttributeGrammar) (t : Forest) (ends : List ℕ) (n : ℕ) → IsTreeOf g t → size t ≤ n → length ends ≡ size t
    → ((m : ℕ) → m < size t → get_or ends m 0 ≡ suc m) → Ends t ends n
no_ends g t ends n is all l first =
    record {
      length_is = l;
      high = λ p h. let e = first (number_of t p) (number_of-size p h) in omega (arith, e);
      low = λ p h. let e = first (number_of t p) (number_of-size p h) in omega (arith, e);
      kids = λ c k p h late. absurd (let e = number_of-size (down c k p) h in let z : ⊥ = omega (arith, e, late, all) in z);
    }
  where
    number_of-size : (p : Path) → Has t p → number_of t p < size t
    number_of-size p h = omega (arith, number_of-lt t p h, size-one g t is)

-- the end of a node, once it is handed on to its parent
pub more_ends : (t : Forest) (ends : List ℕ) (c k : ℕ) (p : Path) → Has t (down c k p) → (n : ℕ) → n ≡ number_of t (down c k p) → number_of t p < length ends
    → Ends t ends (suc n) → Ends t (raised ends (number_of t p) (get_or ends n 0)) n
more_ends t ends c k p has n is within h =
    let q = down c k p in
    let mine : get_or ends n 0 ≡ end_of t q = ap (λ m. get_or ends m 0) is ∙ end_is t ends (suc n) q h has (omega (arith, is)) in
    let y = get_or ends n 0 in
    record {
      length_is = length-set ends (number_of t p) (max (get_or ends (number_of t p) 0) y) ∙ h.length_is;
      high = λ r there. raised_most ends (number_of t p) y (number_of t r) (end_of t r) within (h.high r there)
          (λ e. let same : r ≡ p = sym (node_at-number_of t r there) ∙ ap (node_at t) e ∙ node_at-number_of t p (has_parent t c k p has) in
          let z : end_of t q ≤ end_of t p = (kid_end t c k p has).1 in
          let f : end_of t r ≡ end_of t p = ap (end_of t) same in
          let w : y ≤ end_of t r = omega (arith, z, f, mine) in w);
      low = λ r there. let a = h.low r there in let b = raised_more ends (number_of t p) y (number_of t r) within in omega (arith, a, b);
      kids = λ d m r there late. go d m r there late (same_or (number_of t (down d m r)) n);
    }
  where
    y : ℕ
    y = get_or ends n 0

    mine : get_or ends n 0 ≡ end_of t (down c k p)
    mine = ap (λ m. get_or ends m 0) is ∙ end_is t ends (suc n) (down c k p) h has (omega (arith, is))

    go : (d m : ℕ) (r : Path) → Has t (down d m r) → n ≤ number_of t (down d m r) → SameOr (number_of t (down d m r)) n
        → end_of t (down d m r) ≤ get_or (raised ends (number_of t p) (get_or ends n 0)) (number_of t r) 0
    go d m r there late (differ other) =
        let a = h.kids d m r there (omega (arith, late, λ (e : number_of t (down d m r) ≡ n). other e)) in
        let b = raised_more ends (number_of t p) (get_or ends n 0) (number_of t r) within in
        omega (arith, a, b)
    go d m r there late (same e) =
        let one : down d m r ≡ down c k p = sym (node_at-number_of t (down d m r) there) ∙ ap (node_at t) (e ∙ is) ∙ node_at-number_of t (down c k p) has in
        let up : r ≡ p = ap above_of one in
        let f : number_of t r ≡ number_of t p = ap (number_of t) up in
        let x : end_of t (down d m r) ≡ end_of t (down c k p) = ap (end_of t) one in
        let b = raised-here ends (number_of t p) (get_or ends n 0) within in
        let w : get_or (raised ends (number_of t p) (get_or ends n 0)) (number_of t r) 0 ≡ get_or (raised ends (number_of t p) (get_or ends n 0)) (number_of t p) 0 = ap (λ m. get_or (raised ends (number_of t p) (get_or ends n 0)) m 0) f in
        omega (arith, b, w, x, mine)

-- all ends
pub all_ends : (t : Forest) (ends : List ℕ) (n : ℕ) (p : Path) → Ends t ends n → n ≤ 1 → Has t p → get_or ends (number_of t p) 0 ≡ end_of t p
all_ends t ends n p h few has = end_is t ends n p h has (omega (arith, few))
