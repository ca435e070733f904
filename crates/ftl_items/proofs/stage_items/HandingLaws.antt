-- Which items hand on to which, by the nodes that they hold.
use Rattle.std.proofs.Common.{◌≡◌, ◌≢◌, ℕ, ◌&&◌, ◌==◌, Bool, true, false, if◌then◌else◌, refl, sym, ◌∙◌, ap, subst, arith, eqb-true, eq-eqb, Contains, Some}
use Rattle.ftl_model.specs.layout.Path.{Has, Path, down, parent_of, top}
use Rattle.ftl_model.specs.layout.Tree.{Forest, IsTree}
use Rattle.ftl_order.specs.orders.Schedule.{bottomup, inorder, topdown}
use Rattle.ftl_items.specs.stage_items.Cut.{begins, is_small, nodes_of, tops}
use Rattle.ftl_items.specs.stage_items.CutLaws.{LiesInNoSmall}
use Rattle.ftl_items.specs.stage_items.Items.{is_parent, is_same_node}
use Rattle.ftl_items.proofs.stage_items.CutLaws.{in_tops, lies_open, open_lies}
use Rattle.ftl_items.proofs.stage_items.Homes.{first_in, home, only_home, open_home}

pub both : (p q : Bool) → (p && q) ≡ true → (p ≡ true) × (q ≡ true)
both true q e = (refl, e)
both false q e = absurd (let z : ⊥ = grind arith in z)

pub joined : (p q : Bool) → p ≡ true → q ≡ true → (p && q) ≡ true
joined true q a b = b
joined false q a b = absurd (let z : ⊥ = grind arith in z)

pub same_node : (p q : Path) → is_same_node p q ≡ true → p ≡ q
same_node top top e = refl
same_node top (down c k q) e = absurd (let z : ⊥ = grind arith in z)
same_node (down c k p) top e = absurd (let z : ⊥ = grind arith in z)
same_node (down c k p) (down d n q) e =
    let child = both (c == d) ((k == n) && is_same_node p q) e in
    let kid = both (k == n) (is_same_node p q) child.1 in
    ap (λ x. down x k p) (eqb-true c d child.0)
    ∙ ap (λ x. down d x p) (eqb-true k n kid.0)
    ∙ ap (down d n) (same_node p q kid.1)

pub node_itself : (p : Path) → is_same_node p p ≡ true
node_itself top = refl
node_itself (down c k p) =
    joined (c == c) ((k == k) && is_same_node p p) (eq-eqb c c refl)
    (joined (k == k) (is_same_node p p) (eq-eqb k k refl) (node_itself p))

-- the first is the parent of the second
pub record IsKidOf (p q : Path) : Type 0 where
  pub child : ℕ
  pub kid : ℕ
  pub is : q ≡ down child kid p

pub kid_of : (p q : Path) → is_parent p q ≡ true → IsKidOf p q
kid_of p top e = absurd (let z : ⊥ = grind arith in z)
kid_of p (down c k a) e = record { child = c; kid = k; is = ap (down c k) (sym (same_node p a e)) }

pub parent_found : (p q : Path) → parent_of q ≡ Some p → IsKidOf p q
parent_found p top e = absurd (let z : ⊥ = cc in z)
parent_found p (down c k a) e =
    let same : a ≡ p = cc in
    record { child = c; kid = k; is = ap (down c k) same }

pub parent_is : (p q : Path) (c k : ℕ) → q ≡ down c k p → is_parent p q ≡ true
parent_is p q c k e = ap (is_parent p) e ∙ node_itself p

module _ (t : Forest) (grain : ℕ) (is : IsTree t) where
  topdown_some : topdown ≢ inorder
  topdown_some = λ e. let z : ⊥ = cc in z

  bottomup_some : bottomup ≢ inorder
  bottomup_some = λ e. let z : ⊥ = cc in z

  abbrev HoldsKid : (p q : Path) → Type 0
  HoldsKid p q = (c : ℕ) × (k : ℕ) × Has t (down c k p) × Contains (nodes_of t grain q) (down c k p)

  pub to_kids : (p q : Path) → Contains (tops topdown t grain) q → is_parent p q ≡ true
      → LiesInNoSmall t grain p × HoldsKid p q
  to_kids p q in_q e =
      let there = in_tops topdown t grain topdown_some is q in_q in
      let kid = kid_of p q e in (
        open_lies t grain p (subst (λ r. begins t grain r ≡ true) kid.is there.1),
        (
          kid.child,
          kid.kid,
          subst (Has t) kid.is there.0,
          subst (Contains (nodes_of t grain q)) kid.is (first_in (is_small t grain) t q),
        ),
      )

  pub from_kids : (p q : Path) → Contains (tops topdown t grain) q → LiesInNoSmall t grain p → HoldsKid p q
      → is_parent p q ≡ true
  from_kids p q in_q lies held =
      let there = in_tops topdown t grain topdown_some is q in_q in
      let c = held.0 in
      let k = held.1 in
      let own : home (is_small t grain) (down c k p) ≡ down c k p =
      ap (λ b. if b then down c k p else home (is_small t grain) p) (lies_open t grain p lies) in
      parent_is p q c k
      (sym (only_home (is_small t grain) t q (down c k p) there.0 there.1 held.3) ∙ own)

  pub to_parent : (p q : Path) → is_parent q p ≡ true
      → (above : Path) × (parent_of p ≡ Some above) × Contains (nodes_of t grain q) above
  to_parent p q e =
      let kid = kid_of q p e in (q, ap parent_of kid.is, first_in (is_small t grain) t q)

  pub from_parent : (p q : Path) → Contains (tops bottomup t grain) p → Contains (tops bottomup t grain) q
      → (above : Path)
      → parent_of p ≡ Some above → Contains (nodes_of t grain q) above → is_parent q p ≡ true
  from_parent top q in_p in_q above e held = absurd (let z : ⊥ = cc in z)
  from_parent (down c k a) q in_p in_q above e held =
      let there_p = in_tops bottomup t grain bottomup_some is (down c k a) in_p in
      let there_q = in_tops bottomup t grain bottomup_some is q in_q in
      let same : a ≡ above = cc in
      let own : home (is_small t grain) a ≡ a = open_home (is_small t grain) a there_p.1 in
      let at_q : home (is_small t grain) a ≡ q =
      only_home (is_small t grain) t q a there_q.0 there_q.1
      (subst (Contains (nodes_of t grain q)) (sym same) held) in
      ap (λ r. is_same_node r a) (sym at_q ∙ own) ∙ node_itself a
