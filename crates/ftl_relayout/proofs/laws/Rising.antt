-- The keys rise along the reads.
use Rattle.std.proofs.Common.{◌≡◌, ◌≢◌, ◌⊎◌, ℕ, suc, ◌+◌, ◌-◌, ◌<◌, ◌≤◌, IsTrue, refl, sym, ◌∙◌, ap, subst, subst₂, inl, inr, ⊎_elim, arith, [], ◌∷◌, Some}
use Rattle.std.proofs.lemmas.Bool.{cases_lt}
use Rattle.ftl_model.specs.lists.Lists.{Before}
use Rattle.ftl_model.specs.layout.AttributeGrammar.{AttributeGrammar, Read, Sort, inherited, input, local, synthesized}
use Rattle.ftl_model.specs.layout.Path.{Has, Path, down, number_of, parent_of, size_at, top}
use Rattle.ftl_model.specs.layout.Solves.{Instance, IsInstance, rule_kid, rule_node}
use Rattle.ftl_model.specs.layout.Tree.{Forest, below_of, none, size, tree}
use Rattle.ftl_model.specs.layout.TreeOf.{IsTreeOf}
use Rattle.ftl_model.proofs.layout.Standing.{has_parent, number_of-lt}
use Rattle.ftl_order.specs.orders.Lawful.{IsLawful}
use Rattle.ftl_order.specs.orders.LegalOrder.{IsStep, KeyFirst, DirectlyFirstInPass, Turn, rule_child, turn_by, turn_of}
use Rattle.ftl_order.specs.orders.Ordered.{EachPairOrdered, IsOrderedRead, Row, block_of, visit_place}
use Rattle.ftl_order.specs.orders.Pairs.{Pair, Where, child_class, child_read, is_by_prev, parent_class, same_class}
use Rattle.ftl_order.specs.orders.ReadPairs.{ReadsBy, Stand}
use Rattle.ftl_order.specs.orders.Reads.{Reads}
use Rattle.ftl_order.specs.orders.Schedule.{PassKind, Placing, bottomup, inorder, placing_of, topdown}
use Rattle.ftl_order.proofs.orders.Kids.{root_there}
use Rattle.ftl_order.proofs.orders.LegalOrders.{placing_of-one_kind}
use Rattle.ftl_order.proofs.orders.DirectPrecedence.{place_of_rule}
use Rattle.ftl_order.proofs.orders.Precedence.{HasOneKind}
use Rattle.ftl_order.proofs.orders.Ranges.{above_range}
use Rattle.ftl_order.proofs.orders.ReadPairs.{read_pair}
use Rattle.ftl_order.proofs.orders.Rows.{child_direct, parent_direct, same_visit_direct, turn}
use Rattle.ftl_order.proofs.orders.TreeEquations.{root_inherits_nothing}
use Rattle.ftl_relayout.specs.keys.Keys.{KeysRise, digits_in, key_digits, tie_of, time_of}
use Rattle.ftl_relayout.proofs.laws.KidsBehind.{kid_behind, kid_less}

-- a step's node and kind: no input, and nothing that the root inherits
abbrev pub Fine : Sort → Path → Type 0
Fine input p = ⊥
Fine inherited top = ⊥
Fine inherited (down c k p) = Unit {0}
Fine synthesized p = Unit {0}
Fine local p = Unit {0}

pub tree_size : (t : Forest) → suc (size (below_of t)) ≤ size t ⊎ (t ≡ none)
tree_size none = inr refl
tree_size (tree k c i b s) = inl (omega arith)

at_most : (m n : ℕ) → m ≤ n → (m < n) ⊎ (m ≡ n)
at_most m n h = ⊎_elim (λ less. inl less) (λ more. inr (let e : m ≡ n = omega (arith, h, more) in e)) (cases_lt m n)

module _ (g : AttributeGrammar) (law : IsLawful g) (at : Placing) (t : Forest) (fits : IsTreeOf g t) where
  pub number_below : (p : Path) → Has t p → number_of t p < size t
  number_below p h =
      ⊎_elim (λ s. let b = number_of-lt t p h in omega (arith, b, s))
      (λ e. absurd (let r = root_there g t fits in subst (λ f. Rattle.ftl_model.specs.layout.Tree.IsTree f) e r)) (tree_size t)

  kid_up : (c k : ℕ) (p : Path) → Has t (down c k p)
      → (number_of t p < number_of t (down c k p))
      × (number_of t (down c k p) + size_at t (down c k p) ≤ number_of t p + size_at t p)
  kid_up c k p h = above_range t p (down c k p) h (inl refl)

  -- in one visit the node of a later child, or of a later kid of it, comes later
  later_node : (sx sy : Sort) (px py : Path) → Fine sx px → Fine sy py → Has t px → Has t py
      → rule_node sx px ≡ rule_node sy py
      → (rule_child sx px < rule_child sy py)
      ⊎ ((rule_child sx px ≡ rule_child sy py) × (rule_kid sx px < rule_kid sy py))
      → number_of t px < number_of t py
  later_node input sy px py fx fy hx hy v less = absurd fx
  later_node sx input px py fx fy hx hy v less = absurd fy
  later_node sx inherited px top fx fy hx hy v less = absurd fy
  later_node sx synthesized px py fx fy hx hy v less =
      absurd (⊎_elim (λ l. omega (arith, l)) (λ l. let z = l.1 in omega (arith, z)) less)
  later_node sx local px py fx fy hx hy v less =
      absurd (⊎_elim (λ l. omega (arith, l)) (λ l. let z = l.1 in omega (arith, z)) less)
  later_node inherited inherited top (down d n q) fx fy hx hy v less = absurd fx
  later_node inherited inherited (down c k p) (down d n q) fx fy hx hy v less =
      subst (λ r. Has t (down c k r) → number_of t (down c k r) < number_of t (down d n q)) (sym v)
      (λ hx. kid_less g t fits q c k d n hx hy less) hx
  later_node synthesized inherited px (down d n q) fx fy hx hy v less =
      subst (λ r. number_of t r < number_of t (down d n q)) (sym v) (kid_up d n q hy).0
  later_node local inherited px (down d n q) fx fy hx hy v less =
      subst (λ r. number_of t r < number_of t (down d n q)) (sym v) (kid_up d n q hy).0

  -- the digits behind time and tie
  key_before : (sx sy : Sort) (px py : Path) (a b : ℕ) → Fine sx px → Fine sy py → Has t px → Has t py
      → rule_node sx px ≡ rule_node sy py → KeyFirst at (turn_by sx px a) (turn_by sy py b)
      → Before ((at a).index ∷ (number_of t px ∷ (a ∷ []))) ((at b).index ∷ (number_of t py ∷ (b ∷ [])))
  key_before sx sy px py a b fx fy hx hy v first =
      ⊎_elim
      (λ key.
      ⊎_elim (λ less. inl less)
      (λ same. inr (same.0, inl (later_node sx sy px py fx fy hx hy v (inl same.1)))) key)
      (λ same.
      inr (
        ap (λ c. (at c).index) same.0.0,
        inl (later_node sx sy px py fx fy hx hy v (inr (same.0.1, same.1))),
      ))
      first

  near_topdown : (sx sy : Sort) (px py : Path) (a b : ℕ) → Fine sx px → Fine sy py → Has t px → Has t py
      → Has t (rule_node sy py)
      → DirectlyFirstInPass topdown at (turn_by sx px a) (turn_by sy py b)
      → Before (digits_in topdown at t sx px a) (digits_in topdown at t sy py b)
  near_topdown sx sy px py a b fx fy hx hy there near =
      ⊎_elim
      (λ here. inr (ap (number_of t) here.0, inr (refl, key_before sx sy px py a b fx fy hx hy here.0 here.1)))
      (λ parent. inl (less (rule_node sy py) there parent)) near
    where
      less : (q : Path) → Has t q → parent_of q ≡ Some (rule_node sx px)
          → number_of t (rule_node sx px) < number_of t q
      less top h e = absurd (let z : ⊥ = grind arith in z)
      less (down c k q) h e =
          let is : q ≡ rule_node sx px = grind arith in
          subst (λ r. number_of t r < number_of t (down c k q)) is (kid_up c k q h).0

  near_bottomup : (sx sy : Sort) (px py : Path) (a b : ℕ) → Fine sx px → Fine sy py → Has t px → Has t py
      → Has t (rule_node sx px)
      → DirectlyFirstInPass bottomup at (turn_by sx px a) (turn_by sy py b)
      → Before (digits_in bottomup at t sx px a) (digits_in bottomup at t sy py b)
  near_bottomup sx sy px py a b fx fy hx hy there near =
      ⊎_elim
      (λ here.
      inr (ap (λ p. size t - number_of t p) here.0, inr (refl, key_before sx sy px py a b fx fy hx hy here.0 here.1)))
      (λ parent.
      inl
      (let l = less (rule_node sx px) there parent in
      let n = number_below (rule_node sx px) there in
      let z : size t - number_of t (rule_node sx px) < size t - number_of t (rule_node sy py) = omega (arith, l, n) in
      z)) near
    where
      less : (q : Path) → Has t q → parent_of q ≡ Some (rule_node sy py)
          → number_of t (rule_node sy py) < number_of t q
      less top h e = absurd (let z : ⊥ = grind arith in z)
      less (down c k q) h e =
          let is : q ≡ rule_node sy py = grind arith in
          subst (λ r. number_of t r < number_of t (down c k q)) is (kid_up c k q h).0

  abbrev Digits : (sx sy : Sort) (px py : Path) (a b : ℕ) → Type 0
  Digits sx sy px py a b = Before (digits_in inorder at t sx px a) (digits_in inorder at t sy py b)

  -- the rules of both run at one node
  inorder_same : (sx sy : Sort) (px py : Path) (a b : ℕ) (prev : Type 0) → Fine sx px → Fine sy py → Has t px → Has t py
      → rule_node sx px ≡ rule_node sy py
      → ((block_of sx < block_of sy) ⊎ ((block_of sx ≡ block_of sy) × (rule_child sx px < rule_child sy py)))
      ⊎ (((block_of sx ≡ block_of sy) × (rule_child sx px ≡ rule_child sy py))
      × ((((at a).index < (at b).index) ⊎ (((at a).index ≡ (at b).index) × (rule_child sx px < rule_child sy py))) ⊎ prev))
      → ((block_of sx ≡ block_of sy) × (rule_child sx px ≡ rule_child sy py) → rule_kid sx px ≤ rule_kid sy py)
      → (prev → (rule_child sx px ≡ rule_child sy py) × (rule_kid sx px < rule_kid sy py))
      → Digits sx sy px py a b
  inorder_same input sy px py a b prev fx fy hx hy v row no_later earlier = absurd fx
  inorder_same sx input px py a b prev fx fy hx hy v row no_later earlier = absurd fy
  inorder_same sx inherited px top a b prev fx fy hx hy v row no_later earlier = absurd fy
  inorder_same inherited sy top py a b prev fx fy hx hy v row no_later earlier = absurd fx
  inorder_same local local px py a b prev fx fy hx hy v row no_later earlier =
      ⊎_elim
      (λ block. absurd (⊎_elim (λ l. omega (arith, l)) (λ l. let z = l.1 in omega (arith, z)) block))
      (λ here.
      ⊎_elim
      (λ key. inr (
        ap (number_of t) v,
        inr (
          refl,
          ⊎_elim (λ less. inl less) (λ same. absurd (let z = same.1 in omega (arith, z))) key,
        ),
      ))
      (λ p. absurd (let z = (earlier p).1 in omega (arith, z))) here.1)
      row
  inorder_same local inherited px (down d n q) a b prev fx fy hx hy v row no_later earlier =
      inl (subst (λ r. number_of t r < number_of t (down d n q)) (sym v) (kid_up d n q hy).0)
  inorder_same local synthesized px py a b prev fx fy hx hy v row no_later earlier =
      inl (subst (λ r. number_of t r < number_of t py + size_at t py) (sym v) (omega arith))
  inorder_same inherited local (down c k p) py a b prev fx fy hx hy v row no_later earlier =
      absurd
      (⊎_elim (λ block. ⊎_elim (λ l. omega (arith, l)) (λ l. let z = l.0 in omega (arith, z)) block)
      (λ here. let z = here.0.0 in omega (arith, z)) row)
  inorder_same inherited inherited (down c k p) (down d n q) a b prev fx fy hx hy v row no_later earlier =
      ⊎_elim
      (λ block.
      ⊎_elim (λ l. absurd (omega (arith, l))) (λ l. inl (kid_up_to (inl l.1))) block)
      (λ here.
      ⊎_elim
      (λ key.
      ⊎_elim (λ less. inl (kid_up_to (inr (here.0.1, less))))
      (λ e.
      let one : down c k p ≡ down d n q =
      ap (λ x. down x k p) here.0.1 ∙ ap (λ x. down d x p) e ∙ ap (λ x. down d n x) v in
      inr (
        ap (number_of t) one,
        inr (
          refl,
          ⊎_elim (λ less. inl less)
              (λ same. absurd (let z = same.1 in let w = here.0.1 in omega (arith, z, w))) key,
        ),
      ))
      (at_most k n (no_later here.0)))
      (λ p. inl (kid_up_to (inr (earlier p)))) here.1)
      row
    where
      kid_up_to : (c < d) ⊎ ((c ≡ d) × (k < n)) → number_of t (down c k p) < number_of t (down d n q)
      kid_up_to less =
          subst (λ r. Has t (down c k r) → number_of t (down c k r) < number_of t (down d n q)) (sym v)
          (λ hx. kid_less g t fits q c k d n hx hy less) hx
  inorder_same inherited synthesized (down c k p) py a b prev fx fy hx hy v row no_later earlier =
      inl
      (subst (λ r. number_of t (down c k p) < number_of t r + size_at t r) v
      (let u = (kid_up c k p hx).1 in omega (arith, u)))
  inorder_same synthesized local px py a b prev fx fy hx hy v row no_later earlier =
      absurd
      (⊎_elim (λ block. ⊎_elim (λ l. omega (arith, l)) (λ l. let z = l.0 in omega (arith, z)) block)
      (λ here. let z = here.0.0 in omega (arith, z)) row)
  inorder_same synthesized inherited px py a b prev fx fy hx hy v row no_later earlier =
      absurd
      (⊎_elim (λ block. ⊎_elim (λ l. omega (arith, l)) (λ l. let z = l.0 in omega (arith, z)) block)
      (λ here. let z = here.0.0 in omega (arith, z)) row)
  inorder_same synthesized synthesized px py a b prev fx fy hx hy v row no_later earlier =
      ⊎_elim
      (λ block. absurd (⊎_elim (λ l. omega (arith, l)) (λ l. let z = l.1 in omega (arith, z)) block))
      (λ here.
      ⊎_elim
      (λ key. inr (
        ap (λ r. number_of t r + size_at t r) v,
        inr (
          ap (λ r. size t - number_of t r) v,
          ⊎_elim (λ less. inl less) (λ same. absurd (let z = same.1 in omega (arith, z))) key,
        ),
      ))
      (λ p. absurd (let z = (earlier p).1 in omega (arith, z))) here.1)
      row

  -- the writer runs at the parent
  inorder_parent : (sx sy : Sort) (px py : Path) (a b : ℕ) → Fine sx px → Fine sy py → Has t px → Has t py
      → block_of sx ≡ 1 → rule_node sy py ≡ down (rule_child sx px) (rule_kid sx px) (rule_node sx px)
      → Digits sx sy px py a b
  inorder_parent input sy px py a b fx fy hx hy block v = absurd fx
  inorder_parent sx input px py a b fx fy hx hy block v = absurd fy
  inorder_parent local sy px py a b fx fy hx hy block v = absurd (omega (arith, block))
  inorder_parent synthesized sy px py a b fx fy hx hy block v = absurd (omega (arith, block))
  inorder_parent inherited sy top py a b fx fy hx hy block v = absurd fx
  inorder_parent inherited inherited (down c k p) top a b fx fy hx hy block v = absurd fy
  inorder_parent inherited inherited (down c k p) (down d n q) a b fx fy hx hy block v =
      inl (subst (λ r. number_of t r < number_of t (down d n q)) v (kid_up d n q hy).0)
  inorder_parent inherited local (down c k p) py a b fx fy hx hy block v =
      inr (ap (number_of t) (sym v), inl (omega arith))
  inorder_parent inherited synthesized (down c k p) py a b fx fy hx hy block v =
      inl (subst (λ r. number_of t r < number_of t py + size_at t py) v (omega arith))

  -- what runs at a node is no later than the end of its tree
  by_end : (sx : Sort) (px : Path) (a : ℕ) → Fine sx px → Has t px → (m : Path) → rule_node sx px ≡ m
      → (time_of inorder t sx px < number_of t m + size_at t m)
      ⊎ ((time_of inorder t sx px ≡ number_of t m + size_at t m) × (tie_of inorder t sx px ≡ size t - number_of t m))
  by_end input px a fx hx m v = absurd fx
  by_end inherited top a fx hx m v = absurd fx
  by_end inherited (down c k p) a fx hx m v =
      inl
      (subst (λ r. number_of t (down c k p) < number_of t r + size_at t r) v
      (let u = (kid_up c k p hx).1 in omega (arith, u)))
  by_end synthesized px a fx hx m v =
      inr (ap (λ r. number_of t r + size_at t r) v, ap (λ r. size t - number_of t r) v)
  by_end local px a fx hx m v =
      inl (subst (λ r. number_of t px < number_of t r + size_at t r) v (omega arith))

  -- what ends no later than a reader begins, and before it at that time
  behind : (sx sy : Sort) (px py : Path) (a b : ℕ) → Fine sx px → Has t px → (m : Path) → rule_node sx px ≡ m
      → number_of t m + size_at t m ≤ time_of inorder t sy py
      → size t - number_of t m < tie_of inorder t sy py
      → Digits sx sy px py a b
  behind sx sy px py a b fx hx m v late tie =
      ⊎_elim (λ less. inl (omega (arith, less, late)))
      (λ end.
      ⊎_elim (λ less. let e = end.0 in inl (omega (arith, e, less)))
      (λ same. inr (end.0 ∙ same, inl (let e = end.1 in omega (arith, e, tie))))
      (at_most (number_of t m + size_at t m) (time_of inorder t sy py) late))
      (by_end sx px a fx hx m v)

  -- the writer runs at a kid
  inorder_child : (sx sy : Sort) (px py : Path) (a b : ℕ) (prev : Type 0) (d n : ℕ) → Fine sx px → Fine sy py → Has t px
      → Has t py
      → Has t (rule_node sx px) → rule_node sx px ≡ down d n (rule_node sy py)
      → (block_of sy ≡ 2) ⊎ ((block_of sy ≡ 1) × ((d < rule_child sy py) ⊎ prev))
      → (prev → (d ≡ rule_child sy py) × (n < rule_kid sy py))
      → Digits sx sy px py a b
  inorder_child sx input px py a b prev d n fx fy hx hy there v row earlier = absurd fy
  inorder_child sx local px py a b prev d n fx fy hx hy there v row earlier =
      absurd (⊎_elim (λ e. omega (arith, e)) (λ e. let z = e.0 in omega (arith, z)) row)
  inorder_child sx inherited px top a b prev d n fx fy hx hy there v row earlier = absurd fy
  inorder_child sx inherited px (down c k q) a b prev d n fx fy hx hy there v row earlier =
      let hm : Has t (down d n q) = subst (Has t) v there in
      let less : (d < c) ⊎ ((d ≡ c) × (n < k)) =
      ⊎_elim (λ e. absurd (omega (arith, e))) (λ r. ⊎_elim (λ l. inl l) (λ p. inr (earlier p)) r.1) row in
      behind sx inherited px (down c k q) a b fx hx (down d n q) v (kid_behind g t fits q d n c k hm hy less) (omega arith)
  inorder_child sx synthesized px py a b prev d n fx fy hx hy there v row earlier =
      let hm : Has t (down d n py) = subst (Has t) v there in
      let up = kid_up d n py hm in
      let first = up.0 in
      let below = number_below (down d n py) hm in
      behind sx synthesized px py a b fx hx (down d n py) v up.1 (omega (arith, first, below))

  pub visit_there : (sort : Sort) (p : Path) → Has t p → Has t (rule_node sort p)
  visit_there input p h = h
  visit_there inherited top h = h
  visit_there inherited (down c k p) h = has_parent t c k p h
  visit_there synthesized p h = h
  visit_there local p h = h

  fine_step : (sort : Sort) (p : Path) (a : ℕ) → g.sort a ≡ sort → IsInstance g t (record { node = p; attribute = a })
      → sort ≢ input → Fine sort p
  fine_step input p a e valid computed = computed refl
  fine_step inherited top a e valid computed = root_inherits_nothing g law t fits a valid.0 valid.1 e
  fine_step inherited (down c k p) a e valid computed = tt
  fine_step synthesized p a e valid computed = tt
  fine_step local p a e valid computed = tt

  fine : (i : Instance) → IsStep g t i → Fine (g.sort i.attribute) i.node
  fine i step = fine_step (g.sort i.attribute) i.node i.attribute refl step.0 step.1

  row_near : (runs_at : Where) (kind : PassKind) (r : Read) (x y : Turn) → Stand runs_at r x y
      → Row runs_at kind at r x.rule y.rule → DirectlyFirstInPass kind at x y
  row_near same_class kind r x y stand row =
      subst (λ p. DirectlyFirstInPass kind at (turn p x.rule x.kid) y) (sym stand.0)
      (same_visit_direct kind at (is_by_prev r) y.visit x.rule y.rule x.kid y.kid row stand.1 (λ prev. (stand.2 prev).1))
  row_near parent_class kind r x y stand row =
      subst (λ p. DirectlyFirstInPass kind at x (turn p y.rule y.kid)) (sym stand.1)
      (parent_direct kind at row x.visit x.rule.child x.kid x.rule y.rule y.kid stand.0 refl)
  row_near child_class kind r x y stand row =
      subst (λ p. DirectlyFirstInPass kind at (turn p x.rule x.kid) y) (sym stand.1)
      (child_direct kind at (is_by_prev r) y.visit (child_read r) stand.0 x.rule y.rule x.kid y.kid row stand.2)

  abbrev InPass : PassKind → (i j : Instance) → Type 0
  InPass kind i j =
      Before (digits_in kind at t (g.sort j.attribute) j.node j.attribute)
      (digits_in kind at t (g.sort i.attribute) i.node i.attribute)

  inorder_pass : (runs_at : Where) (r : Read) (i j : Instance) → IsStep g t i → IsStep g t j
      → Stand runs_at r (turn_of g j) (turn_of g i)
      → Row runs_at inorder at r (turn_of g j).rule (turn_of g i).rule → InPass inorder i j
  inorder_pass same_class r i j si sj stand row =
      inorder_same (g.sort j.attribute) (g.sort i.attribute) j.node i.node j.attribute i.attribute (IsTrue (is_by_prev r))
      (fine j sj) (fine i si) sj.0.0 si.0.0 stand.0 row stand.1 stand.2
  inorder_pass parent_class r i j si sj stand row =
      inorder_parent (g.sort j.attribute) (g.sort i.attribute) j.node i.node j.attribute i.attribute (fine j sj) (fine i si)
      sj.0.0 si.0.0 stand.0 stand.1
  inorder_pass child_class r i j si sj stand row =
      inorder_child (g.sort j.attribute) (g.sort i.attribute) j.node i.node j.attribute i.attribute (IsTrue (is_by_prev r))
      (child_read r) stand.0 (fine j sj) (fine i si) sj.0.0 si.0.0
      (visit_there (g.sort j.attribute) j.node sj.0.0) stand.1 row stand.2

  in_pass : (kind : PassKind) (runs_at : Where) (r : Read) (i j : Instance) → IsStep g t i → IsStep g t j
      → Stand runs_at r (turn_of g j) (turn_of g i)
      → Row runs_at kind at r (turn_of g j).rule (turn_of g i).rule → InPass kind i j
  in_pass topdown runs_at r i j si sj stand row =
      near_topdown (g.sort j.attribute) (g.sort i.attribute) j.node i.node j.attribute i.attribute (fine j sj) (fine i si)
      sj.0.0 si.0.0 (visit_there (g.sort i.attribute) i.node si.0.0)
      (row_near runs_at topdown r (turn_of g j) (turn_of g i) stand row)
  in_pass bottomup runs_at r i j si sj stand row =
      near_bottomup (g.sort j.attribute) (g.sort i.attribute) j.node i.node j.attribute i.attribute (fine j sj) (fine i si)
      sj.0.0 si.0.0 (visit_there (g.sort j.attribute) j.node sj.0.0)
      (row_near runs_at bottomup r (turn_of g j) (turn_of g i) stand row)
  in_pass inorder runs_at r i j si sj stand row = inorder_pass runs_at r i j si sj stand row

  module _ (one_kind : HasOneKind at) (pairs : EachPairOrdered g at) where
    by_pair : (i j : Instance) → IsStep g t i → IsStep g t j → (pair : Pair) → ReadsBy g t i j pair
        → Before (key_digits g at t j) (key_digits g at t i)
    by_pair i j si sj pair by =
        ⊎_elim (λ stage. inl stage)
        (λ here.
        inr (
          here.0.0,
          subst
              (λ kind.
              Before (digits_in kind at t (g.sort j.attribute) j.node j.attribute)
              (digits_in (at i.attribute).kind at t (g.sort i.attribute) i.node i.attribute))
              (sym (one_kind j.attribute i.attribute here.0))
              (in_pass (at i.attribute).kind pair.runs_at pair.read i j si sj by.stand here.1),
        ))
        (subst₂ (λ x y. IsOrderedRead at pair.runs_at pair.read x y)
        (ap (visit_place g) by.writer ∙ place_of_rule g t (g.sort j.attribute) j.node j.attribute refl)
        (ap (visit_place g) by.reader ∙ place_of_rule g t (g.sort i.attribute) i.node i.attribute refl)
        (pairs pair by.is))

    pub rises : (i j : Instance) → IsStep g t i → Reads g t i j → IsStep g t j
        → Before (key_digits g at t j) (key_digits g at t i)
    rises i j si reads sj =
        ⊎_elim (λ e. absurd (sj.1 e)) (λ f. by_pair i j si sj f.0 f.1) (read_pair g law t fits i j si.0 reads)

pub keys_rise : KeysRise
keys_rise g s t law ordered fits i j si reads sj =
    rises g law (placing_of s) t fits (placing_of-one_kind s) ordered.pairs i j si reads sj
