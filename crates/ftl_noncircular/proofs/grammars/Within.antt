-- In a tree of a grammar without circular vertices each chain of reads ends.
use Rattle.std.proofs.Common.{◌≡◌, ℕ, zero, suc, ◌-◌, ◌<◌, ◌≤◌, refl, sym, ◌∙◌, ap, subst, inl, inr, arith, List, ◌++◌, map, flat_map, Contains}
use Rattle.std.specs.List.{range_with_len}
use Rattle.std.proofs.lemmas.List.Elements.{Contains-append_left, Contains-append_right}
use Rattle.ftl_model.specs.layout.AttributeGrammar.{AttributeGrammar, Occurrence, Read, Sort, attributes_of, each_read, for_child, for_self, inherited, input, kid, last_read, local, own, prev_read, read_occurrences, self_read, single_read, synthesized, this_read}
use Rattle.ftl_model.specs.layout.Path.{Has, Path, at, class_at, down, kids_at, top}
use Rattle.ftl_model.specs.layout.Solves.{Instance, IsInstance, instance_of, seen_from}
use Rattle.ftl_model.specs.layout.Tree.{Forest, below_of, size}
use Rattle.ftl_model.specs.layout.TreeOf.{IsTreeOf}
use Rattle.ftl_model.proofs.layout.Fits.{kid_stands}
use Rattle.ftl_model.proofs.layout.Standing.{has_parent}
use Rattle.ftl_model.proofs.lists.Elements.{flat_map_has, nothing_in, range_has}
use Rattle.ftl_model.proofs.lists.Rising.{in_map, map_has}
use Rattle.ftl_order.specs.orders.Lawful.{IsLawful, IsOwnSort, IsRule, MayReadLater, OfClass}
use Rattle.ftl_order.specs.orders.Reads.{equation_reads, rule_reads}
use Rattle.ftl_order.proofs.orders.Kids.{below_size, class_known, kid_counted, kid_exists, kid_size}
use Rattle.ftl_order.proofs.orders.Seen.{MaySeeForSelf, Sees, child_seen, self_seen}
use Rattle.ftl_order.proofs.orders.TreeEquations.{inherited_is_shared, inherited_of_child, own_rule, root_inherits_nothing, single_there}
use Rattle.ftl_noncircular.specs.grammars.Noncircular.{Family, HasNoCircle, IsClosed}
use Rattle.ftl_noncircular.specs.grammars.Walks.{WalkOf}
use Rattle.ftl_noncircular.proofs.grammars.Walking.{by_walks, walk_last}
use Rattle.ftl_noncircular.proofs.grammars.Circles.{Here, Local, local_walk, none_back}
use Rattle.ftl_noncircular.proofs.grammars.Ending.{Ends, ends_by}

abbrev attribute_of : Occurrence → ℕ
attribute_of (own a) = a
attribute_of (kid c k a) = a

module _ (g : AttributeGrammar) (law : IsLawful g) (t : Forest) (fits : IsTreeOf g t) (family : Family)
    (no_circle : HasNoCircle g family) (closed : IsClosed g family) where
  -- a synthesized attribute ends where the inherited ones that the family has with it do
  abbrev Settled : Path → Type 0
  Settled p =
      (b : ℕ) → Contains (g.shared (g.interface (class_at t p))) b → g.sort b ≡ synthesized
      → ((a : ℕ) → Contains (g.shared (g.interface (class_at t p))) a → g.sort a ≡ inherited → family a b
      → Ends g t (instance_of p a))
      → Ends g t (instance_of p b)

  abbrev IsSeen : (p : Path) → Has t p → Occurrence → Type 0
  IsSeen p h = Here g law family (class_at t p) (class_known g t fits p h) (kids_at t p)

  abbrev Leads : (p : Path) → Has t p → Occurrence → Occurrence → Type 0
  Leads p h = Local g law family (class_at t p) (class_known g t fits p h) (kids_at t p)

  -- the inherited attributes of the node that lead there end
  abbrev Reached : (p : Path) → Has t p → Occurrence → Type 0
  Reached p h o =
      (a : ℕ) → OfClass g (class_at t p) a → g.sort a ≡ inherited → (n : ℕ) → WalkOf (Leads p h) n (own a) o
      → Ends g t (instance_of p a)

  abbrev Comes : (p : Path) → Has t p → Occurrence → Type 0
  Comes p h o = Reached p h o → Ends g t (seen_from p o)

  -- ---- what is seen at a node, as a list

  abbrev kids_seen : Path → (c : ℕ) → List Occurrence
  kids_seen p c =
      flat_map (λ k. map (kid c k) (g.shared (g.child_interface (class_at t p) c))) (range_with_len 0 (kids_at t p c))

  abbrev all_seen : Path → List Occurrence
  all_seen p =
      map own (attributes_of g (class_at t p))
      ++ flat_map (kids_seen p) (range_with_len 0 (g.child_count (class_at t p)))

  in_range : (n k : ℕ) → k < n → Contains (range_with_len 0 n) k
  in_range n k below = range_has 0 n k (omega arith) (omega (arith, below))

  is_listed : (p : Path) (h : Has t p) (o : Occurrence) → IsSeen p h o → Contains (all_seen p) o
  is_listed p h (own a) s =
      Contains-append_left (map own (attributes_of g (class_at t p)))
      (flat_map (kids_seen p) (range_with_len 0 (g.child_count (class_at t p)))) (own a)
      (map_has own (attributes_of g (class_at t p)) a s)
  is_listed p h (kid c k a) s =
      let shared = g.shared (g.child_interface (class_at t p) c) in
      Contains-append_right (map own (attributes_of g (class_at t p)))
      (flat_map (kids_seen p) (range_with_len 0 (g.child_count (class_at t p)))) (kid c k a)
      (flat_map_has (kids_seen p) (range_with_len 0 (g.child_count (class_at t p))) c (kid c k a)
      (in_range (g.child_count (class_at t p)) c s.0)
      (flat_map_has (λ n. map (kid c n) shared) (range_with_len 0 (kids_at t p c)) k (kid c k a)
      (in_range (kids_at t p c) k s.2) (map_has (kid c k) shared a s.1)))

  -- ---- what rules read is seen

  self_sees : (p : Path) (h : Has t p) (r : Read) → MaySeeForSelf g (class_at t p) r → (o : Occurrence)
      → Sees (kids_at t p) 0 r o → IsSeen p h o
  self_sees p h (self_read a) may o sees = subst (IsSeen p h) (sym sees) may
  self_sees p h (single_read c a) may o sees =
      subst (IsSeen p h) (sym sees) (may.0.0, may.1, single_there g law t fits c p h may.0)
  self_sees p h (each_read c a) may o sees = subst (IsSeen p h) (sym sees.2) (may.0.0, may.1, sees.1)
  self_sees p h (this_read c a) may o sees = absurd may
  self_sees p h (prev_read c a) may o sees = absurd may
  self_sees p h (last_read c a) may o sees =
      subst (IsSeen p h) (sym sees.1)
      (may.0.0, may.1, (let b = sees.0 in let z : kids_at t p c - 1 < kids_at t p c = omega (arith, b) in z))

  child_sees : (p : Path) (h : Has t p) (c k : ℕ) → k < kids_at t p c → (r : Read)
      → MayReadLater g (class_at t p) c r → (o : Occurrence) → Sees (kids_at t p) k r o → IsSeen p h o
  child_sees p h c k below (self_read a) may o sees = subst (IsSeen p h) (sym sees) may
  child_sees p h c k below (single_read d a) may o sees =
      subst (IsSeen p h) (sym sees) (may.0.0, may.1, single_there g law t fits d p h may.0)
  child_sees p h c k below (each_read d a) may o sees = absurd may
  child_sees p h c k below (this_read d a) may o sees =
      subst (IsSeen p h) (sym (sees ∙ ap (λ y. kid y k a) may.0)) (may.1.0, may.2, below)
  child_sees p h c k below (prev_read d a) may o sees =
      subst (IsSeen p h) (sym (sees.1 ∙ ap (λ y. kid y (k - 1) a) may.0))
      (may.1.0, may.2, (let z : k - 1 < kids_at t p c = omega (arith, below) in z))
  child_sees p h c k below (last_read d a) may o sees =
      subst (IsSeen p h) (sym sees.1)
      (may.1.0, may.2, (let b = sees.0 in let z : kids_at t p d - 1 < kids_at t p d = omega (arith, b) in z))

  -- ---- each attribute that is seen

  -- what leads there ends, and so what is read there
  from_edge : (p : Path) (h : Has t p) (x o : Occurrence) → Leads p h x o → Comes p h x → Reached p h o
      → Ends g t (seen_from p x)
  from_edge p h x o edge before reached =
      before (λ b ob ib n w. reached b ob ib (suc n) (walk_last (Leads p h) n (own b) x o w edge))

  own_reads_end : (p : Path) (h : Has t p) (a : ℕ) → OfClass g (class_at t p) a → IsOwnSort (g.sort a)
      → ((x : Occurrence) → Leads p h x (own a) → Comes p h x) → Reached p h (own a)
      → (j : Instance) → Contains (rule_reads t (g.self_rule (class_at t p) a) p 0) j → Ends g t j
  own_reads_end p h a of sort before reached j reads =
      let class = class_at t p in
      let parts = (g.self_rule class a).parts in
      let rule : IsRule g (for_self class a) = own_rule g t fits p a h of sort in
      let m = in_map (seen_from p) (read_occurrences parts (kids_at t p) 0) j reads in
      let s = self_seen g class (kids_at t p) parts (law.self_parts class a rule) m.from m.there in
      let edge : Leads p h m.from (own a) =
      (self_sees p h s.read s.may m.from s.sees, of, inl (rule, m.there)) in
      subst (Ends g t) m.is (from_edge p h m.from (own a) edge (before m.from edge) reached)

  own_step : (p : Path) (h : Has t p) (sort : Sort) (a : ℕ) → g.sort a ≡ sort → OfClass g (class_at t p) a
      → ((x : Occurrence) → Leads p h x (own a) → Comes p h x) → Comes p h (own a)
  own_step p h input a e of before reached =
      ends_by g t (instance_of p a)
      (λ j reads. absurd (nothing_in j (subst (λ s. Contains (equation_reads g t s p a) j) e reads)))
  own_step p h inherited a e of before reached = reached a of e 0 refl
  own_step p h synthesized a e of before reached =
      ends_by g t (instance_of p a)
      (λ j reads. own_reads_end p h a of (inl e) before reached j
      (subst (λ s. Contains (equation_reads g t s p a) j) e reads))
  own_step p h local a e of before reached =
      ends_by g t (instance_of p a)
      (λ j reads. own_reads_end p h a of (inr e) before reached j
      (subst (λ s. Contains (equation_reads g t s p a) j) e reads))

  kid_reads_end : (p : Path) (h : Has t p) (c k a : ℕ) → g.sort a ≡ inherited → IsSeen p h (kid c k a)
      → ((x : Occurrence) → Leads p h x (kid c k a) → Comes p h x) → Reached p h (kid c k a)
      → (j : Instance) → Contains (rule_reads t (g.child_rule (class_at t p) c a) p k) j → Ends g t j
  kid_reads_end p h c k a e here before reached j reads =
      let class = class_at t p in
      let parts = (g.child_rule class c a).parts in
      let rule : IsRule g (for_child class c a) = (class_known g t fits p h, here.0, here.1, e) in
      let m = in_map (seen_from p) (read_occurrences parts (kids_at t p) k) j reads in
      let s = child_seen g class (kids_at t p) c k parts (law.child_parts class c a rule) m.from m.there in
      let edge : Leads p h m.from (kid c k a) =
      (child_sees p h c k here.2 s.read s.may m.from s.sees, here, inl (rule, m.there)) in
      subst (Ends g t) m.is (from_edge p h m.from (kid c k a) edge (before m.from edge) reached)

  kid_step : (p : Path) (h : Has t p) → ((c k : ℕ) → Has t (down c k p) → Settled (down c k p)) → (sort : Sort)
      → (c k a : ℕ) → g.sort a ≡ sort → IsSeen p h (kid c k a)
      → ((x : Occurrence) → Leads p h x (kid c k a) → Comes p h x) → Comes p h (kid c k a)
  kid_step p h settled input c k a e here before reached =
      ends_by g t (instance_of (down c k p) a)
      (λ j reads. absurd (nothing_in j (subst (λ s. Contains (equation_reads g t s (down c k p) a) j) e reads)))
  kid_step p h settled inherited c k a e here before reached =
      ends_by g t (instance_of (down c k p) a)
      (λ j reads. kid_reads_end p h c k a e here before reached j
      (subst (λ s. Contains (equation_reads g t s (down c k p) a) j) e reads))
  kid_step p h settled synthesized c k a e here before reached =
      let there : Has t (down c k p) = kid_exists c k (below_of (at t p)) here.2 in
      let is = (kid_stands g t c k p fits there).interface in
      settled c k there a (subst (λ i. Contains (g.shared i) a) (sym is) here.1) e
      (λ b sb ib in_family.
      let edge : Leads p h (kid c k b) (kid c k a) = (
        (here.0, subst (λ i. Contains (g.shared i) b) is sb, here.2),
        here,
        inr (refl, refl, ib, e, in_family),
      ) in
      from_edge p h (kid c k b) (kid c k a) edge (before (kid c k b) edge) reached)
  kid_step p h settled local c k a e here before reached =
      let class = class_at t p in
      absurd
      (law.shared_sorts (g.child_interface class c) a
      (law.children_known class c (class_known g t fits p h) here.0, here.1) e)

  step : (p : Path) (h : Has t p) → ((c k : ℕ) → Has t (down c k p) → Settled (down c k p)) → (o : Occurrence)
      → IsSeen p h o → ((x : Occurrence) → Leads p h x o → Comes p h x) → Comes p h o
  step p h settled (own a) here before = own_step p h (g.sort a) a refl here before
  step p h settled (kid c k a) here before = kid_step p h settled (g.sort a) c k a refl here before

  -- what is seen at a node ends where the inherited attributes of the node do that lead there
  at_node : (p : Path) (h : Has t p) → ((c k : ℕ) → Has t (down c k p) → Settled (down c k p)) → (o : Occurrence)
      → IsSeen p h o → Comes p h o
  at_node p h settled o here =
      by_walks (Leads p h) (IsSeen p h) (Comes p h)
      (none_back g law family (class_at t p) (class_known g t fits p h) (kids_at t p) no_circle)
      (λ x y e. e.0) (step p h settled) (all_seen p) (is_listed p h) o here

  -- ---- from the leaves up

  settled_by_kids : (p : Path) (h : Has t p) → ((c k : ℕ) → Has t (down c k p) → Settled (down c k p)) → Settled p
  settled_by_kids p h settled b sb e given =
      at_node p h settled (own b)
      (Contains-append_left (g.shared (g.interface (class_at t p))) (g.private (class_at t p)) b sb) reached
    where
      reached : Reached p h (own b)
      reached a of ia zero w =
          let same : a ≡ b = ap attribute_of w in
          absurd (let f : g.sort a ≡ g.sort b = ap g.sort same in let z : ⊥ = cc (f, ia, e) in z)
      reached a of ia (suc n) w =
          let known = class_known g t fits p h in
          let sa = inherited_is_shared g law (class_at t p) a known of ia in
          given a sa ia
          (closed (class_at t p) a b (record { known = known; from = sa; from_sort = ia; to = sb; to_sort = e })
          (n, local_walk g law family (class_at t p) known (kids_at t p) (suc n) (own a) (own b) w))

  settled_by_size : (n : ℕ) (p : Path) → Has t p → size (at t p) ≤ n → Settled p
  settled_by_size zero p h few =
      absurd (let b = below_size (at t p) h in let z : ⊥ = omega (arith, few, b) in z)
  settled_by_size (suc n) p h few =
      settled_by_kids p h
      (λ c k hk.
      settled_by_size n (down c k p) hk
      (let a = kid_size c k (below_of (at t p)) in
      let b = below_size (at t p) h in
      let z : size (at t (down c k p)) ≤ n = omega (arith, few, a, b) in z))

  kids_settled : (p : Path) (c k : ℕ) → Has t (down c k p) → Settled (down c k p)
  kids_settled p c k h = settled_by_size (size (at t (down c k p))) (down c k p) h (omega arith)

  -- ---- and from the root down

  inherited_ends : (p : Path) → Has t p → (a : ℕ) → OfClass g (class_at t p) a → g.sort a ≡ inherited
      → Ends g t (instance_of p a)
  inherited_ends top h a of e = absurd (root_inherits_nothing g law t fits a h of e)
  inherited_ends (down c k p) h a of e =
      let above = has_parent t c k p h in
      at_node p above (kids_settled p) (kid c k a) (
        (kid_stands g t c k p fits h).declared,
        inherited_of_child g law t fits a c k p h of e,
        kid_counted c k (below_of (at t p)) h,
      )
      (λ b ob ib n w. inherited_ends p above b ob ib)

  -- each chain of reads ends
  pub each_ends : (i : Instance) → IsInstance g t i → Ends g t i
  each_ends i valid =
      at_node i.node valid.0 (kids_settled i.node) (own i.attribute) valid.1
      (λ a of ia n w. inherited_ends i.node valid.0 a of ia)
