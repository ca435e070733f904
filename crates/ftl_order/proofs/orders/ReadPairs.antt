-- What a step reads is an input, or it and the step that writes it are a pair.
use Rattle.std.proofs.Common.{◌≡◌, ◌≢◌, ◌⊎◌, ℕ, zero, suc, ◌-◌, ◌<◌, ◌≤◌, true, false, IsTrue, refl, sym, ◌∙◌, ap, subst, inl, inr, ⊎_elim, arith, Contains}
use Rattle.ftl_model.proofs.lists.Elements.{nothing_in}
use Rattle.ftl_model.specs.layout.AttributeGrammar.{AttributeGrammar, Occurrence, Part, Read, RuleName, Sort, each_read, for_child, for_self, inherited, input, last_read, local, prev_read, reads_in, self_read, single_read, synthesized, this_read}
use Rattle.ftl_model.specs.layout.Path.{Has, Path, class_at, down, kids_at, top}
use Rattle.ftl_model.specs.layout.Solves.{Instance, IsInstance, rule_name, rule_named, seen_from}
use Rattle.ftl_model.specs.layout.Tree.{Forest}
use Rattle.ftl_model.specs.layout.TreeOf.{IsTreeOf}
use Rattle.ftl_model.proofs.layout.Fits.{kid_stands}
use Rattle.ftl_model.proofs.layout.Standing.{has_parent}
use Rattle.ftl_order.specs.orders.Lawful.{IsLawful, IsOwnSort, IsRule, MayReadLater, OfChild, OfClass, class_of_rule, declared}
use Rattle.ftl_order.specs.orders.LegalOrder.{Turn, turn_by, turn_of}
use Rattle.ftl_order.specs.orders.Pairs.{IsPair, Pair, Where, Writes, WritesKid, WritesOwn, child_class, child_read, is_by_prev, parent_class, same_class}
use Rattle.ftl_order.specs.orders.ReadPairs.{ReadsBy, Stand}
use Rattle.ftl_order.specs.orders.Reads.{Reads, equation_reads, rule_reads}
use Rattle.ftl_order.proofs.orders.Kids.{class_known}
use Rattle.ftl_order.proofs.orders.Seen.{MaySeeForSelf, Sees}
use Rattle.ftl_order.proofs.orders.TreeEquations.{child_seen_at, child_sees_instances, kid_rule, own_rule, root_inherits_nothing, self_seen_at, self_sees_instances}

module _ (g : AttributeGrammar) (law : IsLawful g) (t : Forest) (fits : IsTreeOf g t) where
  -- what writes for a read of a rule of this class, and how it stands to the reader
  record Found (class : ℕ) (r : Read) (sort : Sort) (p : Path) (a : ℕ) (y : Turn) : Type 0 where
    pub runs_at : Where
    pub writes : Writes g class r runs_at (rule_name t sort p a)
    pub stand : Stand runs_at r (turn_by sort p a) y

  abbrev FoundOrInput : ℕ → Read → Sort → Path → ℕ → Turn → Type 0
  FoundOrInput class r sort p a y = (g.sort a ≡ input) ⊎ Found class r sort p a y

  own_found : (sort : Sort) (p : Path) (a : ℕ) → g.sort a ≡ sort → Has t p → OfClass g (class_at t p) a → (y : Turn)
      → y.visit ≡ p → FoundOrInput (class_at t p) (self_read a) sort p a y
  own_found input p a e h of y here = inl e
  own_found inherited top a e h of y here = absurd (root_inherits_nothing g law t fits a h of e)
  own_found inherited (down c k q) a e h of y here =
      let fit = kid_stands g t c k q fits h in
      inr (record {
        runs_at = parent_class;
        writes =
            subst (λ s. WritesOwn g s (class_at t (down c k q)) a parent_class (for_child (class_at t q) c a)) (sym e)
            (class_at t q, c, class_known g t fits q (has_parent t c k q h), fit.declared, sym fit.interface, refl, refl);
        stand = (refl, here);
      })
  own_found synthesized p a e h of y here =
      inr (record {
        runs_at = same_class;
        writes = subst (λ s. WritesOwn g s (class_at t p) a same_class (for_self (class_at t p) a)) (sym e) (refl, refl);
        stand = (sym here, (λ same. omega arith), (λ no_prev. absurd (let z : ⊥ = grind arith in z)));
      })
  own_found local p a e h of y here =
      inr (record {
        runs_at = same_class;
        writes = subst (λ s. WritesOwn g s (class_at t p) a same_class (for_self (class_at t p) a)) (sym e) (refl, refl);
        stand = (sym here, (λ same. omega arith), (λ no_prev. absurd (let z : ⊥ = grind arith in z)));
      })

  kid_found : (sort : Sort) (p : Path) (d n a : ℕ) → g.sort a ≡ sort → OfChild g (class_at t p) d a
      → Has t (down d n p) → (r : Read) → child_read r ≡ d
      → ((runs_at : Where) (w : RuleName) → WritesKid g (g.sort a) (class_at t p) d a runs_at w
      → Writes g (class_at t p) r runs_at w)
      → (y : Turn) → y.visit ≡ p
      → (IsTrue (is_by_prev r) → (d ≡ y.rule.child) × (n < y.kid))
      → (1 ≡ y.rule.block → d ≡ y.rule.child → n ≤ y.kid)
      → FoundOrInput (class_at t p) r sort (down d n p) a y
  kid_found input p d n a e of h r child writes y here earlier no_later = inl e
  kid_found inherited p d n a e of h r child writes y here earlier no_later =
      inr (record {
        runs_at = same_class;
        writes =
            writes same_class (for_child (class_at t p) d a)
            (subst (λ s. WritesKid g s (class_at t p) d a same_class (for_child (class_at t p) d a)) (sym e) (refl, refl));
        stand = (sym here, (λ same. no_later same.0 same.1), earlier);
      })
  kid_found synthesized p d n a e of h r child writes y here earlier no_later =
      let fit = kid_stands g t d n p fits h in
      let below = class_at t (down d n p) in
      inr (record {
        runs_at = child_class;
        writes =
            writes child_class (for_self below a)
            (subst (λ s. WritesKid g s (class_at t p) d a child_class (for_self below a)) (sym e)
            (below, class_known g t fits (down d n p) h, fit.interface, refl, refl));
        stand = (
          n,
          ap (λ c. down c n p) (sym child) ∙ ap (down (child_read r) n) (sym here),
          (λ prev. let q = earlier prev in (child ∙ q.0, q.1)),
        );
      })
  kid_found local p d n a e of h r child writes y here earlier no_later =
      absurd
      (law.shared_sorts (g.child_interface (class_at t p) d) a (
        law.children_known (class_at t p) d (class_known g t fits p (has_parent t d n p h))
            (kid_stands g t d n p fits h).declared,
        of,
      ) e)

  -- the same, of what is read
  abbrev FoundAt : ℕ → Read → Instance → Turn → Type 0
  FoundAt class r j y = FoundOrInput class r (g.sort j.attribute) j.node j.attribute y

  not_prev : {X : Type 0} → IsTrue false → X
  not_prev h = absurd (let z : ⊥ = grind arith in z)

  -- what a rule for the node itself sees
  self_found : (p : Path) → Has t p → (r : Read) → MaySeeForSelf g (class_at t p) r → (o : Occurrence)
      → Sees (kids_at t p) 0 r o → (y : Turn) → y.visit ≡ p → (y.rule.block ≡ 1 → ⊥)
      → FoundAt (class_at t p) r (seen_from p o) y
  self_found p h (self_read a) may o sees y here self =
      subst (λ x. FoundAt (class_at t p) (self_read a) (seen_from p x) y) (sym sees)
      (own_found (g.sort a) p a refl h may y here)
  self_found p h (single_read c a) may o sees y here self =
      subst (λ x. FoundAt (class_at t p) (single_read c a) (seen_from p x) y) (sym sees)
      (kid_found (g.sort a) p c 0 a refl may.1
      (subst (λ x. Has t (seen_from p x).node) sees
      (self_sees_instances g law t fits p h (single_read c a) may o sees).0)
      (single_read c a) refl (λ runs_at w writes. writes) y here (λ no_prev. not_prev no_prev)
      (λ block child. absurd (self (sym block))))
  self_found p h (each_read c a) may o sees y here self =
      subst (λ x. FoundAt (class_at t p) (each_read c a) (seen_from p x) y) (sym sees.2)
      (kid_found (g.sort a) p c sees.0 a refl may.1
      (subst (λ x. Has t (seen_from p x).node) sees.2
      (self_sees_instances g law t fits p h (each_read c a) may o sees).0)
      (each_read c a) refl (λ runs_at w writes. writes) y here (λ no_prev. not_prev no_prev)
      (λ block child. absurd (self (sym block))))
  self_found p h (this_read c a) may o sees y here self = absurd may
  self_found p h (prev_read c a) may o sees y here self = absurd may
  self_found p h (last_read c a) may o sees y here self =
      subst (λ x. FoundAt (class_at t p) (last_read c a) (seen_from p x) y) (sym sees.1)
      (kid_found (g.sort a) p c (kids_at t p c - 1) a refl may.1
      (subst (λ x. Has t (seen_from p x).node) sees.1
      (self_sees_instances g law t fits p h (last_read c a) may o sees).0)
      (last_read c a) refl (λ runs_at w writes. writes) y here (λ no_prev. not_prev no_prev)
      (λ block child. absurd (self (sym block))))

  -- what a rule for a kid sees; the reader is for kid k of child c
  child_found : (p : Path) (c k : ℕ) → Has t (down c k p) → (r : Read) → MayReadLater g (class_at t p) c r
      → (o : Occurrence) → Sees (kids_at t p) k r o → (y : Turn) → y.visit ≡ p → y.rule.child ≡ c → y.kid ≡ k
      → FoundAt (class_at t p) r (seen_from p o) y
  child_found p c k h (self_read a) may o sees y here child kid_is =
      subst (λ x. FoundAt (class_at t p) (self_read a) (seen_from p x) y) (sym sees)
      (own_found (g.sort a) p a refl (has_parent t c k p h) may y here)
  child_found p c k h (single_read d a) may o sees y here child kid_is =
      subst (λ x. FoundAt (class_at t p) (single_read d a) (seen_from p x) y) (sym sees)
      (kid_found (g.sort a) p d 0 a refl may.1
      (subst (λ x. Has t (seen_from p x).node) sees
      (child_sees_instances g law t fits p c k h (single_read d a) may o sees).0)
      (single_read d a) refl (λ runs_at w writes. writes) y here (λ no_prev. not_prev no_prev)
      (λ block same. omega arith))
  child_found p c k h (each_read d a) may o sees y here child kid_is = absurd may
  child_found p c k h (this_read d a) may o sees y here child kid_is =
      subst (λ x. FoundAt (class_at t p) (this_read d a) (seen_from p x) y) (sym sees)
      (kid_found (g.sort a) p d k a refl (subst (λ x. OfChild g (class_at t p) x a) (sym may.0) may.2)
      (subst (λ x. Has t (seen_from p x).node) sees
      (child_sees_instances g law t fits p c k h (this_read d a) may o sees).0)
      (this_read d a) refl (λ runs_at w writes. writes) y here (λ no_prev. not_prev no_prev)
      (λ block same. omega (arith, kid_is)))
  child_found p c k h (prev_read d a) may o sees y here child kid_is =
      let some = sees.0 in
      subst (λ x. FoundAt (class_at t p) (prev_read d a) (seen_from p x) y) (sym sees.1)
      (kid_found (g.sort a) p d (k - 1) a refl (subst (λ x. OfChild g (class_at t p) x a) (sym may.0) may.2)
      (subst (λ x. Has t (seen_from p x).node) sees.1
      (child_sees_instances g law t fits p c k h (prev_read d a) may o sees).0)
      (prev_read d a) refl (λ runs_at w writes. writes) y here
      (λ prev. (may.0 ∙ sym child, (let z : k - 1 < y.kid = omega (arith, some, kid_is) in z)))
      (λ block same. (let z : k - 1 ≤ y.kid = omega (arith, kid_is) in z)))
  child_found p c k h (last_read d a) may o sees y here child kid_is =
      subst (λ x. FoundAt (class_at t p) (last_read d a) (seen_from p x) y) (sym sees.1)
      (kid_found (g.sort a) p d (kids_at t p d - 1) a refl may.2
      (subst (λ x. Has t (seen_from p x).node) sees.1
      (child_sees_instances g law t fits p c k h (last_read d a) may o sees).0)
      (last_read d a) refl (λ runs_at w writes. writes) y here (λ no_prev. not_prev no_prev)
      (λ block same.
      let list : g.is_list (class_at t p) c ≡ true =
      subst (λ x. g.is_list (class_at t p) x ≡ true) (same ∙ child) may.1.1 in
      let single : g.is_list (class_at t p) c ≡ false = may.0.1 in
      absurd (let z : ⊥ = grind arith in z)))

  -- a read of a part of a rule, with what writes it, is a pair
  abbrev PairOrInput : RuleName → Turn → Instance → Type 0
  PairOrInput reader y j =
      (g.sort j.attribute ≡ input)
      ⊎ ((pair : Pair)
      × (IsPair g pair)
      × (pair.reader ≡ reader)
      × (pair.writer ≡ rule_name t (g.sort j.attribute) j.node j.attribute)
      × Stand pair.runs_at pair.read (turn_of g j) y)

  pair_of_found : (reader : RuleName) (class : ℕ) → class_of_rule reader ≡ class
      → IsRule g reader → (part : Part) (r : Read)
      → Contains (reads_in (rule_named g reader).parts part) r
      → (y : Turn) (j : Instance) → FoundAt class r j y → PairOrInput reader y j
  pair_of_found reader class is rule part r in_part y j found =
      ⊎_elim (λ e. inl e)
      (λ f. inr (
        record {
          reader = reader;
          part = part;
          read = r;
          writer = rule_name t (g.sort j.attribute) j.node j.attribute;
          runs_at = f.runs_at;
        },
        (
          (rule, in_part),
          subst (λ k. Writes g k r f.runs_at (rule_name t (g.sort j.attribute) j.node j.attribute)) (sym is) f.writes,
        ),
        refl,
        refl,
        f.stand,
      ))
      found

  own_pair : (p : Path) (b : ℕ) → Has t p → OfClass g (class_at t p) b → IsOwnSort (g.sort b) → (j : Instance)
      → Contains (rule_reads t (g.self_rule (class_at t p) b) p 0) j
      → (y : Turn) → y.visit ≡ p → (y.rule.block ≡ 1 → ⊥) → PairOrInput (for_self (class_at t p) b) y j
  own_pair p b h of sort j reads y here self =
      let rule = own_rule g t fits p b h of sort in
      let s = self_seen_at g law t fits p b rule j reads in
      pair_of_found (for_self (class_at t p) b) (class_at t p) refl rule s.1.part s.1.read s.1.in_part y j
      (subst (λ x. FoundAt (class_at t p) s.1.read x y) s.2 (self_found p h s.1.read s.1.may s.0 s.1.sees y here self))

  pairs_by : (sort : Sort) (p : Path) (b : ℕ) → g.sort b ≡ sort → Has t p → OfClass g (class_at t p) b → (j : Instance)
      → Contains (equation_reads g t sort p b) j → PairOrInput (rule_name t sort p b) (turn_by sort p b) j
  pairs_by input p b e h of j reads = absurd (nothing_in j reads)
  pairs_by inherited top b e h of j reads = absurd (root_inherits_nothing g law t fits b h of e)
  pairs_by inherited (down c k p) b e h of j reads =
      let rule = kid_rule g law t fits c k p b h of e in
      let s = child_seen_at g law t fits c k p b rule j reads in
      let y = turn_by inherited (down c k p) b in
      pair_of_found (for_child (class_at t p) c b) (class_at t p) refl rule s.1.part s.1.read s.1.in_part y j
      (subst (λ x. FoundAt (class_at t p) s.1.read x y) s.2
      (child_found p c k h s.1.read s.1.may s.0 s.1.sees y refl refl refl))
  pairs_by synthesized p b e h of j reads =
      own_pair p b h of (inl e) j reads (turn_by synthesized p b) refl (λ block. (let z : ⊥ = omega (arith, block) in z))
  pairs_by local p b e h of j reads =
      own_pair p b h of (inr e) j reads (turn_by local p b) refl (λ block. (let z : ⊥ = omega (arith, block) in z))

  -- what a step reads is an input, or a pair
  pub read_pair : (i j : Instance) → IsInstance g t i → Reads g t i j
      → (g.sort j.attribute ≡ input) ⊎ ((pair : Pair) × ReadsBy g t i j pair)
  read_pair i j valid reads =
      ⊎_elim (λ e. inl e)
      (λ f. inr (f.0, record { is = f.1; reader = f.2; writer = f.3; stand = f.4 }))
      (pairs_by (g.sort i.attribute) i.node i.attribute refl valid.0 valid.1 j reads)
