-- The equations of a tree of a lawful grammar are a system: each depends on what it reads alone, and reads instances.
use Rattle.std.proofs.Common.{◌≡◌, ℕ, zero, ◌-◌, ◌<◌, refl, sym, subst, inl, inr, ⊎_elim, arith, Contains, suc}
use Rattle.std.proofs.lemmas.List.Elements.{Contains-append_left, Contains-append_cases}
use Rattle.ftl_model.proofs.lists.Elements.{nothing_in}
use Rattle.ftl_model.proofs.lists.Rising.{in_map, map_has}
use Rattle.ftl_model.specs.layout.AttributeGrammar.{AttributeGrammar, Occurrence, Read, Sort, each_read, for_child, for_self, inherited, input, last_read, local, prev_read, read_occurrences, self_read, single_read, synthesized, this_read}
use Rattle.ftl_model.specs.layout.Path.{Has, Path, at, class_at, down, kids_at, top}
use Rattle.ftl_model.specs.layout.Solves.{Instance, IsInstance, equation_value, instance_of, seen_from}
use Rattle.ftl_model.specs.layout.Tree.{Forest, below_of}
use Rattle.ftl_model.specs.layout.TreeOf.{IsTreeOf}
use Rattle.ftl_model.specs.layout.Values.{Value, overflow}
use Rattle.ftl_model.proofs.layout.Fits.{fits_at, kid_stands}
use Rattle.ftl_model.proofs.layout.Standing.{has_parent}
use Rattle.ftl_order.specs.orders.Lawful.{IsLawful, IsOwnSort, IsRule, IsSingle, MayReadLater, OfChild, OfClass, declared}
use Rattle.ftl_order.specs.orders.OneTable.{ExactlyOneTable}
use Rattle.ftl_order.specs.orders.Reads.{EndsWithin, FallsAlongReads, Reads, ReadsEnd, equation_reads, rule_reads}
use Rattle.ftl_order.proofs.orders.EquationSystem.{Ends, Low, System, low_by_rank, solution, solution_solves, solutions_agree}
use Rattle.ftl_order.proofs.orders.Kids.{class_known, kid_counted, kid_exists, root_interface}
use Rattle.ftl_order.proofs.orders.Seen.{MaySeeForSelf, Seen, Sees, child_seen, self_seen}

-- an inherited attribute of a class is one of its interface
pub inherited_is_shared : (g : AttributeGrammar) → IsLawful g → (k a : ℕ) → k < g.class_count → OfClass g k a
    → g.sort a ≡ inherited → Contains (g.shared (g.interface k)) a
inherited_is_shared g law k a known of e =
    ⊎_elim (λ h. h)
    (λ h. absurd (⊎_elim (λ f. let z : ⊥ = cc in z) (λ f. let z : ⊥ = cc in z) (law.private_sorts k a (known, h))))
    (Contains-append_cases (g.shared (g.interface k)) (g.private k) a of)

-- the rule of an attribute that a node's own class defines
pub own_rule : (g : AttributeGrammar) (t : Forest) → IsTreeOf g t → (p : Path) (a : ℕ) → Has t p
    → OfClass g (class_at t p) a → IsOwnSort (g.sort a) → IsRule g (for_self (class_at t p) a)
own_rule g t fits p a h of sort = (class_known g t fits p h, of, sort)

module _ (g : AttributeGrammar) (law : IsLawful g) (t : Forest) (fits : IsTreeOf g t) where
  -- the root has no inherited attribute
  pub root_inherits_nothing : (a : ℕ) → Has t top → OfClass g (class_at t top) a → g.sort a ≡ inherited → ⊥
  root_inherits_nothing a h of e =
      law.root_sorts a
      (subst (λ i. Contains (g.shared i) a) (root_interface g t fits)
      (inherited_is_shared g law (class_at t top) a (class_known g t fits top h) of e))
      e

  -- an inherited attribute of a kid is one of its child's interface
  pub inherited_of_child : (a c k : ℕ) (p : Path) → Has t (down c k p) → OfClass g (class_at t (down c k p)) a
      → g.sort a ≡ inherited → OfChild g (class_at t p) c a
  inherited_of_child a c k p h of e =
      subst (λ i. Contains (g.shared i) a) (kid_stands g t c k p fits h).interface
      (inherited_is_shared g law (class_at t (down c k p)) a (class_known g t fits (down c k p) h) of e)

  -- a kid that is there has the attributes of its child's interface
  pub kid_instance : (c k a : ℕ) (p : Path) → Has t p → k < kids_at t p c → OfChild g (class_at t p) c a
      → IsInstance g t (instance_of (down c k p) a)
  kid_instance c k a p h below of =
      let there : Has t (down c k p) = kid_exists c k (below_of (at t p)) below in (
        there,
        Contains-append_left (g.shared (g.interface (class_at t (down c k p)))) (g.private (class_at t (down c k p))) a
            (subst (λ i. Contains (g.shared i) a) (sym (kid_stands g t c k p fits there).interface) of),
      )

  pub single_there : (c : ℕ) (p : Path) → Has t p → IsSingle g (class_at t p) c → 0 < kids_at t p c
  single_there c p h single =
      let e : kids_at t p c ≡ 1 = (fits_at g t p fits h).class.singles c single.0 single.1 in
      omega arith

  -- what a rule for the node itself sees is there
  pub self_sees_instances : (p : Path) → Has t p → (r : Read) → MaySeeForSelf g (class_at t p) r
      → (o : Occurrence) → Sees (kids_at t p) 0 r o → IsInstance g t (seen_from p o)
  self_sees_instances p h (self_read a) may o sees = subst (λ x. IsInstance g t (seen_from p x)) (sym sees) (h, may)
  self_sees_instances p h (single_read c a) may o sees =
      subst (λ x. IsInstance g t (seen_from p x)) (sym sees) (kid_instance c 0 a p h (single_there c p h may.0) may.1)
  self_sees_instances p h (each_read c a) may o sees =
      subst (λ x. IsInstance g t (seen_from p x)) (sym sees.2) (kid_instance c sees.0 a p h sees.1 may.1)
  self_sees_instances p h (this_read c a) may o sees = absurd may
  self_sees_instances p h (prev_read c a) may o sees = absurd may
  self_sees_instances p h (last_read c a) may o sees =
      subst (λ x. IsInstance g t (seen_from p x)) (sym sees.1)
      (kid_instance c (kids_at t p c - 1) a p h (let z = sees.0 in omega (arith, z)) may.1)

  -- what a rule for a kid sees is there
  pub child_sees_instances : (p : Path) (c k : ℕ) → Has t (down c k p) → (r : Read)
      → MayReadLater g (class_at t p) c r
      → (o : Occurrence) → Sees (kids_at t p) k r o → IsInstance g t (seen_from p o)
  child_sees_instances p c k h (self_read a) may o sees =
      subst (λ x. IsInstance g t (seen_from p x)) (sym sees) (has_parent t c k p h, may)
  child_sees_instances p c k h (single_read d a) may o sees =
      let above = has_parent t c k p h in
      subst (λ x. IsInstance g t (seen_from p x)) (sym sees)
      (kid_instance d 0 a p above (single_there d p above may.0) may.1)
  child_sees_instances p c k h (each_read d a) may o sees = absurd may
  child_sees_instances p c k h (this_read d a) may o sees =
      subst (λ x. IsInstance g t (seen_from p x)) (sym sees)
      (subst (λ x. IsInstance g t (instance_of (down x k p) a)) (sym may.0)
      (kid_instance c k a p (has_parent t c k p h) (kid_counted c k (below_of (at t p)) h) may.2))
  child_sees_instances p c k h (prev_read d a) may o sees =
      subst (λ x. IsInstance g t (seen_from p x)) (sym sees.1)
      (subst (λ x. IsInstance g t (instance_of (down x (k - 1) p) a)) (sym may.0)
      (kid_instance c (k - 1) a p (has_parent t c k p h)
      (let z = kid_counted c k (below_of (at t p)) h in omega (arith, z)) may.2))
  child_sees_instances p c k h (last_read d a) may o sees =
      subst (λ x. IsInstance g t (seen_from p x)) (sym sees.1)
      (kid_instance d (kids_at t p d - 1) a p (has_parent t c k p h) (let z = sees.0 in omega (arith, z)) may.2)

  -- the rule of an inherited attribute of a kid
  pub kid_rule : (c k : ℕ) (p : Path) (a : ℕ) → Has t (down c k p) → OfClass g (class_at t (down c k p)) a
      → g.sort a ≡ inherited → IsRule g (for_child (class_at t p) c a)
  kid_rule c k p a h of e = (
    class_known g t fits p (has_parent t c k p h),
    (kid_stands g t c k p fits h).declared,
    inherited_of_child a c k p h of e,
    e,
  )

  -- what a rule reads, as an occurrence at the node where it runs
  abbrev pub SelfSeenAt : Path → ℕ → Instance → Type 0
  SelfSeenAt p a j =
      (o : Occurrence)
      × Seen (g.self_rule (class_at t p) a).parts (kids_at t p) 0 (MaySeeForSelf g (class_at t p)) o
      × (seen_from p o ≡ j)

  pub self_seen_at : (p : Path) (a : ℕ) → IsRule g (for_self (class_at t p) a) → (j : Instance)
      → Contains (rule_reads t (g.self_rule (class_at t p) a) p 0) j → SelfSeenAt p a j
  self_seen_at p a rule j h =
      let parts = (g.self_rule (class_at t p) a).parts in
      let m = in_map (seen_from p) (read_occurrences parts (kids_at t p) 0) j h in
      (m.from, self_seen g (class_at t p) (kids_at t p) parts (law.self_parts (class_at t p) a rule) m.from m.there, m.is)

  abbrev pub ChildSeenAt : (c k : ℕ) → Path → ℕ → Instance → Type 0
  ChildSeenAt c k p a j =
      (o : Occurrence)
      × Seen (g.child_rule (class_at t p) c a).parts (kids_at t p) k (MayReadLater g (class_at t p) c) o
      × (seen_from p o ≡ j)

  pub child_seen_at : (c k : ℕ) (p : Path) (a : ℕ) → IsRule g (for_child (class_at t p) c a) → (j : Instance)
      → Contains (rule_reads t (g.child_rule (class_at t p) c a) p k) j → ChildSeenAt c k p a j
  child_seen_at c k p a rule j h =
      let parts = (g.child_rule (class_at t p) c a).parts in
      let m = in_map (seen_from p) (read_occurrences parts (kids_at t p) k) j h in (
        m.from,
        child_seen g (class_at t p) (kids_at t p) c k parts (law.child_parts (class_at t p) c a rule) m.from m.there,
        m.is,
      )

  own_inside : (p : Path) (a : ℕ) → Has t p → OfClass g (class_at t p) a → IsOwnSort (g.sort a) → (j : Instance)
      → Contains (rule_reads t (g.self_rule (class_at t p) a) p 0) j → IsInstance g t j
  own_inside p a h of sort j reads =
      let s = self_seen_at p a (own_rule g t fits p a h of sort) j reads in
      subst (IsInstance g t) s.2 (self_sees_instances p h s.1.read s.1.may s.0 s.1.sees)

  pub inside_by : (sort : Sort) (p : Path) (a : ℕ) → g.sort a ≡ sort → Has t p → OfClass g (class_at t p) a
      → (j : Instance)
      → Contains (equation_reads g t sort p a) j → IsInstance g t j
  inside_by input p a e h of j reads = absurd (nothing_in j reads)
  inside_by inherited top a e h of j reads = absurd (root_inherits_nothing a h of e)
  inside_by inherited (down c k p) a e h of j reads =
      let s = child_seen_at c k p a (kid_rule c k p a h of e) j reads in
      subst (IsInstance g t) s.2 (child_sees_instances p c k h s.1.read s.1.may s.0 s.1.sees)
  inside_by synthesized p a e h of j reads = own_inside p a h of (inl e) j reads
  inside_by local p a e h of j reads = own_inside p a h of (inr e) j reads

  own_alone : (r s : Instance → Value) (p : Path) (a : ℕ) → Has t p → OfClass g (class_at t p) a
      → IsOwnSort (g.sort a)
      → ((j : Instance) → Contains (rule_reads t (g.self_rule (class_at t p) a) p 0) j → r j ≡ s j)
      → (g.self_rule (class_at t p) a).value (kids_at t p) 0 (λ o. r (seen_from p o))
      ≡ (g.self_rule (class_at t p) a).value (kids_at t p) 0 (λ o. s (seen_from p o))
  own_alone r s p a h of sort same =
      law.self_alone (class_at t p) a (own_rule g t fits p a h of sort) (kids_at t p) (λ o. r (seen_from p o))
      (λ o. s (seen_from p o))
      (λ o in_it. same (seen_from p o)
      (map_has (seen_from p) (read_occurrences (g.self_rule (class_at t p) a).parts (kids_at t p) 0) o in_it))

  pub alone_by : (r s : Instance → Value) (sort : Sort) (p : Path) (a : ℕ) → g.sort a ≡ sort → Has t p
      → OfClass g (class_at t p) a
      → ((j : Instance) → Contains (equation_reads g t sort p a) j → r j ≡ s j)
      → equation_value g t r sort p a ≡ equation_value g t s sort p a
  alone_by r s input p a e h of same = refl
  alone_by r s inherited top a e h of same = absurd (root_inherits_nothing a h of e)
  alone_by r s inherited (down c k p) a e h of same =
      law.child_alone (class_at t p) c a (kid_rule c k p a h of e) k (kids_at t p) (λ o. r (seen_from p o))
      (λ o. s (seen_from p o))
      (λ o in_it. same (seen_from p o)
      (map_has (seen_from p) (read_occurrences (g.child_rule (class_at t p) c a).parts (kids_at t p) k) o in_it))
  alone_by r s synthesized p a e h of same = own_alone r s p a h of (inl e) same
  alone_by r s local p a e h of same = own_alone r s p a h of (inr e) same

  abbrev pub equations : System Instance Value
  equations =
      record {
        Valid = IsInstance g t;
        Reads = Reads g t;
        value = λ s i. equation_value g t s (g.sort i.attribute) i.node i.attribute;
        alone = λ r s i valid same. alone_by r s (g.sort i.attribute) i.node i.attribute refl valid.0 valid.1 same;
        inside = λ i j valid reads. inside_by (g.sort i.attribute) i.node i.attribute refl valid.0 valid.1 j reads;
      }

  low_of : (n : ℕ) (i : Instance) → EndsWithin g t n i → Low equations n i
  low_of zero i ends = ends
  low_of (suc n) i ends = λ j r. low_of n j (ends j r)

  low_ends : (n : ℕ) (i : Instance) → Low equations n i → EndsWithin g t n i
  low_ends zero i low = low
  low_ends (suc n) i low = λ j r. low_ends n j (low j r)

  pub reads_end_by : (rank : Instance → ℕ) → FallsAlongReads g t rank → ReadsEnd g t (λ i. suc (rank i))
  reads_end_by rank falls i valid =
      low_ends (suc (rank i)) i (low_by_rank equations rank falls (suc (rank i)) i valid (omega arith))

  -- exactly one table solves, where chains of reads end
  pub one_table_by : (number : Instance → ℕ) → ReadsEnd g t number → ExactlyOneTable g t
  one_table_by number ends =
      let low : Ends equations number = λ i valid. low_of (number i) i (ends i valid) in
      record {
        some_solves = (solution equations number (λ i. overflow), solution_solves equations number low (λ i. overflow));
        any_two_agree = λ r s rs ss i valid. solutions_agree equations number low r s rs ss i valid;
      }
