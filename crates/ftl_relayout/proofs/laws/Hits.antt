-- The occurrences that a rule reads, read by read.
use Rattle.std.proofs.Common.{◌≡◌, ◌≢◌, ◌↔◌, ℕ, zero, suc, ◌<◌, refl, sym, ◌∙◌, ap, subst, inl, inr, ⊎_elim, arith, List, [], ◌∷◌, Contains, map}
use Rattle.std.specs.List.{flat_map, range_with_len}
use Rattle.std.proofs.lemmas.List.Elements.{Contains-append_cases, Contains-append_left, Contains-append_right}
use Rattle.ftl_model.proofs.lists.Elements.{flat_map_has, here_in, in_cases, in_flat_map, in_range_from, nothing_in, range_has}
use Rattle.ftl_model.proofs.lists.Rising.{in_map, map_has}
use Rattle.ftl_model.specs.layout.AttributeGrammar.{AttributeGrammar, Occurrence, Parts, Read, Sort, each_read, first_then, fold_over, inherited, input, kid, kid_before, last_read, local, occurrences, own, plain, prev_read, read_occurrences, seen_by, self_read, single_read, synthesized, this_read}
use Rattle.ftl_model.specs.layout.Path.{Path, down, kids_at, top}
use Rattle.ftl_model.specs.layout.Solves.{Instance, instance_of, rule_kid, rule_node, rule_of, seen_from}
use Rattle.ftl_model.specs.layout.Tree.{Forest}
use Rattle.ftl_order.specs.orders.Reads.{equation_reads}
use Rattle.ftl_relayout.specs.laws.Readers.{IsHit, IsReadBy, IsSeenAs, OneHits, ReadersAreNear, ReadsAreHits}

only_one : {X : Type 0} (x y : X) → Contains (x ∷ []) y → x ≡ y
only_one x y h = ⊎_elim (λ e. e) (λ none. absurd (nothing_in y none)) (in_cases x y [] h)

one_is : {X : Type 0} (x y : X) → x ≡ y → Contains (x ∷ []) y
one_is x y e = subst (Contains (x ∷ [])) e (here_in x [])

before_hit : (c a n : ℕ) (o : Occurrence) → Contains (kid_before c a n) o → (k : ℕ) × (n ≡ suc k) × (kid c k a ≡ o)
before_hit c a zero o h = absurd (nothing_in o h)
before_hit c a (suc k) o h = (k, refl, only_one (kid c k a) o h)

hit_before : (c a n : ℕ) (o : Occurrence) → ((k : ℕ) × (n ≡ suc k) × (kid c k a ≡ o)) → Contains (kid_before c a n) o
hit_before c a n o h =
    subst (λ m. Contains (kid_before c a m) o) (sym h.1) (one_is (kid c h.0 a) o h.2)

hit : (kids : ℕ → ℕ) (n : ℕ) (r : Read) (o : Occurrence) → Contains (occurrences kids n r) o → IsHit kids n r o
hit kids n (self_read a) o h = only_one (own a) o h
hit kids n (single_read c a) o h = only_one (kid c 0 a) o h
hit kids n (each_read c a) o h = only_one (kid c n a) o h
hit kids n (this_read c a) o h = only_one (kid c n a) o h
hit kids n (prev_read c a) o h = before_hit c a n o h
hit kids n (last_read c a) o h = before_hit c a (kids c) o h

of_hit : (kids : ℕ → ℕ) (n : ℕ) (r : Read) (o : Occurrence) → IsHit kids n r o → Contains (occurrences kids n r) o
of_hit kids n (self_read a) o h = one_is (own a) o h
of_hit kids n (single_read c a) o h = one_is (kid c 0 a) o h
of_hit kids n (each_read c a) o h = one_is (kid c n a) o h
of_hit kids n (this_read c a) o h = one_is (kid c n a) o h
of_hit kids n (prev_read c a) o h = hit_before c a n o h
of_hit kids n (last_read c a) o h = hit_before c a (kids c) o h

one_hits : (kids : ℕ → ℕ) (n : ℕ) (reads : List Read) (o : Occurrence) → Contains (seen_by kids n reads) o
    → OneHits kids n reads o
one_hits kids n reads o h =
    let f = in_flat_map (occurrences kids n) reads o h in (f.0, f.1, hit kids n f.0 o f.2)

of_one : (kids : ℕ → ℕ) (n : ℕ) (reads : List Read) (o : Occurrence) → OneHits kids n reads o
    → Contains (seen_by kids n reads) o
of_one kids n reads o h = flat_map_has (occurrences kids n) reads h.0 o h.1 (of_hit kids n h.0 o h.2)

read_by : (parts : Parts) (kids : ℕ → ℕ) (h : ℕ) (o : Occurrence) → Contains (read_occurrences parts kids h) o
    → IsReadBy parts kids h o
read_by (plain reads) kids h o c = one_hits kids h reads o c
read_by (first_then first later) kids zero o c = one_hits kids 0 first o c
read_by (first_then first later) kids (suc k) o c = one_hits kids (suc k) later o c
read_by (fold_over child start step) kids h o c =
    ⊎_elim (λ s. inl (one_hits kids h start o s))
    (λ w.
    let f = in_flat_map (λ n. seen_by kids n step) (range_with_len 0 (kids child)) o w in
    let b = (in_range_from 0 (kids child) f.0 f.1).1 in
    inr (f.0, (let z : f.0 < kids child = omega (arith, b) in z), one_hits kids f.0 step o f.2))
    (Contains-append_cases (seen_by kids h start)
    (flat_map (λ n. seen_by kids n step) (range_with_len 0 (kids child))) o c)

of_read : (parts : Parts) (kids : ℕ → ℕ) (h : ℕ) (o : Occurrence) → IsReadBy parts kids h o
    → Contains (read_occurrences parts kids h) o
of_read (plain reads) kids h o c = of_one kids h reads o c
of_read (first_then first later) kids zero o c = of_one kids 0 first o c
of_read (first_then first later) kids (suc k) o c = of_one kids (suc k) later o c
of_read (fold_over child start step) kids h o c =
    ⊎_elim
    (λ s.
    Contains-append_left (seen_by kids h start)
    (flat_map (λ n. seen_by kids n step) (range_with_len 0 (kids child))) o (of_one kids h start o s))
    (λ w.
    let b = w.1 in
    Contains-append_right (seen_by kids h start)
    (flat_map (λ n. seen_by kids n step) (range_with_len 0 (kids child))) o
    (flat_map_has (λ n. seen_by kids n step) (range_with_len 0 (kids child)) w.0 o
    (range_has 0 (kids child) w.0 (omega arith) (omega (arith, b))) (of_one kids w.0 step o w.2)))
    c

pub reads_are_hits : ReadsAreHits
reads_are_hits parts kids h o = (read_by parts kids h o, of_read parts kids h o)

seen_as : (v : Path) (i : Instance) (o : Occurrence) → seen_from v o ≡ i → IsSeenAs v i o
seen_as v i (own a) e = (ap (λ x. x.node) (sym e), ap (λ x. x.attribute) (sym e))
seen_as v i (kid c k a) e = (ap (λ x. x.node) (sym e), ap (λ x. x.attribute) (sym e))

as_seen : (v : Path) (i : Instance) (o : Occurrence) → IsSeenAs v i o → seen_from v o ≡ i
as_seen v i (own a) e = ap (λ p. instance_of p a) (sym e.0) ∙ ap (instance_of i.node) (sym e.1)
as_seen v i (kid c k a) e = ap (λ p. instance_of p a) (sym e.0) ∙ ap (instance_of i.node) (sym e.1)

module _ (g : AttributeGrammar) (t : Forest) where
  abbrev ReadsRule : Sort → Path → ℕ → Instance → Type 0
  ReadsRule sort p a i =
      (o : Occurrence) × IsSeenAs (rule_node sort p) i o
      × IsReadBy (rule_of g t sort p a).parts (kids_at t (rule_node sort p)) (rule_kid sort p) o

  by_rule : (parts : Parts) (kids : ℕ → ℕ) (n : ℕ) (v : Path) (i : Instance)
      → Contains (map (seen_from v) (read_occurrences parts kids n)) i
      → (o : Occurrence) × IsSeenAs v i o × IsReadBy parts kids n o
  by_rule parts kids n v i h =
      let m = in_map (seen_from v) (read_occurrences parts kids n) i h in
      (m.from, seen_as v i m.from m.is, read_by parts kids n m.from m.there)

  rule_by : (parts : Parts) (kids : ℕ → ℕ) (n : ℕ) (v : Path) (i : Instance)
      → ((o : Occurrence) × IsSeenAs v i o × IsReadBy parts kids n o)
      → Contains (map (seen_from v) (read_occurrences parts kids n)) i
  rule_by parts kids n v i h =
      subst (Contains (map (seen_from v) (read_occurrences parts kids n))) (as_seen v i h.0 h.1)
      (map_has (seen_from v) (read_occurrences parts kids n) h.0 (of_read parts kids n h.0 h.2))

  reads_rule : (sort : Sort) (p : Path) (a : ℕ) (i : Instance) → sort ≢ input
      → Contains (equation_reads g t sort p a) i ↔ ReadsRule sort p a i
  reads_rule input p a i h = absurd (h refl)
  reads_rule inherited top a i h = (
    by_rule (rule_of g t inherited top a).parts (kids_at t top) 0 top i,
    rule_by (rule_of g t inherited top a).parts (kids_at t top) 0 top i,
  )
  reads_rule inherited (down c k p) a i h = (
    by_rule (rule_of g t inherited (down c k p) a).parts (kids_at t p) k p i,
    rule_by (rule_of g t inherited (down c k p) a).parts (kids_at t p) k p i,
  )
  reads_rule synthesized p a i h = (
    by_rule (rule_of g t synthesized p a).parts (kids_at t p) 0 p i,
    rule_by (rule_of g t synthesized p a).parts (kids_at t p) 0 p i,
  )
  reads_rule local p a i h = (
    by_rule (rule_of g t local p a).parts (kids_at t p) 0 p i,
    rule_by (rule_of g t local p a).parts (kids_at t p) 0 p i,
  )

pub readers_are_near : ReadersAreNear
readers_are_near g t q i step = reads_rule g t (g.sort q.attribute) q.node q.attribute i step.1
